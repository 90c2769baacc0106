use Rattle.std.proofs.Common.{◌∙◌, ap, sym, refl, not}
use Rattle.std.proofs.lemmas.Bool.{not-false}
use Rattle.kern_model.specs.declared.calls.Errno.TheVariants.{ENOSPC}
use Rattle.kern_model.specs.Create.{has_object_number, to_number}
use Rattle.kern_model.specs.FileRows.{has_descriptions, has_free_descriptors, make_pipe, may_describe}
use Rattle.kern_model.specs.State.{process_at}
use Rattle.chk_rules.proofs.Steps.{equal_refusal}
use Rattle.sys_lookup.specs.Callers.{CallerView}
use Rattle.sys_lookup.proofs.PlayLemmas.{commits_as, no_memory_row, refuse_plays, refuse_stops_row, step_called, stops_row, then_plays}
use Rattle.sys_file.proofs.WriteLemmas.{never_refused}
use Rattle.sys_file.proofs.pipes.pipe.Goals as goal

pub returns-in_err-may_open : goal.returns-in_err-may_open
returns-in_err-may_open c = λ log.
    let s = c.args.shared.now in
    let who = c.args.who.now in
    let p = process_at s who in
    stops_row {rest = λ _. to_number s p.label (λ _. make_pipe s who p)} c.from_residual.result c.from_residual.ensures.1 refl
    (step_called (λ k rest. may_describe k.state k.process 2 (rest tt)) c.new-caller.ensures.caller (c.in_err-may_open.ensures.step log))

pub returns-in_err-refuse_if : goal.returns-in_err-refuse_if
returns-in_err-refuse_if c = λ log.
    let s = c.args.shared.now in
    let can = c.can_create.ensures ∙ ap (has_object_number s) (c.label.ensures ∙ ap (λ (k : CallerView). k.process.label) c.new-caller.ensures.caller) in
    then_plays {rest = λ _. to_number s (process_at s c.args.who.now).label (λ _. make_pipe s c.args.who.now (process_at s c.args.who.now))} (step_called (λ k rest. may_describe k.state k.process 2 (rest tt)) c.new-caller.ensures.caller (c.in_ok-may_open.ensures.step log))
    (refuse_stops_row c.from_residual-in_err-refuse_if.result c.from_residual-in_err-refuse_if.ensures.1 refl (equal_refusal (ap not can) (c.in_err-refuse_if.ensures log)))

pub make_pipe-requires-clause-number : goal.make_pipe-requires-clause-number
make_pipe-requires-clause-number c =
    let can = c.can_create.ensures ∙ ap (has_object_number c.args.shared.now) (c.label.ensures ∙ ap (λ (k : CallerView). k.process.label) c.new-caller.ensures.caller) in
    sym can ∙ not-false c.can_create.result (never_refused ENOSPC (not c.can_create.result) c.in_ok-refuse_if.ensures)

pub make_pipe-requires-clause-free : goal.make_pipe-requires-clause-free
make_pipe-requires-clause-free c = ap (λ (k : CallerView). has_free_descriptors k.process 2) (sym c.new-caller.ensures.caller) ∙ c.in_ok-may_open.ensures.free

pub make_pipe-requires-clause-left : goal.make_pipe-requires-clause-left
make_pipe-requires-clause-left c = ap (λ (k : CallerView). has_descriptions k.state k.process 2) (sym c.new-caller.ensures.caller) ∙ c.in_ok-may_open.ensures.left

pub returns-in_err-make_pipe : goal.returns-in_err-make_pipe
returns-in_err-make_pipe c = λ log. no_memory_row c.from_residual-in_err-make_pipe.result c.from_residual-in_err-make_pipe.ensures.1

pub returns : goal.returns
returns c = λ log.
    let s = c.args.shared.now in
    let can = c.can_create.ensures ∙ ap (has_object_number s) (c.label.ensures ∙ ap (λ (k : CallerView). k.process.label) c.new-caller.ensures.caller) in
    then_plays {rest = λ _. to_number s (process_at s c.args.who.now).label (λ _. make_pipe s c.args.who.now (process_at s c.args.who.now))} (step_called (λ k rest. may_describe k.state k.process 2 (rest tt)) c.new-caller.ensures.caller (c.in_ok-may_open.ensures.step log))
    (refuse_plays (equal_refusal (ap not can) (c.in_ok-refuse_if.ensures log))
    (commits_as c.in_ok-make_pipe.ensures.answer c.in_ok-make_pipe.ensures.piped))
