use Rattle.std.proofs.Common.{◌∙◌, None, ap, not, refl}
use Rattle.kern_model.specs.declared.calls.Answer.TheVariants as answer
use Rattle.kern_model.specs.Kinds.{is_dir}
use Rattle.kern_model.specs.TreeRows.{read_dir}
use Rattle.chk_rules.proofs.Steps.{equal_refusal}
use Rattle.sys_lookup.proofs.PlayLemmas.{commits_as, need_plays, need_stops_row, no_memory_row, refuse_plays, refuse_stops_row, stops_row, then_plays}
use Rattle.sys_lookup.specs.declared.shared.Metadata.{Metadata}
use Rattle.sys_tree.proofs.EntryLemmas.{on_reached}
use Rattle.sys_tree.proofs.reading.readdir.Goals as goal

pub returns-in_err-id : goal.returns-in_err-id
returns-in_err-id c = λ who.
    stops_row {rest = on_reached (read_dir c.args.caller.now.state c.args.caller.now.process)} c.from_residual.result c.from_residual.ensures.1 refl c.in_err-id.ensures.step

pub returns-in_err-dir : goal.returns-in_err-dir
returns-in_err-dir c = λ who.
    then_plays {rest = on_reached (read_dir c.args.caller.now.state c.args.caller.now.process)} c.in_ok-id.ensures.step
    (need_stops_row c.from_residual-in_err-dir.result c.from_residual-in_err-dir.ensures.1 refl c.in_err-dir.ensures.step)

pub returns-in_err-refuse_if : goal.returns-in_err-refuse_if
returns-in_err-refuse_if c = λ who.
    then_plays {rest = on_reached (read_dir c.args.caller.now.state c.args.caller.now.process)} c.in_ok-id.ensures.step
    (need_plays c.in_ok-dir.ensures.step
    (refuse_stops_row c.from_residual-in_err-refuse_if.result c.from_residual-in_err-refuse_if.ensures.1 refl
    (equal_refusal (ap not (c.is_directory.ensures ∙ ap (λ (m : Metadata). is_dir m.kind) c.in_ok-dir.ensures.object)) (c.in_err-refuse_if.ensures c.read_object.new.checks))))

pub returns-in_err-dac_read : goal.returns-in_err-dac_read
returns-in_err-dac_read c = λ who.
    let s = c.args.caller.now.state in
    then_plays {rest = on_reached (read_dir s c.args.caller.now.process)} c.in_ok-id.ensures.step
    (need_plays c.in_ok-dir.ensures.step
    (refuse_plays (equal_refusal (ap not (c.is_directory.ensures ∙ ap (λ (m : Metadata). is_dir m.kind) c.in_ok-dir.ensures.object)) (c.in_ok-refuse_if.ensures c.read_object.new.checks))
    (need_stops_row c.from_residual-in_err-dac_read.result c.from_residual-in_err-dac_read.ensures.1 refl (c.in_err-dac_read.ensures s c.in_ok-id.id c.in_ok-dir.ensures.object))))

pub returns-in_err-names : goal.returns-in_err-names
returns-in_err-names c = λ who. no_memory_row c.from_residual-in_err-names.result c.from_residual-in_err-names.ensures.1

pub returns : goal.returns
returns c = λ who.
    let s = c.args.caller.now.state in
    then_plays {rest = on_reached (read_dir s c.args.caller.now.process)} c.in_ok-id.ensures.step
    (need_plays c.in_ok-dir.ensures.step
    (refuse_plays (equal_refusal (ap not (c.is_directory.ensures ∙ ap (λ (m : Metadata). is_dir m.kind) c.in_ok-dir.ensures.object)) (c.in_ok-refuse_if.ensures c.read_object.new.checks))
    (need_plays (c.in_ok-dac_read.ensures s c.in_ok-id.id c.in_ok-dir.ensures.object)
    (commits_as (c.answers.ensures ∙ ap (λ names. record { answer = answer.Names names; own = None }) c.in_ok-names.ensures) refl))))
