use Rattle.std.proofs.Common.{◌≡◌, ◌∙◌, ap, subst, is_some, ◌++◌, unwrap_or, Result}
use Rattle.std.specs.FinMap as map
use Rattle.lab_lattice.specs.Label.{Label}
use Rattle.kern_model.specs.declared.calls.Answer.TheVariants as answer
use Rattle.kern_model.specs.declared.numbers.Oid.{Oid}
use Rattle.kern_model.specs.declared.objects.Body.TheVariants as body
use Rattle.kern_model.specs.Create.{attr_of, creation, to_number}
use Rattle.kern_model.specs.Descriptors.{lowest_free}
use Rattle.kern_model.specs.FileRows.{has_descriptions, has_free_descriptors, description_creation}
use Rattle.kern_model.specs.Kinds.{masked_permissions, object_with}
use Rattle.kern_model.specs.OpenRows.{new_file, opens_made}
use Rattle.kern_model.specs.State.{State, apply_changes, process_at}
use Rattle.chk_rules.specs.CheckLog.{CheckLog}
use Rattle.chk_rules.specs.RowSteps.{GoesOn}
use Rattle.chk_rules.specs.declared.stop.Stop.{Stop}
use Rattle.sys_lookup.specs.Callers.{CallerView}
use Rattle.sys_lookup.proofs.PlayLemmas.{commits_as, no_memory_row, stops_keeping, then_plays}
use Rattle.sys_file.proofs.BranchLemmas.{answering}
use Rattle.sys_file.proofs.opening.open_new.Goals as goal

-- a number at an equal label
number_of : (s : State) {log b : CheckLog} {r : Result Oid Stop} {l m : Label} → l ≡ m → GoesOn log (to_number s l) r b → GoesOn log (to_number s m) r b
number_of s {log = log} {b = b} {r = r} same step = subst (λ (l : Label). GoesOn log (to_number s l) r b) same step

pub returns-in_err-id : goal.returns-in_err-id
returns-in_err-id c = λ log.
    let s = c.args.shared.now in
    let who = c.args.who.now in
    let label_is = c.label-label.ensures ∙ ap (λ (k : CallerView). k.process.label) c.new-caller.ensures.caller in
    stops_keeping {rest = opens_made s who (process_at s who) c.args.opening.now.flags (unwrap_or c.args.opening.now.mode 0) c.args.spot.now.0 c.args.spot.now.1} c.from_residual.result c.from_residual.ensures.1 c.in_err-id.ensures.kept
    (number_of s label_is (c.in_err-id.ensures.step log))

pub describe-requires-clause-living : goal.describe-requires-clause-living
describe-requires-clause-living c = ap (λ (x : State). is_some (map.get x.procs c.args.who.now)) c.in_ok-id.ensures.made ∙ c.requires.living

pub describe-requires-clause-free : goal.describe-requires-clause-free
describe-requires-clause-free c = ap (λ (x : State). has_free_descriptors (process_at x c.args.who.now) 1) c.in_ok-id.ensures.made ∙ c.requires.free

pub describe-requires-clause-left : goal.describe-requires-clause-left
describe-requires-clause-left c = ap (λ (x : State). has_descriptions x (process_at x c.args.who.now) 1) c.in_ok-id.ensures.made ∙ c.requires.left

pub returns-in_err-fd : goal.returns-in_err-fd
returns-in_err-fd c = λ log. no_memory_row c.from_residual-in_err-fd.result c.from_residual-in_err-fd.ensures.1

pub returns : goal.returns
returns c = λ log.
    let s = c.args.shared.now in
    let who = c.args.who.now in
    let p = process_at s who in
    let dir = c.args.spot.now.0 in
    let name = c.args.spot.now.1 in
    let id = c.in_ok-id.id in
    let flags = c.args.opening.now.flags in
    let mode = unwrap_or c.args.opening.now.mode 0 in
    let label_is = c.label-label.ensures ∙ ap (λ (k : CallerView). k.process.label) c.new-caller.ensures.caller in
    let attr_is = c.new_attr-attr.ensures ∙ (λ i. attr_of (c.new-caller.ensures.caller i).process (masked_permissions (c.unwrap_or-mode.ensures i) (c.new-caller.ensures.caller i).process.umask)) in
    let first = c.in_ok-id.ensures.made ∙ (λ i. apply_changes s (creation s (label_is i) dir name (object_with (label_is i) (attr_is i) (body.File (c.new-empty.ensures i))))) in
    then_plays {rest = opens_made s who p flags mode dir name}
    (number_of s label_is (c.in_ok-id.ensures.step log))
    (commits_as {changes = creation s p.label dir name (new_file p mode) ++ description_creation s who p id flags}
    (answering c.answers.ensures (ap answer.Number (c.in_ok-fd.ensures.fd ∙ ap (λ (u : State). lowest_free (process_at u who).fds) first)))
    (c.in_ok-fd.ensures.described ∙ ap (λ (u : State). apply_changes u (description_creation u who (process_at u who) id flags)) first))
