use Rattle.std.proofs.Common.{◌∙◌, Some, ap, refl}
use Rattle.kern_model.specs.declared.calls.Answer.TheVariants.{Nothing}
use Rattle.kern_model.specs.declared.records.Rec.TheVariants.{MacSetProc}
use Rattle.kern_model.specs.ProcessRows.{asks_own_label, set_own_label}
use Rattle.kern_model.specs.State.{process_at}
use Rattle.sys_lookup.specs.Callers.{CallerView}
use Rattle.sys_lookup.proofs.PlayLemmas.{commits, equal_record, step_called, stops_row, then_plays}
use Rattle.sys_proc.proofs.labels.mac_set_proc.Goals as goal

pub returns-in_err-may_get : goal.returns-in_err-may_get
returns-in_err-may_get c =
    let who = c.args.who.now in
    stops_row {rest = λ _. set_own_label who (process_at c.args.shared.now who) c.args.label} c.from_residual.result c.from_residual.ensures.1 refl
    (step_called (λ k rest. asks_own_label who k.process c.args.label (rest tt)) c.new-caller.ensures.caller c.in_err-may_get.ensures)

pub returns : goal.returns
returns c =
    let who = c.args.who.now in
    then_plays {rest = λ _. set_own_label who (process_at c.args.shared.now who) c.args.label}
    (step_called (λ k rest. asks_own_label who k.process c.args.label (rest tt)) c.new-caller.ensures.caller c.in_ok-may_get.ensures)
    (equal_record (ap (λ l. Some (MacSetProc who l c.args.label)) (c.label-old.ensures ∙ ap (λ (k : CallerView). k.process.label) c.new-caller.ensures.caller))
    (commits _ _ _ _ Nothing (Some (MacSetProc who c.label-old.result c.args.label)) c.change_creds.ensures))
