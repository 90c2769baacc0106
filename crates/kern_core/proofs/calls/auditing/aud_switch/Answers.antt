use Rattle.std.proofs.Common.{refl, [], ◌∷◌, Some}
use Rattle.kern_model.specs.declared.calls.Answer.TheVariants.{Nothing}
use Rattle.kern_model.specs.declared.records.Rec.TheVariants.{Switch}
use Rattle.kern_model.specs.State.{SetProcess, process_at}
use Rattle.sys_lookup.proofs.PlayLemmas.{commits, need_plays, need_stops_row}
use Rattle.kern_core.proofs.AuditLemmas.{asked}
use Rattle.kern_core.proofs.calls.auditing.aud_switch.Goals as goal

pub returns-in_err-must : goal.returns-in_err-must
returns-in_err-must c = need_stops_row c.from_residual.result c.from_residual.ensures.1 refl (asked c.new-caller.ensures.caller c.by_capability.ensures c.in_err-must.ensures)

pub returns : goal.returns
returns c =
    let s = c.args.shared.now in
    let who = c.args.who.now in
    need_plays (asked c.new-caller.ensures.caller c.by_capability.ensures c.in_ok-must.ensures)
    (commits s _ _ (SetProcess who (record (process_at s who) { audited = c.args.on }) ∷ []) Nothing (Some (Switch who c.args.on)) c.switch.ensures)
