use Rattle.std.proofs.Common.{refl, [], Some, Ok, Result, List, ℕ, subst}
use Rattle.kern_model.specs.AuditRows.{aud_write_row}
use Rattle.kern_model.specs.declared.calls.Answer.TheVariants.{Nothing}
use Rattle.kern_model.specs.declared.records.Rec.TheVariants.{Note}
use Rattle.kern_model.specs.State.{process_at}
use Rattle.chk_rules.specs.declared.stop.Stop.{Stop}
use Rattle.sys_lookup.specs.declared.effect.Effect.{Effect}
use Rattle.sys_lookup.specs.PlaysRow.{PlaysRow}
use Rattle.sys_lookup.proofs.PlayLemmas.{commits, need_plays, need_stops_row, no_memory_row}
use Rattle.kern_core.proofs.AuditLemmas.{asked}
use Rattle.kern_core.proofs.calls.auditing.aud_write.Goals as goal

pub returns-in_err-must : goal.returns-in_err-must
returns-in_err-must c = need_stops_row c.from_residual.result c.from_residual.ensures.1 refl (asked c.new-caller.ensures.caller c.by_capability.ensures c.in_err-must.ensures)

pub returns-in_err-copy : goal.returns-in_err-copy
returns-in_err-copy c = no_memory_row c.from_residual-in_err-copy.result c.from_residual-in_err-copy.ensures.1

pub returns : goal.returns
returns c =
    let s = c.args.shared.now in
    let who = c.args.who.now in
    let r : Result Effect Stop = Ok (record { answer = Nothing; own = Some (Note who c.in_ok-copy.field-0) }) in
    subst (λ (b : List ℕ). PlaysRow s c.args.checks.now (aud_write_row s who (process_at s who) b) r s c.must.new.checks) c.in_ok-copy.ensures
    (need_plays (asked c.new-caller.ensures.caller c.by_capability.ensures c.in_ok-must.ensures)
    (commits s s c.must.new.checks [] Nothing (Some (Note who c.in_ok-copy.field-0)) refl))
