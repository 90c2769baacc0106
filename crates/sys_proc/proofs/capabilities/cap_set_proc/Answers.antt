use Rattle.std.proofs.Common.{◌∙◌, Some, ap, refl, sym}
use Rattle.kern_model.specs.declared.calls.Answer.TheVariants.{Nothing}
use Rattle.kern_model.specs.declared.checks.Check.{Check}
use Rattle.kern_model.specs.declared.records.Rec.TheVariants.{CapSetProc}
use Rattle.kern_model.specs.Row.{Need}
use Rattle.kern_model.specs.Rules.{cap_grow, cap_of}
use Rattle.chk_rules.proofs.Steps.{equal_check}
use Rattle.sys_lookup.specs.Callers.{CallerView}
use Rattle.sys_lookup.proofs.CheckLemmas.{holds_where_passed}
use Rattle.sys_lookup.proofs.PlayLemmas.{commits, need_plays, need_stops_row, step_called}
use Rattle.sys_proc.proofs.capabilities.cap_set_proc.Goals as goal

pub change_creds-requires-clause-allowed : goal.change_creds-requires-clause-allowed
change_creds-requires-clause-allowed c =
    let is = c.cap_grow.ensures ∙ ap (λ (k : CallerView). cap_grow c.args.who.now k.process c.args.caps) c.new-caller.ensures.caller in
    sym (ap (λ (k : Check). k.holds) is) ∙ holds_where_passed c.args.checks.now c.must.new.checks c.cap_grow.result (ap (λ (k : Check). cap_of k.name) is) c.in_ok-must.ensures

pub returns-in_err-must : goal.returns-in_err-must
returns-in_err-must c =
    need_stops_row c.from_residual.result c.from_residual.ensures.1 refl
    (step_called (λ k rest. Need (cap_grow c.args.who.now k.process c.args.caps) (rest tt)) c.new-caller.ensures.caller (equal_check c.cap_grow.ensures c.in_err-must.ensures))

pub returns : goal.returns
returns c =
    need_plays
    (step_called (λ k rest. Need (cap_grow c.args.who.now k.process c.args.caps) (rest tt)) c.new-caller.ensures.caller (equal_check c.cap_grow.ensures c.in_ok-must.ensures))
    (commits _ _ _ _ Nothing (Some (CapSetProc c.args.who.now c.args.caps)) c.change_creds.ensures)
