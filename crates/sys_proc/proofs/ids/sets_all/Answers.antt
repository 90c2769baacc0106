use Rattle.std.proofs.Common.{◌≡◌, ◌∙◌, true, sym, ap}
use Rattle.kern_model.specs.declared.checks.Check.{Check}
use Rattle.kern_model.specs.Rules.{cap_of}
use Rattle.chk_rules.proofs.Steps.{equal_check}
use Rattle.sys_lookup.proofs.CheckLemmas.{holds_where_passed}
use Rattle.sys_proc.specs.IdKind.{may_set}
use Rattle.sys_proc.proofs.IdLemmas.{no_capability}
use Rattle.sys_proc.proofs.StepLemmas.{soft_stops, soft_granted, else_stops, else_goes}
use Rattle.sys_proc.proofs.ids.sets_all.Goals as goal

pub returns-in_err-all-clause-step : goal.returns-in_err-all-clause-step
returns-in_err-all-clause-step c = soft_stops c.all_check.ensures c.from_residual.result c.from_residual.ensures.1 c.in_err-all.ensures

pub returns-in_err-must-clause-step : goal.returns-in_err-must-clause-step
returns-in_err-must-clause-step c =
    else_stops c.all_check.ensures c.in_ok-all.ensures c.from_residual-in_err-must.result c.from_residual-in_err-must.ensures.1 c.if-not-all.true
    (equal_check c.effective_check.ensures c.in_err-must.ensures)

pub returns-in_ok-must-clause-step : goal.returns-in_ok-must-clause-step
returns-in_ok-must-clause-step c = else_goes c.all_check.ensures c.in_ok-all.ensures c.if-not-all.true (equal_check c.effective_check.ensures c.in_ok-must.ensures)

pub returns-in_ok-must-clause-allowed : goal.returns-in_ok-must-clause-allowed
returns-in_ok-must-clause-allowed c =
    let check_is = c.effective_check.ensures in
    let holds : c.effective_check.result.holds ≡ true =
    holds_where_passed c.prefer.new.checks c.must.new.checks c.effective_check.result (ap (λ (k : Check). cap_of k.name) check_is ∙ no_capability c.args.kind) c.in_ok-must.ensures in
    ap (may_set c.args.kind c.args.caller.now.process.ids c.args.id) c.if-not-all.true ∙ sym (ap (λ (k : Check). k.holds) check_is) ∙ holds

pub returns-else-not-all-clause-step : goal.returns-else-not-all-clause-step
returns-else-not-all-clause-step c = soft_granted c.all_check.ensures c.in_ok-all.ensures c.if-not-all.false
