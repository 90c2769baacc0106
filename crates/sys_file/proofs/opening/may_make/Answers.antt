use Rattle.chk_rules.proofs.Steps.{refuse_goes, refuse_stops}
use Rattle.sys_file.proofs.opening.may_make.Goals as goal

pub returns-in_err-refuse_if-clause-step : goal.returns-in_err-refuse_if-clause-step
returns-in_err-refuse_if-clause-step c = refuse_stops c.from_residual.result c.from_residual.ensures.1 (c.in_err-refuse_if.ensures c.args.checks.now)

pub returns-clause-step : goal.returns-clause-step
returns-clause-step c = refuse_goes (c.in_ok-refuse_if.ensures c.args.checks.now) c.make_in.ensures.step
