use Rattle.std.proofs.Common.{Err, Ok, subst}
use Rattle.kern_model.specs.declared.checks.Place.{Place}
use Rattle.chk_rules.specs.RowSteps.{GoesOn}
use Rattle.sys_lookup.specs.Walks.{pass_name}
use Rattle.sys_lookup.proofs.PassLemmas.{all_passed, none_passed, one_more, passing_stops}
use Rattle.sys_lookup.proofs.caller.Caller.pass_all.Goals as goal

pub loop-passed-init : goal.loop-passed-init
loop-passed-init c = none_passed _ _ _ _ _ _

pub returns-in_err-dir : goal.returns-in_err-dir
returns-in_err-dir c =
    passing_stops _ _ _ c.loop-passed.invariant c.loop-passed-test.true c.index-names-passed.is c.from_residual.result c.from_residual.ensures.1
    (subst (λ (place : Place). GoesOn c.loop-passed.checks (pass_name c.args.self.now.state c.args.self.now.process place c.loop-passed.dir c.index-names-passed.result) (Err c.in_err-dir.field-0.0) c.pass.new.checks) c.place-place.ensures c.in_err-dir.ensures)

pub loop-passed-preserved : goal.loop-passed-preserved
loop-passed-preserved c =
    one_more _ _ _ c.loop-passed.invariant c.loop-passed-test.true c.index-names-passed.is
    (subst (λ (place : Place). GoesOn c.loop-passed.checks (pass_name c.args.self.now.state c.args.self.now.process place c.loop-passed.dir c.index-names-passed.result) (Ok c.in_ok-dir.dir) c.pass.new.checks) c.place-place.ensures c.in_ok-dir.ensures)

pub returns : goal.returns
returns c = all_passed _ _ _ c.loop-passed.invariant c.loop-passed-test.false
