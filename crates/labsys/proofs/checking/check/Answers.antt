use Rattle.std.proofs.Common.{refl}
use Rattle.labsys.proofs.CheckLemmas.{check_fails, found_fails, found_written}
use Rattle.labsys.proofs.checking.check.Goals as goal

pub returns-in_err-checked : goal.returns-in_err-checked
returns-in_err-checked g c = λ trail.
    let did = c.in_err-checked.ensures.checks in
    check_fails c.args.opened.read _ _ _ _ _ did.taken did.takes _ _ _ trail _ (c.in_err-checked.ensures.counts _ _) c.from_residual.ensures.1

pub returns-in_err-report_check : goal.returns-in_err-report_check
returns-in_err-report_check g c = λ trail.
    let did = c.in_ok-checked.ensures.checks in
    found_fails c.args.opened.read _ _ _ _ _ did.taken did.takes _ _ _ trail c.in_ok-checked.ensures.counts c.in_ok-checked.checked did.did _ _ (c.in_err-report_check.ensures _ trail) c.from_residual-in_err-report_check.ensures.1

pub returns : goal.returns
returns g c = λ trail.
    let did = c.in_ok-checked.ensures.checks in
    found_written c.args.opened.read _ _ _ _ _ did.taken did.takes _ _ _ trail c.in_ok-checked.ensures.counts c.in_ok-checked.checked did.did _ refl (c.in_ok-report_check.ensures _ trail)
