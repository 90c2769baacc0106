use Rattle.std.proofs.Common.{refl}
use Rattle.labsys.proofs.NeverLemmas.{never_fails, said_fails, said_written}
use Rattle.labsys.proofs.never.never.Goals as goal

pub report_never-requires-clause-world : goal.report_never-requires-clause-world
report_never-requires-clause-world g c = c.requires.world

pub returns-in_err-checked : goal.returns-in_err-checked
returns-in_err-checked g c = λ trail.
    let did = c.in_err-checked.ensures.checks in
    never_fails c.args.opened.read _ _ _ _ _ did.taken did.takes _ _ _ trail _ (c.in_err-checked.ensures.counts _ _) c.from_residual.ensures.1

pub returns-in_err-report_never : goal.returns-in_err-report_never
returns-in_err-report_never g c = λ trail.
    let did = c.in_ok-checked.ensures.checks in
    said_fails c.args.opened.read _ _ _ _ _ did.taken did.takes _ _ _ trail c.in_ok-checked.ensures.counts c.in_ok-checked.checked did.did _ _ (c.in_err-report_never.ensures _ trail) c.from_residual-in_err-report_never.ensures.1

pub returns : goal.returns
returns g c = λ trail.
    let did = c.in_ok-checked.ensures.checks in
    said_written c.args.opened.read _ _ _ _ _ did.taken did.takes _ _ _ trail c.in_ok-checked.ensures.counts c.in_ok-checked.checked did.did _ refl (c.in_ok-report_never.ensures _ trail)
