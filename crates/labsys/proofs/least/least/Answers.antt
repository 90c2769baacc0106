use Rattle.std.proofs.Common.{refl}
use Rattle.labsys.proofs.LeastLemmas.{least_fails, least_written, script_fails}
use Rattle.labsys.proofs.least.least.Goals as goal

pub returns-in_err-kept : goal.returns-in_err-kept
returns-in_err-kept g c = λ trail.
    script_fails c.args.opened.read _ _ _ _ _ _ _ trail _ c.in_err-kept.ensures.needs (c.in_err-kept.ensures.counts _ _) c.from_residual.ensures.1

pub returns-in_err-report_least : goal.returns-in_err-report_least
returns-in_err-report_least g c = λ trail.
    least_fails c.args.opened.read _ _ _ _ _ _ _ trail c.in_ok-kept.kept c.in_ok-kept.ensures.needs c.in_ok-kept.ensures.counts _
    _ (c.in_err-report_least.ensures.writes _ trail) c.from_residual-in_err-report_least.ensures.1

pub returns : goal.returns
returns g c = λ trail.
    least_written c.args.opened.read _ _ _ _ _ _ _ trail c.in_ok-kept.kept c.in_ok-kept.ensures.needs c.in_ok-kept.ensures.counts _
    refl c.in_ok-report_least.ensures.back (c.in_ok-report_least.ensures.writes _ trail)
