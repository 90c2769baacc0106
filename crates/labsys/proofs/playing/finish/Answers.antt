use Rattle.std.proofs.Common.{sym}
use Rattle.lab_engine.proofs.Sending.{goes_on, in_order, stops, to_out-append}
use Rattle.labsys.proofs.playing.finish.Goals as goal

pub returns-in_err-report_ends : goal.returns-in_err-report_ends
returns-in_err-report_ends g c = λ source trail. in_order _ _ _ _ _ (sym (to_out-append _ _)) (stops _ _ _ _ _ _ (c.in_err-report_ends.ensures source trail) c.from_residual.ensures.1)

pub returns : goal.returns
returns g c = λ source trail. in_order c.report_last.result _ _ _ _ (sym (to_out-append _ _)) (goes_on c.report_last.result _ _ _ _ _ (c.in_ok-report_ends.ensures source trail) (c.report_last.ensures source trail))
