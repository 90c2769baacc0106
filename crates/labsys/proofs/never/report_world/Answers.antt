use Rattle.lab_engine.proofs.Sending.{goes_on, in_order, out_of_memory, stops}
use Rattle.labsys.proofs.NeverLemmas.{lines_are}
use Rattle.labsys.proofs.never.report_world.Goals as goal

pub returns-in_err-kernel : goal.returns-in_err-kernel
returns-in_err-kernel g c = λ source trail. out_of_memory _ _ _ c.from_residual.ensures.1

pub returns-in_err-numbers : goal.returns-in_err-numbers
returns-in_err-numbers g c = λ source trail. out_of_memory _ _ _ c.from_residual-in_err-numbers.ensures.1

pub returns-in_err-crossers : goal.returns-in_err-crossers
returns-in_err-crossers g c = λ source trail. out_of_memory _ _ _ c.from_residual-in_err-crossers.ensures.1

pub returns-in_err-report_caps : goal.returns-in_err-report_caps
returns-in_err-report_caps g c = λ source trail.
    in_order _ _ _ _ _ (lines_are c.args.texts.policy.now c.args.world.now _ c.in_ok-crossers.ensures _ c.in_ok-kernel.ensures.state _ c.in_ok-numbers.ensures)
    (stops _ _ _ _ _ _ (c.in_err-report_caps.ensures source trail) c.from_residual-in_err-report_caps.ensures.1)

pub returns : goal.returns
returns g c = λ source trail.
    in_order c.report_crossings.result _ _ _ _ (lines_are c.args.texts.policy.now c.args.world.now _ c.in_ok-crossers.ensures _ c.in_ok-kernel.ensures.state _ c.in_ok-numbers.ensures)
    (goes_on c.report_crossings.result _ _ _ _ _ (c.in_ok-report_caps.ensures source trail) (c.report_crossings.ensures source trail))
