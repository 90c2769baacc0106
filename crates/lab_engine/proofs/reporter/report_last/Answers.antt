use Rattle.std.proofs.Common.{◌∙◌, ap}
use Rattle.lab_engine.specs.Order.{to_out}
use Rattle.lab_engine.proofs.Sending.{out_of_memory, in_order}
use Rattle.lab_engine.proofs.reporter.report_last.Goals as goal

pub returns-in_err-text : goal.returns-in_err-text
returns-in_err-text g c = λ source trail. out_of_memory _ _ _ c.from_residual.ensures.1

pub returns : goal.returns
returns g c = λ source trail. in_order c.answer.result _ _ _ _ (ap to_out (c.deref.ensures.value ∙ c.in_ok-text.ensures)) (c.answer.ensures source trail)
