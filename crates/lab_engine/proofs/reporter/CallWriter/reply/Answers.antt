use Rattle.std.proofs.Common.{◌∙◌, ap}
use Rattle.lab_engine.specs.Order.{to_out}
use Rattle.lab_engine.proofs.Sending.{in_order, out_of_memory}
use Rattle.lab_engine.proofs.reporter.CallWriter.reply.Goals as goal

pub returns-in_err-self-clause-writes : goal.returns-in_err-self-clause-writes
returns-in_err-self-clause-writes g c = λ source. out_of_memory _ _ _ c.from_residual.ensures.1

pub returns-clause-writes : goal.returns-clause-writes
returns-clause-writes g c = λ source. in_order c.answer.result _ _ _ _ (ap to_out (c.deref.ensures.value ∙ c.in_ok-self.ensures)) (c.answer.ensures source _)
