use Rattle.lab_engine.proofs.Sending.{out_of_memory}
use Rattle.labsys.proofs.least.report_least.Goals as goal

pub returns-in_err-text-in-Whole-clause-writes : goal.returns-in_err-text-in-Whole-clause-writes
returns-in_err-text-in-Whole-clause-writes g c = λ source trail. out_of_memory _ _ _ c.from_residual.ensures.1
