use Rattle.lab_engine.proofs.Sending.{out_of_memory}
use Rattle.labsys.proofs.checking.report_check.Goals as goal

pub returns-in_err-text-in-Whole : goal.returns-in_err-text-in-Whole
returns-in_err-text-in-Whole g c = λ source trail. out_of_memory _ _ _ c.from_residual.ensures.1
