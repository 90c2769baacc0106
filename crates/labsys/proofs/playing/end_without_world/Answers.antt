use Rattle.lab_engine.proofs.Sending.{passes_on}
use Rattle.labsys.proofs.playing.end_without_world.Goals as goal

pub returns-in_err-report_last-clause-writes : goal.returns-in_err-report_last-clause-writes
returns-in_err-report_last-clause-writes g c = λ source trail. passes_on _ _ _ _ _ (c.in_err-report_last.ensures source trail) c.from_residual.ensures.1
