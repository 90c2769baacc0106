use Rattle.lab_engine.proofs.Sending.{out_of_memory}
use Rattle.labsys.proofs.upgrading.write_world.Goals as goal

pub returns-in_err-text-clause-writes : goal.returns-in_err-text-clause-writes
returns-in_err-text-clause-writes g c = λ source trail. out_of_memory _ _ _ c.from_residual.ensures.1
