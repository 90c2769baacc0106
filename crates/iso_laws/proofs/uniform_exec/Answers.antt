use Rattle.iso_laws.proofs.Laws.{uniform_exec}
use Rattle.iso_laws.proofs.uniform_exec.Goals as goal

pub returns : goal.returns
returns c = uniform_exec
