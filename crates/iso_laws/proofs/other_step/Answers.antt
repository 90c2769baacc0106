use Rattle.iso_laws.proofs.Laws.{other_step}
use Rattle.iso_laws.proofs.other_step.Goals as goal

pub returns : goal.returns
returns c = other_step
