use Rattle.iso_laws.proofs.Laws.{top_boot, top_step}
use Rattle.iso_laws.proofs.top_stays.Goals as goal

pub returns-clause-boot : goal.returns-clause-boot
returns-clause-boot c = top_boot

pub returns-clause-step : goal.returns-clause-step
returns-clause-step c = top_step
