use Rattle.iso_laws.proofs.Laws.{growth_by_records}
use Rattle.iso_laws.proofs.growth_by_records.Goals as goal

pub returns : goal.returns
returns c = growth_by_records
