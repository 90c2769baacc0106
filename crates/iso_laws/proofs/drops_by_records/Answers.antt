use Rattle.iso_laws.proofs.Laws.{drops_by_records}
use Rattle.iso_laws.proofs.drops_by_records.Goals as goal

pub returns : goal.returns
returns c = drops_by_records
