use Rattle.iso_laws.proofs.Laws.{caps_by_records}
use Rattle.iso_laws.proofs.caps_by_records.Goals as goal

pub returns : goal.returns
returns c = caps_by_records
