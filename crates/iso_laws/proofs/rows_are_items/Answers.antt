use Rattle.iso_laws.proofs.Laws.{rows_are_items}
use Rattle.iso_laws.proofs.rows_are_items.Goals as goal

pub returns : goal.returns
returns c = rows_are_items
