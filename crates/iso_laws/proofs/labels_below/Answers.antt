use Rattle.iso_laws.proofs.Laws.{labels_below}
use Rattle.iso_laws.proofs.labels_below.Goals as goal

pub returns : goal.returns
returns c = labels_below
