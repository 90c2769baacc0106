use Rattle.iso_laws.proofs.Laws.{caps_stay}
use Rattle.iso_laws.proofs.caps_stay.Goals as goal

pub returns : goal.returns
returns c = caps_stay
