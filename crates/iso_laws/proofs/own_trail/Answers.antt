use Rattle.iso_laws.proofs.Laws.{own_trail}
use Rattle.iso_laws.proofs.own_trail.Goals as goal

pub returns : goal.returns
returns c = own_trail
