use Rattle.iso_laws.proofs.Laws.{refusals_are_named}
use Rattle.iso_laws.proofs.refusals_are_named.Goals as goal

pub returns : goal.returns
returns c = refusals_are_named
