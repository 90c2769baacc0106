use Rattle.cap_bits.proofs.Words.{word_none}
use Rattle.cap_bits.proofs.set.CapSet.none.Goals as goal

pub returns : goal.returns
returns c = word_none
