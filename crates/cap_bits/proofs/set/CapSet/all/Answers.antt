use Rattle.cap_bits.proofs.Words.{word_all}
use Rattle.cap_bits.proofs.set.CapSet.all.Goals as goal

pub returns : goal.returns
returns c = word_all
