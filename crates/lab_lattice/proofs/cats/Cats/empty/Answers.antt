use Rattle.lab_lattice.proofs.Words.{word_none}
use Rattle.lab_lattice.proofs.cats.Cats.empty.Goals as goal

pub returns : goal.returns
returns c = word_none
