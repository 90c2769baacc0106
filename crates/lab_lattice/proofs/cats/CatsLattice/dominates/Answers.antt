use Rattle.std.proofs.Common.{◌∙◌}
use Rattle.lab_lattice.specs.Cats.{cats_cover}
use Rattle.lab_lattice.proofs.Words.{word_cover}
use Rattle.lab_lattice.proofs.cats.CatsLattice.dominates.Goals as goal

pub returns : goal.returns
returns c = word_cover c.word.result c.word-below.result c.word.type_inv c.word-below.type_inv ∙ (λ i. cats_cover (c.word.ensures i) (c.word-below.ensures i))
