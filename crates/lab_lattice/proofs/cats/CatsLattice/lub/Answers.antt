use Rattle.std.proofs.Common.{◌∙◌}
use Rattle.lab_lattice.specs.Cats.{cats_join}
use Rattle.lab_lattice.proofs.Words.{word_join}
use Rattle.lab_lattice.proofs.cats.CatsLattice.lub.Goals as goal

pub returns : goal.returns
returns c = c.from_word.ensures ∙ word_join c.word.result c.word-2.result c.word.type_inv c.word-2.type_inv ∙ (λ i. cats_join (c.word.ensures i) (c.word-2.ensures i))
