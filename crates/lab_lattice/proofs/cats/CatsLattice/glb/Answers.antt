use Rattle.std.proofs.Common.{◌∙◌}
use Rattle.lab_lattice.specs.Cats.{cats_meet}
use Rattle.lab_lattice.proofs.Words.{word_meet}
use Rattle.lab_lattice.proofs.cats.CatsLattice.glb.Goals as goal

pub returns : goal.returns
returns c = c.from_word.ensures ∙ word_meet c.word.result c.word-2.result c.word.type_inv c.word-2.type_inv ∙ (λ i. cats_meet (c.word.ensures i) (c.word-2.ensures i))
