use Rattle.std.proofs.Common.{◌∙◌}
use Rattle.lab_lattice.specs.Cats.{same_sets}
use Rattle.lab_lattice.proofs.Words.{word_same}
use Rattle.lab_lattice.proofs.cats.CatsPartialEq.eq.Goals as goal

pub returns : goal.returns
returns c = word_same c.word.result c.word-2.result c.word.type_inv c.word-2.type_inv ∙ (λ i. same_sets (c.word.ensures i) (c.word-2.ensures i))
