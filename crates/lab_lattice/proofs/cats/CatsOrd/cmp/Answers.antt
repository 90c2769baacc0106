use Rattle.std.proofs.Common.{◌∙◌}
use Rattle.lab_lattice.specs.Word.{cats_cmp}
use Rattle.lab_lattice.proofs.Words.{word_cmp}
use Rattle.lab_lattice.proofs.cats.CatsOrd.cmp.Goals as goal

pub returns : goal.returns
returns c = c.cmp.ensures ∙ word_cmp c.word.result c.word-2.result c.word.type_inv c.word-2.type_inv ∙ (λ i. cats_cmp (c.word.ensures i) (c.word-2.ensures i))
