use Rattle.std.proofs.Common.{ap, ◌∙◌, arith}
use Rattle.lab_lattice.specs.Cats.{has_cat}
use Rattle.lab_lattice.proofs.Words.{word_has, word_lacks}
use Rattle.lab_lattice.proofs.cats.Cats.has.Goals as goal

pub returns-then-i-lt-MAX_CATS : goal.returns-then-i-lt-MAX_CATS
returns-then-i-lt-MAX_CATS c = word_has c.word-word.result c.args.i c.word-word.type_inv ∙ ap (λ s. has_cat s c.args.i) c.word-word.ensures

pub returns-else-i-lt-MAX_CATS : goal.returns-else-i-lt-MAX_CATS
returns-else-i-lt-MAX_CATS c = word_lacks c.word-word.result c.args.i (omega arith) ∙ ap (λ s. has_cat s c.args.i) c.word-word.ensures
