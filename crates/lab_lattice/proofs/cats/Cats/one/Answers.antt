use Rattle.std.proofs.Common.{◌∙◌}
use Rattle.lab_lattice.proofs.Words.{word_one}
use Rattle.lab_lattice.proofs.cats.Cats.one.Goals as goal

pub returns-then-i-lt-MAX_CATS-clause-one : goal.returns-then-i-lt-MAX_CATS-clause-one
returns-then-i-lt-MAX_CATS-clause-one c = c.from_word.ensures ∙ word_one c.args.i c.if-i-lt-MAX_CATS.true
