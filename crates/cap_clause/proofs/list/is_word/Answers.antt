use Rattle.std.specs.Str.{str_to_ascii_lowercase}
use Rattle.std.proofs.lemmas.Bool.Decides.{same_from_decides}
use Rattle.std.proofs.lemmas.Slice.Eq.{bytes_eq-Decides}
use Rattle.cap_clause.proofs.list.is_word.Goals as goal

pub returns : goal.returns
returns c = same_from_decides _ _ (c.eq_ignore_ascii_case.ensures.test.0, c.eq_ignore_ascii_case.ensures.test.1) (bytes_eq-Decides (str_to_ascii_lowercase c.args.own.now) (str_to_ascii_lowercase c.args.word.now))
