use Rattle.std.proofs.Common.{◌≡◌, ◌++◌, drop}
use Rattle.lab_text.specs.Text.{names_in, past_mark}
use Rattle.lab_text.proofs.text.put_cats.Given as goal

abbrev pub invariant-loop-place : goal.invariant-loop-place
invariant-loop-place l = l.text.items ++ past_mark l.mark (names_in l.cats l.place (drop l.place l.policy.cats)) ≡ l.fn.text.items ++ past_mark 58 (names_in l.cats 0 l.policy.cats)
