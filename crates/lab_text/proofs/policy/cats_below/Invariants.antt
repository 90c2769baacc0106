use Rattle.std.proofs.Common.{◌≡◌, ℕ, nat_lt}
use Rattle.lab_lattice.specs.Cats.{has_cat}
use Rattle.lab_text.proofs.policy.cats_below.Given as goal

abbrev pub invariant-loop-i : goal.invariant-loop-i
invariant-loop-i l = (q : ℕ) → has_cat l.cats q ≡ nat_lt q l.i
