-- Which categories the empty set and a set of one category have.
use Rattle.std.specs.Prelude.{◌≡◌, ℕ, ◌||◌, ◌==◌, false}
use Rattle.std.specs.FinSet as set
use Rattle.std.specs.Ordering.{nat_cmp}
use Rattle.std.specs.Cmp.{nat_cmp_total, unsigned_tied}
use Rattle.std.proofs.Common.{◌∙◌}
use Rattle.std.proofs.Math.Bool.{or-false}
use Rattle.lab_lattice.specs.Cats.{has_cat, no_cats, one_cat}

pub has-no_cats : (q : ℕ) → has_cat no_cats q ≡ false
has-no_cats q = set.contains-empty nat_cmp q

pub has-one_cat : (i q : ℕ) → has_cat (one_cat i) q ≡ (q == i)
has-one_cat i q = set.contains-insert nat_cmp_total no_cats i q ∙ (λ j. unsigned_tied q i j || has-no_cats q j) ∙ or-false (q == i)
