-- Values whose order is reversed.
use Rattle.std.specs.Prelude.{Bool}
use Rattle.std.specs.declared.cmp.Ordering.{Ordering}
use Rattle.lab_lattice.specs.declared.dual.Dual.{Dual}

module _ {A : Type 0} where
  -- the inner value of the second covers that of the first
  abbrev pub dual_covers : (A → A → Bool) → Dual A → Dual A → Bool
  dual_covers f x y = f y.inner x.inner

  -- what an operation makes of the inner values
  abbrev pub dual_of : (A → A → A) → Dual A → Dual A → Dual A
  dual_of f x y = record { inner = f x.inner y.inner }

  -- what is listed first is listed last
  abbrev pub dual_cmp : (A → A → Ordering) → Dual A → Dual A → Ordering
  dual_cmp f x y = f y.inner x.inner
