-- Where the values of a table are kept: in a slab, under a key of the slab for each number.
use Rattle.std.specs.Prelude.{◌≡◌, ℕ, Some, IsSome}
use Rattle.std.specs.declared.cmp.Ordering.{Ordering}
use Rattle.std.specs.FinMap as map
use Rattle.std.specs.FinMap.{FinMap}
use Rattle.slab.specs.Slab.{Slab, get, slab_len}
use Rattle.kern_model.specs.Maps.{select}

-- the values that a slab holds under these keys
unfoldable pub values_in : {K X : Type 0} {R : K → K → Ordering} → Slab X → FinMap R ℕ → FinMap R X
values_in {K = K} slots keys = select (λ (n : K) (key : ℕ). get slots key) keys

-- each number has a place of its own in the slab, which holds nothing else
pub record IsPlaced {K X : Type 0} {R : K → K → Ordering} (slots : Slab X) (keys : FinMap R ℕ) : Type 0 where
  pub there : (n : K) (key : ℕ) → map.get keys n ≡ Some key → IsSome (get slots key)
  pub apart : (a b : K) (key : ℕ) → map.get keys a ≡ Some key → map.get keys b ≡ Some key → a ≡ b
  pub size : slab_len slots ≡ map.len keys
