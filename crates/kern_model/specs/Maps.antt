-- Finite maps: with a default, the part of one, and tests on entries.
use Rattle.std.specs.Prelude.{◌≡◌, ℕ, List, [], ◌∷◌, Bool, Option, Some, None, cond, count_by}
use Rattle.std.specs.declared.cmp.Ordering.{Ordering}
use Rattle.std.specs.FinMap as map
use Rattle.std.specs.FinMap.{FinMap}
use Rattle.std.specs.List.{list_any}

-- what a table holds at a key, or the default
unfoldable pub get_or : {K X : Type 0} {R : K → K → Ordering} → FinMap R X → K → X → X
get_or m k d = elim (map.get m k) [ None ↦ d | Some x ↦ x ]

-- this holds of what a map has at a key, if it has something there
abbrev pub IfPresent : {K X : Type 0} {R : K → K → Ordering} → FinMap R X → K → (X → Type 0) → Type 0
IfPresent {X = X} m k P = (x : X) → map.get m k ≡ Some x → P x

-- the entry, if there is one
abbrev pub with_entry : {K X : Type 0} → K → Option X → List (K × X) → List (K × X)
with_entry k None es = es
with_entry k (Some x) es = (k, x) ∷ es

module _ {K X Y : Type 0} (f : K → X → Option Y) where
  abbrev pub selected : List (K × X) → List (K × Y)
  selected [] = []
  selected (e ∷ es) = with_entry e.0 (f e.0 e.1) (selected es)

module _ {K X Y : Type 0} {R : K → K → Ordering} where
  -- the map of what the function makes of each entry, if it makes something
  unfoldable pub select : (K → X → Option Y) → FinMap R X → FinMap R Y
  select f m = map.from_entries (selected f (map.entries m))

-- keeps what the test passes at the key, and changes what is there
abbrev pub where_key : {K X Y : Type 0} → (K → Bool) → (X → Y) → K → X → Option Y
where_key keep g k x = cond (keep k) (Some (g x)) None

module _ {K X : Type 0} {R : K → K → Ordering} where
  -- whether some entry passes a test
  unfoldable pub any_entry : (K → X → Bool) → FinMap R X → Bool
  any_entry p m = list_any (λ (e : K × X). p e.0 e.1) (map.entries m)

  -- how many entries pass a test
  unfoldable pub count_entries : (K → X → Bool) → FinMap R X → ℕ
  count_entries p m = count_by (λ (e : K × X). p e.0 e.1) (map.entries m)
