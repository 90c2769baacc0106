-- Pairs, ordered part by part. Outside this file the two orders are known by their equations alone.
use Rattle.std.specs.Prelude.{◌≡◌, Bool, ◌&&◌, refl}
use Rattle.std.specs.declared.cmp.Ordering.{Ordering}
use Rattle.std.specs.Ordering.{ordering_then}
use Rattle.lab_lattice.specs.declared.pair.Pair.{Pair}

module _ {A B : Type 0} where
  -- each part of the first pair covers that of the second
  pub pair_covers : (A → A → Bool) → (B → B → Bool) → Pair A B → Pair A B → Bool
  pair_covers f g x y = f x.first y.first && g x.second y.second

  pub pair_covers-parts : (f : A → A → Bool) (g : B → B → Bool) (x y : Pair A B) → pair_covers f g x y ≡ (f x.first y.first && g x.second y.second)
  unfolding pair_covers
  pair_covers-parts f g x y = refl

  -- what two operations make of the parts
  abbrev pub pair_of : (A → A → A) → (B → B → B) → Pair A B → Pair A B → Pair A B
  pair_of f g x y = record { first = f x.first y.first; second = g x.second y.second }

  -- pairs are listed by their first parts, and then by their second ones
  pub pair_cmp : (A → A → Ordering) → (B → B → Ordering) → Pair A B → Pair A B → Ordering
  pair_cmp f g x y = ordering_then (f x.first y.first) (g x.second y.second)

  pub pair_cmp-parts : (f : A → A → Ordering) (g : B → B → Ordering) (x y : Pair A B) → pair_cmp f g x y ≡ ordering_then (f x.first y.first) (g x.second y.second)
  unfolding pair_cmp
  pair_cmp-parts f g x y = refl
