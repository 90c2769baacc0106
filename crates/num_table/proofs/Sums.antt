-- Sums over the entries of a map, after one of them is set or goes.
use Rattle.std.specs.Prelude.{◌≡◌, ◌||◌, ◌==◌, not, ℕ, ◌+◌, Bool, true, false, List, [], ◌∷◌, Some, None, cond, sum_by, refl}
use Rattle.std.specs.declared.cmp.Ordering.{Ordering}
use Rattle.std.specs.declared.cmp.Ordering.TheVariants.{Less, Equal, Greater}
use Rattle.std.specs.Ordering.{is_eq, eq_by_cmp}
use Rattle.std.specs.List.{list_any}
use Rattle.std.specs.Cmp.{IsTotalOrder}
use Rattle.std.specs.FinMap as map
use Rattle.std.specs.FinMap.{FinMap, IsAntisymmetric, find, put, entries-insert, get-entries, get-insert, get-remove, len-empty, len-entries, same_map}
use Rattle.std.specs.FinMap.Entries.{by_order}
use Rattle.std.proofs.Common.{ap, sym, ◌∙◌, arith}
use Rattle.std.proofs.lemmas.Bool.Decides.{nat_tests}
use Rattle.std.proofs.lemmas.List.{nil_from_length}
use Rattle.std.proofs.lemmas.List.Sums.{sum_by-cons}
use Rattle.kern_model.proofs.Selections.{get-remove_same}
use Rattle.kern_model.proofs.MapLemmas.{never_some, insert-same}

-- ---- maps
module _ {K X : Type 0} {R : K → K → Ordering} (o : IsTotalOrder R) where
  module _ (exact : IsAntisymmetric R) where
    -- what is set may be removed first
    pub set_over : (m : FinMap R X) (k : K) (x : X) → map.insert (map.remove m k) k x ≡ map.insert m k x
    set_over m k x = same_map o exact _ _ (λ q.
        get-insert o (map.remove m k) k x q ∙ ap (cond (eq_by_cmp R q k) (Some x)) (get-remove o m k q)
        ∙ elim (eq_by_cmp R q k) as (λ b. cond b (Some x) (cond b None (map.get m q)) ≡ cond b (Some x) (map.get m q)) [ true ↦ refl | false ↦ refl ]
        ∙ sym (get-insert o m k x q))

    -- and so what is there may be removed and put back
    pub insert-remove : (m : FinMap R X) (k : K) (x : X) → map.get m k ≡ Some x → map.insert (map.remove m k) k x ≡ m
    insert-remove m k x is = set_over m k x ∙ insert-same o exact m k x is

-- the empty map has no entry
pub no_entries : {K : Type 0} (R : K → K → Ordering) (X : Type 0) → map.entries (map.empty {K = K} {X = X} {R = R}) ≡ []
no_entries R X = nil_from_length (map.entries (map.empty {X = X} {R = R})) (sym (len-entries (map.empty {X = X} {R = R})) ∙ len-empty R X)

-- ---- sums
swapped : (a b n m : ℕ) → n ≡ b + m → a + n ≡ b + (a + m)
swapped a b n m e = omega arith

module _ {K X : Type 0} (f : K → X → ℕ) where
  abbrev worth : K × X → ℕ
  worth e = f e.0 e.1

  -- the sum over all entries
  abbrev pub sum_entries : {R : K → K → Ordering} → FinMap R X → ℕ
  sum_entries m = sum_by worth (map.entries m)

  put_summed : (R : K → K → Ordering) (k : K) (x : X) (es : List (K × X)) → find R k es ≡ None → sum_by worth (put R k x es) ≡ f k x + sum_by worth es
  put_summed R k x [] none = sum_by-cons worth (k, x) []
  put_summed R k x (e ∷ es) none =
      elim (R k e.0) as (λ r. cond (is_eq r) (Some e.1) (find R k es) ≡ None → sum_by worth (by_order r ((k, x) ∷ e ∷ es) ((e.0, x) ∷ es) (e ∷ put R k x es)) ≡ f k x + sum_by worth (e ∷ es)) [
        | Less ↦ λ _. sum_by-cons worth (k, x) (e ∷ es)
        | Equal ↦ λ g. absurd (never_some (Some e.1) e.1 g refl)
        | Greater ↦ λ g.
            sum_by-cons worth e (put R k x es)
            ∙ swapped (worth e) (f k x) (sum_by worth (put R k x es)) (sum_by worth es) (put_summed R k x es g)
            ∙ ap (λ n. f k x + n) (sym (sum_by-cons worth e es))
      ] none

  module _ {R : K → K → Ordering} (o : IsTotalOrder R) where
    -- an entry that is new is added
    pub sum-insert : (m : FinMap R X) (k : K) (x : X) → map.get m k ≡ None → sum_entries (map.insert m k x) ≡ f k x + sum_entries m
    sum-insert m k x none = ap (sum_by worth) (entries-insert o m k x) ∙ put_summed R k x (map.entries m) (sym (get-entries m k) ∙ none)

    module _ (exact : IsAntisymmetric R) where
      -- an entry that goes was part of it
      pub sum-remove : (m : FinMap R X) (k : K) (x : X) → map.get m k ≡ Some x → sum_entries m ≡ f k x + sum_entries (map.remove m k)
      sum-remove m k x e = ap (λ (m : FinMap R X). sum_entries m) (sym (insert-remove o exact m k x e)) ∙ sum-insert (map.remove m k) k x (get-remove_same o m k)

      -- an entry in place of one that was there
      pub sum-replace : (m : FinMap R X) (k : K) (x y : X) → map.get m k ≡ Some x → f k x + sum_entries (map.insert m k y) ≡ f k y + sum_entries m
      sum-replace m k x y e =
          let new : sum_entries (map.insert m k y) ≡ f k y + sum_entries (map.remove m k) = ap (λ (m : FinMap R X). sum_entries m) (sym (set_over o exact m k y)) ∙ sum-insert (map.remove m k) k y (get-remove_same o m k) in
          let old = sum-remove m k x e in
          omega (arith, new, old)

  -- the sum of the empty map
  pub sum-empty : (R : K → K → Ordering) → sum_entries (map.empty {R = R}) ≡ 0
  sum-empty R = ap (sum_by worth) (no_entries R X)

module _ {X : Type 0} (t : X → Bool) (g : X → ℕ) where
  either : (n m k : ℕ) (b : Bool) → b ≡ not (n == 0) → k ≡ n + m → (b || not (m == 0)) ≡ not (k == 0)
  either n m k true e s = let more : (k == 0) ≡ false = grind (arith, nat_tests) in ap not (sym more)
  either n m k false e s = let same : m ≡ k = grind (arith, nat_tests) in ap (λ j. not (j == 0)) same

  -- some element passes where a sum is not 0, to which each adds where it passes
  pub any-sum : ((x : X) → t x ≡ not (g x == 0)) → (xs : List X) → list_any t xs ≡ not (sum_by g xs == 0)
  any-sum h [] = refl
  any-sum h (x ∷ xs) = ap (λ b. t x || b) (any-sum h xs) ∙ either (g x) (sum_by g xs) (sum_by g (x ∷ xs)) (t x) (h x) (sum_by-cons g x xs)
