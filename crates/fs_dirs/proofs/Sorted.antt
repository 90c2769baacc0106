-- Sorted lists, seen as finite maps: what a search of one finds, and what an edit of one makes.
use Rattle.std.proofs.Common.{◌≡◌, ℕ, zero, suc, ◌+◌, ◌<◌, ◌≤◌, Bool, true, false, List, [], ◌∷◌, length, get_or, set, Some, None, refl, ap, sym, ◌∙◌, subst, arith, inl, inr}
use Rattle.std.specs.Prelude.{T, not, cond, map}
use Rattle.std.specs.declared.cmp.Ordering.{Ordering}
use Rattle.std.specs.declared.cmp.Ordering.TheVariants.{Less, Equal, Greater}
use Rattle.std.specs.Ordering.{eq_by_cmp, is_eq, is_lt, ordering_index, ordering_reverse}
use Rattle.std.specs.Cmp.{IsTotalOrder, eq_by_cmp_equiv}
use Rattle.std.specs.List.{AllWithin, HoldsAt, insert, remove}
use Rattle.std.specs.List.Sorted.{IsNonDecreasingBy}
use Rattle.std.specs.FinMap as map
use Rattle.std.specs.FinMap.{IsAntisymmetric, find, put, is_sorted, from_sorted, entries-from_sorted, entries-insert, get-from_sorted, get-remove, same_entries_map, same_map}
use Rattle.std.specs.FinMap.Entries.{below_all, by_order, where_key, is_sorted-put, is_sorted-where_key, find-where_key}
use Rattle.std.proofs.lemmas.Bool.{cases_lt}
use Rattle.std.proofs.lemmas.List.{get_or_default}
use Rattle.std.proofs.lemmas.List.Sorted.{searchable_from_sorted}
use Rattle.std.proofs.lemmas.Cmp.{alike_right, tied_back}
use Rattle.kern_model.proofs.MapLemmas.{head_T, tail_T}

less : (r : Ordering) → T (is_lt r) → r ≡ Less
less Less h = refl
less Equal h = absurd h
less Greater h = absurd h

turned : (b : Bool) {X : Type 0} (x y : X) → cond (not b) x y ≡ cond b y x
turned true x y = refl
turned false x y = refl

-- what holds of the item at a place, whatever is read past the end
pub holds_at : {A : Type 0} (P : A → Type 0) (xs : List A) (i : ℕ) (x : A) → i < length xs → P (get_or xs i x) → HoldsAt P xs i
holds_at P xs i x within h d = subst P (get_or_default xs i x d within) h

-- items, each with a key and a value
module _ {A K X : Type 0} (pair : A → K × X) {R : K → K → Ordering} (o : IsTotalOrder R) where
  below_at : (k : K) (xs : List A) (i : ℕ) (d : A) → T (below_all R k (map pair xs)) → i < length xs → R k (pair (get_or xs i d)).0 ≡ Less
  below_at k [] i d h within = absurd (omega arith)
  below_at k (x ∷ xs) zero d h within = less _ (head_T _ _ h)
  below_at k (x ∷ xs) (suc i) d h within = below_at k xs i d (tail_T _ _ h) (omega arith)

  rises : (xs : List A) → T (is_sorted R (map pair xs)) → (i j : ℕ) (d : A) → i < j → j < length xs → R (pair (get_or xs i d)).0 (pair (get_or xs j d)).0 ≡ Less
  rises [] h i j d below within = absurd (omega arith)
  rises (x ∷ xs) h i zero d below within = absurd (omega arith)
  rises (x ∷ xs) h zero (suc j) d below within = below_at (pair x).0 xs j d (head_T _ _ h) (omega arith)
  rises (x ∷ xs) h (suc i) (suc j) d below within = rises xs (tail_T _ _ h) i j d (omega arith) (omega arith)

  forth : (x k : K) → R x k ≡ Greater → R k x ≡ Less
  forth x k e = o.antisymm k x ∙ ap ordering_reverse e

  back : (x k : K) → R k x ≡ Less → R x k ≡ Greater
  back x k e = o.antisymm x k ∙ ap ordering_reverse e

  all_kept : (j k : K) (es : List (K × X)) → R j k ≡ Equal → T (below_all R j es) → where_key R (λ x. not (eq_by_cmp R k x)) es ≡ es
  all_kept j k [] tie h = refl
  all_kept j k (e ∷ es) tie h =
      ap (λ r. cond (not (is_eq r)) (e ∷ where_key R (λ x. not (eq_by_cmp R k x)) es) (where_key R (λ x. not (eq_by_cmp R k x)) es)) (sym (o.congr j k e.0 tie) ∙ less _ (head_T _ _ h))
      ∙ ap (λ fs. e ∷ fs) (all_kept j k es tie (tail_T _ _ h))

  -- ---- what a search finds
  -- the answers to a key rise, as a binary search asks
  pub answers_rise : (xs : List A) (k : K) → T (is_sorted R (map pair xs)) → IsNonDecreasingBy (λ a. ordering_index (R (pair a).0 k)) xs
  answers_rise xs k h = searchable_from_sorted o (λ a. (pair a).0) xs k (λ i d from below. ap is_lt (back _ _ (rises xs h i (i + 1) d (omega arith) below)))

  -- an item before one that is too small is too small
  pub less_upto : (xs : List A) (k : K) (i : ℕ) → T (is_sorted R (map pair xs)) → i < length xs → HoldsAt (λ a. R (pair a).0 k ≡ Less) xs i → AllWithin (λ a. R (pair a).0 k ≡ Less) xs 0 (i + 1)
  less_upto xs k i h within here j d from below = elim (cases_lt j i) [
    | inl before ↦ o.trans _ _ _ (rises xs h j i d before within) (here d)
    | inr at ↦ subst (λ n. R (pair (get_or xs n d)).0 k ≡ Less) {x = i} {y = j} (omega arith) (here d)
  ]

  -- one after one that is too great is too great
  pub greater_from : (xs : List A) (k : K) (i : ℕ) → T (is_sorted R (map pair xs)) → HoldsAt (λ a. R (pair a).0 k ≡ Greater) xs i → AllWithin (λ a. R (pair a).0 k ≡ Greater) xs i (length xs)
  greater_from xs k i h here j d from below = elim (cases_lt i j) [
    | inl before ↦ back _ k (o.trans _ _ _ (forth _ k (here d)) (rises xs h i j d before below))
    | inr at ↦ subst (λ n. R (pair (get_or xs n d)).0 k ≡ Greater) {x = i} {y = j} (omega arith) (here d)
  ]

  -- the value of an item with the key is found
  pub find_at : (xs : List A) (k : K) (i : ℕ) (a : A) → T (is_sorted R (map pair xs)) → i < length xs → HoldsAt (λ x. R (pair x).0 k ≡ Equal) xs i → a ≡ get_or xs i a → find R k (map pair xs) ≡ Some (pair a).1
  find_at [] k i a h within here is = absurd (omega arith)
  find_at (x ∷ xs) k zero a h within here is = ap (λ r. cond (is_eq r) (Some (pair x).1) (find R k (map pair xs))) (tied_back o _ _ (here x)) ∙ ap (λ y. Some (pair y).1) (sym is)
  find_at (x ∷ xs) k (suc i) a h within here is =
      let before : R (pair x).0 k ≡ Less = sym (alike_right o _ k (pair x).0 (here x)) ∙ below_at (pair x).0 xs i x (head_T _ _ h) (omega arith) in
      ap (λ r. cond (is_eq r) (Some (pair x).1) (find R k (map pair xs))) (o.antisymm k _ ∙ ap ordering_reverse before)
      ∙ find_at xs k i a (tail_T _ _ h) (omega arith) here is

  -- where no item has the key, nothing is found
  pub find_none : (xs : List A) (k : K) (i : ℕ) → AllWithin (λ a. R (pair a).0 k ≡ Less) xs 0 i → AllWithin (λ a. R (pair a).0 k ≡ Greater) xs i (length xs) → find R k (map pair xs) ≡ None
  find_none [] k i less greater = refl
  find_none (x ∷ xs) k zero less greater =
      ap (λ r. cond (is_eq r) (Some (pair x).1) (find R k (map pair xs))) (forth _ k (greater 0 x (omega arith) (omega arith)))
      ∙ find_none xs k zero (λ j d from below. absurd (omega arith)) (λ j d from below. greater (suc j) d (omega arith) (omega arith))
  find_none (x ∷ xs) k (suc i) less greater =
      ap (λ r. cond (is_eq r) (Some (pair x).1) (find R k (map pair xs))) (o.antisymm k _ ∙ ap ordering_reverse (less 0 x (omega arith) (omega arith)))
      ∙ find_none xs k i (λ j d from below. less (suc j) d (omega arith) (omega arith)) (λ j d from below. greater (suc j) d (omega arith) (omega arith))

  -- ---- what an edit makes
  -- an item that is put in at its place
  pub put_in : (xs : List A) (i : ℕ) (a : A) → i ≤ length xs → AllWithin (λ x. R (pair x).0 (pair a).0 ≡ Less) xs 0 i → AllWithin (λ x. R (pair x).0 (pair a).0 ≡ Greater) xs i (length xs)
      → map pair (insert xs i a) ≡ put R (pair a).0 (pair a).1 (map pair xs)
  put_in [] zero a within less greater = refl
  put_in [] (suc i) a within less greater = absurd (omega arith)
  put_in (x ∷ xs) zero a within less greater =
      ap (λ r. by_order r (pair a ∷ pair x ∷ map pair xs) (((pair x).0, (pair a).1) ∷ map pair xs) (pair x ∷ put R (pair a).0 (pair a).1 (map pair xs))) (sym (forth _ _ (greater 0 x (omega arith) (omega arith))))
  put_in (x ∷ xs) (suc i) a within less greater =
      ap (λ es. pair x ∷ es) (put_in xs i a (omega arith) (λ j d from below. less (suc j) d (omega arith) (omega arith)) (λ j d from below. greater (suc j) d (omega arith) (omega arith)))
      ∙ ap (λ r. by_order r (pair a ∷ pair x ∷ map pair xs) (((pair x).0, (pair a).1) ∷ map pair xs) (pair x ∷ put R (pair a).0 (pair a).1 (map pair xs))) (sym (o.antisymm _ _ ∙ ap ordering_reverse (less 0 x (omega arith) (omega arith))))

  -- another value for the key
  pub put_over : (xs : List A) (k : K) (i : ℕ) (a : A) (v : X) → T (is_sorted R (map pair xs)) → i < length xs → HoldsAt (λ x. R (pair x).0 k ≡ Equal) xs i → HoldsAt (λ x. pair a ≡ ((pair x).0, v)) xs i
      → map pair (set xs i a) ≡ put R k v (map pair xs)
  put_over [] k i a v h within here is = absurd (omega arith)
  put_over (x ∷ xs) k zero a v h within here is =
      ap (λ e. e ∷ map pair xs) (is x) ∙ ap (λ r. by_order r ((k, v) ∷ pair x ∷ map pair xs) (((pair x).0, v) ∷ map pair xs) (pair x ∷ put R k v (map pair xs))) (sym (tied_back o _ _ (here x)))
  put_over (x ∷ xs) k (suc i) a v h within here is =
      let before : R (pair x).0 k ≡ Less = sym (alike_right o _ k (pair x).0 (here x)) ∙ below_at (pair x).0 xs i x (head_T _ _ h) (omega arith) in
      ap (λ es. pair x ∷ es) (put_over xs k i a v (tail_T _ _ h) (omega arith) here is)
      ∙ ap (λ r. by_order r ((k, v) ∷ pair x ∷ map pair xs) (((pair x).0, v) ∷ map pair xs) (pair x ∷ put R k v (map pair xs))) (sym (o.antisymm k _ ∙ ap ordering_reverse before))

  -- the item with the key is taken out
  pub taken_out : (xs : List A) (k : K) (i : ℕ) → T (is_sorted R (map pair xs)) → i < length xs → HoldsAt (λ x. R (pair x).0 k ≡ Equal) xs i → map pair (remove xs i) ≡ where_key R (λ x. not (eq_by_cmp R k x)) (map pair xs)
  taken_out [] k i h within here = absurd (omega arith)
  taken_out (x ∷ xs) k zero h within here =
      sym (all_kept (pair x).0 k (map pair xs) (here x) (head_T _ _ h))
      ∙ ap (λ r. cond (not (is_eq r)) (pair x ∷ where_key R (λ x. not (eq_by_cmp R k x)) (map pair xs)) (where_key R (λ x. not (eq_by_cmp R k x)) (map pair xs))) (sym (tied_back o _ _ (here x)))
  taken_out (x ∷ xs) k (suc i) h within here =
      let before : R (pair x).0 k ≡ Less = sym (alike_right o _ k (pair x).0 (here x)) ∙ below_at (pair x).0 xs i x (head_T _ _ h) (omega arith) in
      ap (λ es. pair x ∷ es) (taken_out xs k i (tail_T _ _ h) (omega arith) here)
      ∙ ap (λ r. cond (not (is_eq r)) (pair x ∷ where_key R (λ x. not (eq_by_cmp R k x)) (map pair xs)) (where_key R (λ x. not (eq_by_cmp R k x)) (map pair xs))) (sym (o.antisymm k _ ∙ ap ordering_reverse before))

-- ---- the maps that sorted lists make
module _ {K X : Type 0} {R : K → K → Ordering} (o : IsTotalOrder R) where
  pub sorted_put : (es fs : List (K × X)) (k : K) (v : X) → T (is_sorted R es) → fs ≡ put R k v es → T (is_sorted R fs)
  sorted_put es fs k v h is = subst (λ gs. T (is_sorted R gs)) (sym is) (is_sorted-put R o k v es h)

  pub map_put : (es fs : List (K × X)) (k : K) (v : X) → T (is_sorted R es) → fs ≡ put R k v es → from_sorted {R = R} fs ≡ map.insert (from_sorted es) k v
  map_put es fs k v h is =
      same_entries_map _ _ (entries-from_sorted R fs (sorted_put es fs k v h is) ∙ is ∙ sym (entries-insert o (from_sorted es) k v ∙ ap (put R k v) (entries-from_sorted R es h)))

  pub sorted_without : (es fs : List (K × X)) (k : K) → T (is_sorted R es) → fs ≡ where_key R (λ x. not (eq_by_cmp R k x)) es → T (is_sorted R fs)
  sorted_without es fs k h is = subst (λ gs. T (is_sorted R gs)) (sym is) (is_sorted-where_key R (λ x. not (eq_by_cmp R k x)) es h)

  pub map_without : IsAntisymmetric R → (es fs : List (K × X)) (k : K) → T (is_sorted R es) → fs ≡ where_key R (λ x. not (eq_by_cmp R k x)) es → from_sorted {R = R} fs ≡ map.remove (from_sorted es) k
  map_without exact es fs k h is =
      same_map o exact _ _ (λ q.
      get-from_sorted R fs q (sorted_without es fs k h is) ∙ ap (find R q) is
      ∙ find-where_key R (λ x. not (eq_by_cmp R k x)) q (λ x tie. ap (λ r. not (is_eq r)) (sym (alike_right o q x k tie))) es
      ∙ turned (eq_by_cmp R k q) (find R q es) None ∙ ap (λ b. cond b None (find R q es)) ((eq_by_cmp_equiv o).symm k q)
      ∙ sym (get-remove o (from_sorted es) k q ∙ ap (cond (eq_by_cmp R q k) None) (get-from_sorted R es q h)))
