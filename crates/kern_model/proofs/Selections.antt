-- Tests, counts and lists of a map's entries, for a selection of the map and after a change of the map.
use Rattle.std.specs.Prelude.{◌≡◌, ℕ, ◌+◌, ◌≤◌, Bool, true, false, not, ◌||◌, ◌&&◌, List, [], ◌∷◌, ◌++◌, Option, Some, None, refl, cond, count_by, length}
use Rattle.std.specs.declared.cmp.Ordering.{Ordering}
use Rattle.std.specs.Ordering.{eq_by_cmp, is_eq}
use Rattle.std.specs.Option.{option_map, option_and_then}
use Rattle.std.specs.List.{AllByRecursion, list_any, flat_map, find as find_in}
use Rattle.std.specs.Cmp.{IsTotalOrder}
use Rattle.std.specs.FinMap as map
use Rattle.std.specs.Map.{keys_of}
use Rattle.std.specs.FinMap.{FinMap, IsAntisymmetric, find, is_sorted, get-from_entries, get-entries, entries_sorted, same_map, get-insert, get-remove, from_sorted, from_entries, entries-from_sorted, get-from_sorted}
use Rattle.std.specs.FinMap.Entries.{below_all}
use Rattle.std.proofs.Common.{sym, ◌∙◌, ap, arith, T}
use Rattle.std.proofs.lemmas.Bool.{or_parts, true≢false}
use Rattle.std.proofs.lemmas.List.Sums.{sum_by-cons, count_by-le-length}
use Rattle.std.proofs.lemmas.Cmp.{tied_itself}
use Rattle.kern_model.specs.Maps.{with_entry, selected, select, any_entry, count_entries}
use Rattle.kern_model.proofs.MapLemmas.{each-entries, same_key, some_same, get-select, get-insert_same, remove-insert, count_entries-one, head_T, tail_T, count_entries-none}
use Rattle.kern_model.proofs.TableLemmas.{both_T}

-- what a test says of the entry, if there is one
abbrev pub test_after : {K Y : Type 0} → (K → Y → Bool) → K → Option Y → Bool
test_after p k None = false
test_after p k (Some y) = p k y

-- what a function lists of the entry, if there is one
abbrev pub list_after : {K Y A : Type 0} → (K → Y → List A) → K → Option Y → List A
list_after g k None = []
list_after g k (Some y) = g k y

-- ---- the first item that passes a test
module _ {X Y : Type 0} (p : X → Bool) (f : X → Y) where
  pub find_none : (xs : List X) → list_any p xs ≡ false → option_map f (find_in p xs) ≡ None
  find_none [] none = refl
  find_none (x ∷ xs) none = let parts = or_parts (p x) (list_any p xs) none in ap (λ b. option_map f (cond b (Some x) (find_in p xs))) parts.0 ∙ find_none xs parts.1

  -- where all items that pass have the same image, the first one has it
  pub find_only : (y : Y) (xs : List X) → AllByRecursion (λ x. p x ≡ true → f x ≡ y) xs → list_any p xs ≡ true → option_map f (find_in p xs) ≡ Some y
  find_only y [] h some = absurd (true≢false (sym some))
  find_only y (x ∷ xs) h some =
      elim (p x) as (λ b. p x ≡ b → (b || list_any p xs) ≡ true → option_map f (cond b (Some x) (find_in p xs)) ≡ Some y) [
        | true ↦ λ t _. ap (λ (z : Y). Some z) (h.0 t)
        | false ↦ λ _ rest. find_only y xs h.1 rest
      ] refl some

-- ---- the entries of a selection are the selected entries
module _ {K X Y : Type 0} {R : K → K → Ordering} (o : IsTotalOrder R) (exact : IsAntisymmetric R) (f : K → X → Option Y) where
  below-selected : (k : K) (es : List (K × X)) → T (below_all R k es) → T (below_all R k (selected f es))
  below-selected k [] h = tt
  below-selected k (e ∷ es) h =
      let rest = below-selected k es (tail_T _ _ h) in
      elim (f e.0 e.1) as (λ w. T (below_all R k (with_entry e.0 w (selected f es)))) [ None ↦ rest | Some y ↦ both_T _ _ (head_T _ _ h) rest ]

  sorted-selected : (es : List (K × X)) → T (is_sorted R es) → T (is_sorted R (selected f es))
  sorted-selected [] h = tt
  sorted-selected (e ∷ es) h =
      let rest = sorted-selected es (tail_T _ _ h) in
      elim (f e.0 e.1) as (λ w. T (is_sorted R (with_entry e.0 w (selected f es)))) [ None ↦ rest | Some y ↦ both_T _ _ (below-selected e.0 es (head_T _ _ h)) rest ]

  pub entries-select : (m : FinMap R X) → map.entries (select f m) ≡ selected f (map.entries m)
  unfolding select
  entries-select m =
      let es : List (K × Y) = selected f (map.entries m) in
      let sorted : T (is_sorted R es) = sorted-selected (map.entries m) (entries_sorted m) in
      ap map.entries (same_map o exact (from_entries es) (from_sorted es) (λ q. get-from_entries o es q ∙ sym (get-from_sorted R es q sorted))) ∙ entries-from_sorted R es sorted

  -- a test that what is selected of an entry passes exactly where the entry passes another test
  module _ (p : K → X → Bool) (p' : K → Y → Bool) where
    abbrev Agree : K × X → Type 0
    Agree e = test_after p' e.0 (f e.0 e.1) ≡ p e.0 e.1

    any-selected : (es : List (K × X)) → AllByRecursion Agree es → list_any (λ (e : K × Y). p' e.0 e.1) (selected f es) ≡ list_any (λ (e : K × X). p e.0 e.1) es
    any-selected [] h = refl
    any-selected (e ∷ es) h =
        let rest = any-selected es h.1 in
        elim (f e.0 e.1) as (λ w. test_after p' e.0 w ≡ p e.0 e.1 → list_any (λ (e : K × Y). p' e.0 e.1) (with_entry e.0 w (selected f es)) ≡ (p e.0 e.1 || list_any (λ (e : K × X). p e.0 e.1) es)) [
          | None ↦ λ t. rest ∙ ap (λ b. b || list_any (λ (e : K × X). p e.0 e.1) es) t
          | Some y ↦ λ t. λ i. t i || rest i
        ] h.0

    count-selected : (es : List (K × X)) → AllByRecursion Agree es → count_by (λ (e : K × Y). p' e.0 e.1) (selected f es) ≡ count_by (λ (e : K × X). p e.0 e.1) es
    count-selected [] h = refl
    count-selected (e ∷ es) h =
        let rest = count-selected es h.1 in
        let one = sum_by-cons (λ (e : K × X). cond (p e.0 e.1) 1 0) e es in
        elim (f e.0 e.1) as (λ w. test_after p' e.0 w ≡ p e.0 e.1 → count_by (λ (e : K × Y). p' e.0 e.1) (with_entry e.0 w (selected f es)) ≡ count_by (λ (e : K × X). p e.0 e.1) (e ∷ es)) [
          | None ↦ λ t.
              let n : ℕ = count_by (λ (e : K × X). p e.0 e.1) es in
              let none : n ≡ cond false 1 0 + n = omega arith in
              rest ∙ none ∙ ap (λ b. cond b 1 0 + n) t ∙ sym one
          | Some y ↦ λ t. sum_by-cons (λ (e : K × Y). cond (p' e.0 e.1) 1 0) (e.0, y) (selected f es) ∙ (λ i. cond (t i) 1 0 + rest i) ∙ sym one
        ] h.0

    find-selected : {A : Type 0} (g : K → A) (es : List (K × X)) → AllByRecursion Agree es → option_map (λ (e : K × Y). g e.0) (find_in (λ (e : K × Y). p' e.0 e.1) (selected f es)) ≡ option_map (λ (e : K × X). g e.0) (find_in (λ (e : K × X). p e.0 e.1) es)
    find-selected g [] h = refl
    find-selected {A = A} g (e ∷ es) h =
        let rest = find-selected g es h.1 in
        let after : Bool → Option A = λ b. option_map (λ (e : K × X). g e.0) (cond b (Some e) (find_in (λ (e : K × X). p e.0 e.1) es)) in
        elim (f e.0 e.1) as (λ w. test_after p' e.0 w ≡ p e.0 e.1 → option_map (λ (e : K × Y). g e.0) (find_in (λ (e : K × Y). p' e.0 e.1) (with_entry e.0 w (selected f es))) ≡ after (p e.0 e.1)) [
          | None ↦ λ t. rest ∙ ap after t
          | Some y ↦ λ t.
              ap (λ b. option_map (λ (e : K × Y). g e.0) (cond b (Some (e.0, y)) (find_in (λ (e : K × Y). p' e.0 e.1) (selected f es)))) t
              ∙ elim (p e.0 e.1) as (λ b. option_map (λ (e : K × Y). g e.0) (cond b (Some (e.0, y)) (find_in (λ (e : K × Y). p' e.0 e.1) (selected f es))) ≡ after b) [ true ↦ refl | false ↦ rest ]
        ] h.0

    module _ (m : FinMap R X) (agree : (k : K) (x : X) → map.get m k ≡ Some x → Agree (k, x)) where
      listed : AllByRecursion Agree (map.entries m)
      listed = each-entries o exact (λ (k : K) (x : X). Agree (k, x)) m agree

      pub any_entry-select : any_entry p' (select f m) ≡ any_entry p m
      unfolding any_entry
      any_entry-select = ap (list_any (λ (e : K × Y). p' e.0 e.1)) (entries-select m) ∙ any-selected (map.entries m) listed

      pub count_entries-select : count_entries p' (select f m) ≡ count_entries p m
      unfolding count_entries
      count_entries-select = ap (count_by (λ (e : K × Y). p' e.0 e.1)) (entries-select m) ∙ count-selected (map.entries m) listed

      -- the first entry that passes has the same key
      pub find-select : {A : Type 0} (g : K → A) → option_map (λ (e : K × Y). g e.0) (find_in (λ (e : K × Y). p' e.0 e.1) (map.entries (select f m))) ≡ option_map (λ (e : K × X). g e.0) (find_in (λ (e : K × X). p e.0 e.1) (map.entries m))
      find-select g = ap (λ (es : List (K × Y)). option_map (λ (e : K × Y). g e.0) (find_in (λ (e : K × Y). p' e.0 e.1) es)) (entries-select m) ∙ find-selected g (map.entries m) listed

  -- a function that makes the same list of what is selected of an entry as another makes of the entry
  module _ {A : Type 0} (g : K → X → List A) (g' : K → Y → List A) where
    abbrev Lists : K × X → Type 0
    Lists e = list_after g' e.0 (f e.0 e.1) ≡ g e.0 e.1

    flat_map-selected : (es : List (K × X)) → AllByRecursion Lists es → flat_map (λ (e : K × Y). g' e.0 e.1) (selected f es) ≡ flat_map (λ (e : K × X). g e.0 e.1) es
    flat_map-selected [] h = refl
    flat_map-selected (e ∷ es) h =
        let rest = flat_map-selected es h.1 in
        elim (f e.0 e.1) as (λ w. list_after g' e.0 w ≡ g e.0 e.1 → flat_map (λ (e : K × Y). g' e.0 e.1) (with_entry e.0 w (selected f es)) ≡ g e.0 e.1 ++ flat_map (λ (e : K × X). g e.0 e.1) es) [
          | None ↦ λ t. rest ∙ ap (λ xs. xs ++ flat_map (λ (e : K × X). g e.0 e.1) es) t
          | Some y ↦ λ t. λ i. t i ++ rest i
        ] h.0

    pub flat_map-select : (m : FinMap R X) → ((k : K) (x : X) → map.get m k ≡ Some x → Lists (k, x)) → flat_map (λ (e : K × Y). g' e.0 e.1) (map.entries (select f m)) ≡ flat_map (λ (e : K × X). g e.0 e.1) (map.entries m)
    flat_map-select m agree = ap (flat_map (λ (e : K × Y). g' e.0 e.1)) (entries-select m) ∙ flat_map-selected (map.entries m) (each-entries o exact (λ (k : K) (x : X). Lists (k, x)) m agree)

-- ---- whether an entry passes a test
module _ {K X : Type 0} {R : K → K → Ordering} (o : IsTotalOrder R) (exact : IsAntisymmetric R) (p : K → X → Bool) where
  abbrev passing : List (K × X) → ℕ
  passing es = count_by (λ (e : K × X). p e.0 e.1) es

  none_of : (es : List (K × X)) → list_any (λ (e : K × X). p e.0 e.1) es ≡ false → (k : K) (x : X) → find R k es ≡ Some x → p k x ≡ false
  none_of [] h k x f = absurd (cc)
  none_of (e ∷ es) h k x f =
      let parts = or_parts (p e.0 e.1) _ h in
      elim (eq_by_cmp R k e.0) as (λ b. eq_by_cmp R k e.0 ≡ b → cond b (Some e.1) (find R k es) ≡ Some x → p k x ≡ false) [
        | true ↦ λ t g. (λ i. p (same_key exact k e.0 t i) (sym (some_same e.1 x g) i)) ∙ parts.0
        | false ↦ λ t g. none_of es parts.1 k x g
      ] refl f

  -- where `any_entry` finds none, no entry of the map passes
  pub none_passes : (m : FinMap R X) → any_entry p m ≡ false → (k : K) (x : X) → map.get m k ≡ Some x → p k x ≡ false
  unfolding any_entry
  none_passes m h k x e = none_of (map.entries m) h k x (sym (get-entries m k) ∙ e)

  fails_all : (es : List (K × X)) → AllByRecursion (λ (e : K × X). p e.0 e.1 ≡ false) es → list_any (λ (e : K × X). p e.0 e.1) es ≡ false
  fails_all [] h = refl
  fails_all (e ∷ es) h = ap (λ b. b || list_any (λ (e : K × X). p e.0 e.1) es) h.0 ∙ fails_all es h.1

  -- where no entry of the map passes, `any_entry` finds none
  pub none_pass : (m : FinMap R X) → ((k : K) (x : X) → map.get m k ≡ Some x → p k x ≡ false) → any_entry p m ≡ false
  unfolding any_entry
  none_pass m h = fails_all (map.entries m) (each-entries o exact (λ (k : K) (x : X). p k x ≡ false) m h)

  -- an entry that passes
  pub record Passing (m : FinMap R X) : Type 0 where
    pub key : K
    pub value : X
    pub is : map.get m key ≡ Some value
    pub passes : p key value ≡ true

  some_listed : (m : FinMap R X) (es : List (K × X)) → AllByRecursion (λ (e : K × X). map.get m e.0 ≡ Some e.1) es → list_any (λ (e : K × X). p e.0 e.1) es ≡ true → Passing m
  some_listed m [] h some = absurd (true≢false (sym some))
  some_listed m (e ∷ es) h some =
      elim (p e.0 e.1) as (λ b. p e.0 e.1 ≡ b → (b || list_any (λ (e : K × X). p e.0 e.1) es) ≡ true → Passing m) [
        | true ↦ λ t _. record { key = e.0; value = e.1; is = h.0; passes = t }
        | false ↦ λ _ rest. some_listed m es h.1 rest
      ] refl some

  -- where `any_entry` finds one, an entry of the map passes
  pub some_passes : (m : FinMap R X) → any_entry p m ≡ true → Passing m
  unfolding any_entry
  some_passes m h = some_listed m (map.entries m) (each-entries o exact (λ (k : K) (x : X). map.get m k ≡ Some x) m (λ k x e. e)) h

  -- where an entry of the map passes, `any_entry` finds one
  pub one_passes : (m : FinMap R X) (k : K) (x : X) → map.get m k ≡ Some x → p k x ≡ true → any_entry p m ≡ true
  one_passes m k x e t =
      elim (any_entry p m) as (λ b. any_entry p m ≡ b → b ≡ true) [
        | true ↦ λ _. refl
        | false ↦ λ none. absurd (true≢false (sym t ∙ none_passes m none k x e))
      ] refl

  -- ---- how many entries pass a test
  one_first : (e : K × X) (es : List (K × X)) → passing (e ∷ es) ≡ cond (p e.0 e.1) 1 0 + passing es
  one_first e es = sum_by-cons (λ (e : K × X). cond (p e.0 e.1) 1 0) e es

  none_counted : (es : List (K × X)) → AllByRecursion (λ (e : K × X). p e.0 e.1 ≡ false) es → passing es ≡ 0
  none_counted [] h = refl
  none_counted (e ∷ es) h =
      let rest = none_counted es h.1 in
      let first = one_first e es ∙ ap (λ b. cond b 1 0 + passing es) h.0 in
      omega (arith, first, rest)

  some_counted : (es : List (K × X)) (k : K) (x : X) → find R k es ≡ Some x → p k x ≡ true → 1 ≤ passing es
  some_counted [] k x f t = absurd (cc)
  some_counted (e ∷ es) k x f t =
      elim (eq_by_cmp R k e.0) as (λ b. eq_by_cmp R k e.0 ≡ b → cond b (Some e.1) (find R k es) ≡ Some x → 1 ≤ passing (e ∷ es)) [
        | true ↦ λ same g.
            let is : p e.0 e.1 ≡ true = (λ i. p (sym (same_key exact k e.0 same) i) (some_same e.1 x g i)) ∙ t in
            let first = one_first e es ∙ ap (λ b. cond b 1 0 + passing es) is in
            omega (arith, first)
        | false ↦ λ _ g. let rest = some_counted es k x g t in omega (arith, one_first e es, rest)
      ] refl f

  pub count_some : (m : FinMap R X) (k : K) (x : X) → map.get m k ≡ Some x → p k x ≡ true → 1 ≤ count_entries p m
  unfolding count_entries
  count_some m k x e t = some_counted (map.entries m) k x (sym (get-entries m k) ∙ e) t

-- no more entries pass a test than there are
pub count_at_most : {K X : Type 0} {R : K → K → Ordering} (p : K → X → Bool) (m : FinMap R X) → count_entries p m ≤ length (map.entries m)
unfolding count_entries
count_at_most {K = K} {X = X} p m = count_by-le-length (λ (e : K × X). p e.0 e.1) (map.entries m)

-- ---- a map of which a key was removed
module _ {K X : Type 0} {R : K → K → Ordering} (o : IsTotalOrder R) (m : FinMap R X) (k : K) where
  pub get-remove_same : map.get (map.remove m k) k ≡ None
  get-remove_same = get-remove o m k k ∙ ap (λ r. cond (is_eq r) None (map.get m k)) (tied_itself o k)

  pub get-remove_other : (q : K) → eq_by_cmp R q k ≡ false → map.get (map.remove m k) q ≡ map.get m q
  get-remove_other q other = get-remove o m k q ∙ ap (λ b. cond b None (map.get m q)) other

  -- a key that was absent is absent after a removal
  pub get-remove_none : (q : K) → map.get m q ≡ None → map.get (map.remove m k) q ≡ None
  get-remove_none q none = get-remove o m k q ∙ elim (eq_by_cmp R q k) as (λ b. cond b None (map.get m q) ≡ None) [ true ↦ refl | false ↦ none ]

-- removing a key before it is set changes nothing
pub insert-over_removed : {K X : Type 0} {R : K → K → Ordering} → IsTotalOrder R → IsAntisymmetric R → (m : FinMap R X) (k gone : K) (x : X)
    → map.insert (map.remove (map.remove m k) gone) k x ≡ map.insert (map.remove m gone) k x
insert-over_removed {R = R} o exact m k gone x = same_map o exact _ _ (λ q.
    get-insert o (map.remove (map.remove m k) gone) k x q
    ∙ elim (eq_by_cmp R q k) as (λ b. eq_by_cmp R q k ≡ b → cond b (Some x) (map.get (map.remove (map.remove m k) gone) q) ≡ cond b (Some x) (map.get (map.remove m gone) q)) [
      | true ↦ λ _. refl
      | false ↦ λ other. get-remove o (map.remove m k) gone q ∙ ap (cond (eq_by_cmp R q gone) None) (get-remove_other o m k q other) ∙ sym (get-remove o m gone q)
    ] refl
    ∙ sym (get-insert o (map.remove m gone) k x q))

-- the value that is set last at a key is there
pub insert-insert : {K X : Type 0} {R : K → K → Ordering} → IsTotalOrder R → IsAntisymmetric R → (m : FinMap R X) (k : K) (x y : X) → map.insert (map.insert m k x) k y ≡ map.insert m k y
insert-insert {R = R} o exact m k x y = same_map o exact _ _ (λ q.
    get-insert o (map.insert m k x) k y q ∙ ap (cond (eq_by_cmp R q k) (Some y)) (get-insert o m k x q)
    ∙ elim (eq_by_cmp R q k) as (λ b. cond b (Some y) (cond b (Some x) (map.get m q)) ≡ cond b (Some y) (map.get m q)) [ true ↦ refl | false ↦ refl ]
    ∙ sym (get-insert o m k y q))

-- ---- how many entries pass a test after a change at one key
module _ {K X : Type 0} {R : K → K → Ordering} (o : IsTotalOrder R) (exact : IsAntisymmetric R) (p : K → X → Bool) (k : K) where
  abbrev at_key : K → X → Bool
  at_key q y = eq_by_cmp R q k && p q y

  abbrev elsewhere : K → X → Bool
  elsewhere q y = not (eq_by_cmp R q k) && p q y

  split_list : (es : List (K × X)) → count_by (λ (e : K × X). p e.0 e.1) es ≡ count_by (λ (e : K × X). at_key e.0 e.1) es + count_by (λ (e : K × X). elsewhere e.0 e.1) es
  split_list [] = refl
  split_list (e ∷ es) =
      let rest = split_list es in
      let all = sum_by-cons (λ (e : K × X). cond (p e.0 e.1) 1 0) e es in
      let here = sum_by-cons (λ (e : K × X). cond (at_key e.0 e.1) 1 0) e es in
      let there = sum_by-cons (λ (e : K × X). cond (elsewhere e.0 e.1) 1 0) e es in
      let one : cond (p e.0 e.1) 1 0 ≡ cond (at_key e.0 e.1) 1 0 + cond (elsewhere e.0 e.1) 1 0 =
      elim (eq_by_cmp R e.0 k) as (λ b. cond (p e.0 e.1) 1 0 ≡ cond (b && p e.0 e.1) 1 0 + cond (not b && p e.0 e.1) 1 0) [ true ↦ omega arith | false ↦ omega arith ] in
      omega (arith, rest, all, here, there, one)

  split : (m : FinMap R X) → count_entries p m ≡ count_entries at_key m + count_entries elsewhere m
  unfolding count_entries
  split m = split_list (map.entries m)

  keep_other : K → X → Option X
  keep_other q y = cond (not (eq_by_cmp R q k)) (Some y) None

  nothing : (w : Option X) → None ≡ option_and_then (λ (y : X). cond false (Some y) None) w
  nothing None = refl
  nothing (Some y) = refl

  itself : (w : Option X) → w ≡ option_and_then (λ (y : X). cond true (Some y) None) w
  itself None = refl
  itself (Some y) = refl

  -- a map without a key is a selection of it
  removed_is : (m : FinMap R X) → map.remove m k ≡ select keep_other m
  unfolding keep_other
  removed_is m = same_map o exact _ _ (λ q.
      get-remove o m k q
      ∙ elim (eq_by_cmp R q k) as (λ b. cond b None (map.get m q) ≡ option_and_then (λ y. cond (not b) (Some y) None) (map.get m q)) [
        | true ↦ nothing (map.get m q)
        | false ↦ itself (map.get m q)
      ]
      ∙ sym (get-select exact keep_other o m q))

  counted_elsewhere : (m : FinMap R X) → count_entries p (map.remove m k) ≡ count_entries elsewhere m
  unfolding keep_other
  counted_elsewhere m =
      ap (count_entries p) (removed_is m)
      ∙ count_entries-select o exact keep_other elsewhere p m (λ q y _.
      elim (eq_by_cmp R q k) as (λ b. test_after p q (cond (not b) (Some y) None) ≡ (not b && p q y)) [ true ↦ refl | false ↦ refl ])

  -- no more entries pass after a removal, and fewer where the removed one passed
  pub count_remove : (m : FinMap R X) → count_entries p (map.remove m k) ≤ count_entries p m
  count_remove m = omega (arith, counted_elsewhere m, split m)

  pub count_removed : (m : FinMap R X) (x : X) → map.get m k ≡ Some x → p k x ≡ true → count_entries p (map.remove m k) + 1 ≤ count_entries p m
  count_removed m x e t =
      let passes : at_key k x ≡ true = ap (λ r. is_eq r && p k x) (tied_itself o k) ∙ t in
      omega (arith, counted_elsewhere m, split m, count_some o exact at_key m k x e passes)

  -- at most one more entry passes after an insertion where none was, and no more where the new one does not pass
  module _ (m : FinMap R X) (x : X) (absent : map.get m k ≡ None) where
    without : count_entries elsewhere (map.insert m k x) ≡ count_entries p m
    without = sym (counted_elsewhere (map.insert m k x)) ∙ ap (count_entries p) (remove-insert o exact m k x absent)

    first_of : (a b : Bool) → (a && b) ≡ true → a ≡ true
    first_of true b e = refl
    first_of false b e = e

    pub count_insert : count_entries p (map.insert m k x) ≤ count_entries p m + 1
    count_insert =
        let one = count_entries-one o exact at_key (map.insert m k x) (λ a b y z _ _ f g. same_key exact a k (first_of _ _ f) ∙ sym (same_key exact b k (first_of _ _ g))) in
        omega (arith, split (map.insert m k x), without, one)

    pub count_insert_other : p k x ≡ false → count_entries p (map.insert m k x) ≤ count_entries p m
    count_insert_other fail =
        let none = count_entries-none o exact at_key (map.insert m k x) (λ q y e.
        elim (eq_by_cmp R q k) as (λ b. eq_by_cmp R q k ≡ b → (b && p q y) ≡ false) [
          | true ↦ λ t.
              let is : y ≡ x = some_same y x (sym e ∙ ap (map.get (map.insert m k x)) (same_key exact q k t) ∙ get-insert_same o m k x) in
              (λ i. p (same_key exact q k t i) (is i)) ∙ fail
          | false ↦ λ _. refl
        ] refl) in
        omega (arith, split (map.insert m k x), without, none)

-- ---- a selection that keeps each entry, with another value
module _ {K X Y : Type 0} {R : K → K → Ordering} (o : IsTotalOrder R) (exact : IsAntisymmetric R) (g : K → X → Y) where
  abbrev each : K → X → Option Y
  each k x = Some (g k x)

  keys-selected : (es : List (K × X)) → keys_of (selected each es) ≡ keys_of es
  keys-selected [] = refl
  keys-selected (e ∷ es) = ap (λ (ks : List K). e.0 ∷ ks) (keys-selected es)

  -- has the same keys
  pub keys-select_each : (m : FinMap R X) → map.keys (select each m) ≡ map.keys m
  keys-select_each m = ap keys_of (entries-select o exact each m) ∙ keys-selected (map.entries m)

  mapped : (q : K) (w : Option X) → option_and_then (each q) w ≡ option_map (g q) w
  mapped q None = refl
  mapped q (Some x) = refl

  pub get-select_each : (m : FinMap R X) (q : K) → map.get (select each m) q ≡ option_map (g q) (map.get m q)
  get-select_each m q = get-select exact each o m q ∙ mapped q (map.get m q)

  pub select-insert_each : (m : FinMap R X) (k : K) (x : X) → select each (map.insert m k x) ≡ map.insert (select each m) k (g k x)
  select-insert_each m k x = same_map o exact _ _ (λ q.
      get-select_each (map.insert m k x) q ∙ ap (option_map (g q)) (get-insert o m k x q)
      ∙ elim (eq_by_cmp R q k) as (λ b. eq_by_cmp R q k ≡ b → option_map (g q) (cond b (Some x) (map.get m q)) ≡ cond b (Some (g k x)) (option_map (g q) (map.get m q))) [
        | true ↦ λ t. ap (λ j. Some (g j x)) (same_key exact q k t)
        | false ↦ λ _. refl
      ] refl
      ∙ ap (λ w. cond (eq_by_cmp R q k) (Some (g k x)) w) (sym (get-select_each m q))
      ∙ sym (get-insert o (select each m) k (g k x) q))
