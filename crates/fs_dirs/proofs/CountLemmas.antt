-- How many entries pass a test, and which one does, after an entry is set or goes.
use Rattle.std.specs.Prelude.{◌≡◌, ◌&&◌, ◌||◌, ◌==◌, not, ℕ, ◌+◌, Bool, true, false, List, [], ◌∷◌, ◌++◌, Some, None, cond, count_by, length, refl}
use Rattle.std.specs.declared.cmp.Ordering.{Ordering}
use Rattle.std.specs.declared.cmp.Ordering.TheVariants.{Less, Equal, Greater}
use Rattle.std.specs.Ordering.{is_eq, eq_by_cmp}
use Rattle.std.specs.List.{list_any, flat_map}
use Rattle.std.specs.List as list
use Rattle.std.specs.Cmp.{IsTotalOrder}
use Rattle.std.specs.FinMap as table
use Rattle.std.specs.FinMap.{FinMap, IsAntisymmetric, find, put, entries-insert, get-entries, len-entries, len-empty, get-insert, get-remove, same_map}
use Rattle.std.specs.FinMap.Entries.{by_order}
use Rattle.std.proofs.Common.{ap, sym, ◌∙◌, arith}
use Rattle.std.proofs.lemmas.Bool.Decides.{nat_tests}
use Rattle.std.proofs.lemmas.List.Sums.{sum_by-cons}
use Rattle.kern_model.specs.Maps.{any_entry, count_entries}
use Rattle.kern_model.proofs.Selections.{get-remove_same}
use Rattle.kern_model.proofs.MapLemmas.{same_key, never_some}

-- ---- lists
module _ {X : Type 0} (p : X → Bool) where
  pub count-cons : (x : X) (xs : List X) → count_by p (x ∷ xs) ≡ cond (p x) 1 0 + count_by p xs
  count-cons x xs = sum_by-cons (λ (x : X). cond (p x) 1 0) x xs

  one_or_none : (b : Bool) (n m : ℕ) → cond b 1 0 + n ≡ m → (b || not (n == 0)) ≡ not (m == 0)
  one_or_none true n m e = let more : (m == 0) ≡ false = grind (arith, nat_tests) in ap not (sym more)
  one_or_none false n m e = let same : n ≡ m = omega arith in ap (λ k. not (k == 0)) same

  -- some pass where their number is not 0
  pub any_counted : (xs : List X) → list_any p xs ≡ not (count_by p xs == 0)
  any_counted [] = refl
  any_counted (x ∷ xs) = ap (λ b. p x || b) (any_counted xs) ∙ one_or_none (p x) (count_by p xs) (count_by p (x ∷ xs)) (sym (count-cons x xs))

  -- their number is how many are chosen
  pub count_chosen : {A : Type 0} (f : X → A) (xs : List X) → count_by p xs ≡ length (flat_map (λ (x : X). cond (p x) (f x ∷ []) []) xs)
  count_chosen f [] = refl
  count_chosen {A = A} f (x ∷ xs) =
      count-cons x xs ∙ ap (λ n. cond (p x) 1 0 + n) (count_chosen f xs)
      ∙ elim (p x) as (λ b. cond b 1 0 + length (flat_map (λ (x : X). cond (p x) (f x ∷ []) []) xs) ≡ length (cond b (f x ∷ []) [] ++ flat_map (λ (x : X). cond (p x) (f x ∷ []) []) xs)) [
        | true ↦ omega arith
        | false ↦ omega arith
      ]

-- where none passes one test, none passes it and another one
none_of_both : {X : Type 0} (p q : X → Bool) (xs : List X) → count_by p xs ≡ 0 → count_by (λ (x : X). p x && q x) xs ≡ 0
none_of_both p q [] h = refl
none_of_both {X = X} p q (x ∷ xs) h =
    let one = count-cons p x xs in
    let both = count-cons (λ (x : X). p x && q x) x xs in
    elim (p x) as (λ b. p x ≡ b → count_by (λ (x : X). p x && q x) (x ∷ xs) ≡ 0) [
      | true ↦ λ t. let here : ◌≡◌ {A = ℕ} (cond (p x) 1 0) 1 = ap (λ b. cond {A = ℕ} b 1 0) t in absurd (omega (arith, one, here, h))
      | false ↦ λ f.
          let here : ◌≡◌ {A = ℕ} (cond (p x) 1 0) 0 = ap (λ b. cond {A = ℕ} b 1 0) f in
          let none : ◌≡◌ {A = ℕ} (cond (p x && q x) 1 0) 0 = ap (λ b. cond {A = ℕ} (b && q x) 1 0) f in
          let rest = none_of_both p q xs (omega (arith, one, here, h)) in
          omega (arith, both, none, rest)
    ] refl

-- ---- tables
no_elements : {X : Type 0} (xs : List X) → length xs ≡ 0 → xs ≡ []
no_elements [] e = refl
no_elements (x ∷ xs) e = absurd (omega arith)

-- the empty table has no entry
pub no_entries : {K : Type 0} (R : K → K → Ordering) (X : Type 0) → table.entries (table.empty {K = K} {X = X} {R = R}) ≡ []
no_entries R X = no_elements (table.entries (table.empty {X = X} {R = R})) (sym (len-entries (table.empty {X = X} {R = R})) ∙ len-empty R X)

pub count_entries-empty : {K X : Type 0} (R : K → K → Ordering) (p : K → X → Bool) → count_entries p (table.empty {K = K} {X = X} {R = R}) ≡ 0
unfolding count_entries
count_entries-empty {K = K} {X = X} R p = ap (count_by (λ (e : K × X). p e.0 e.1)) (no_entries R X)

module _ {K X : Type 0} (p : K → X → Bool) where
  -- how many entries pass
  abbrev pub passing : List (K × X) → ℕ
  passing es = count_by (λ (e : K × X). p e.0 e.1) es

  none_found : (es : List (K × X)) → passing es ≡ 0 → list.find (λ (e : K × X). p e.0 e.1) es ≡ None
  none_found [] h = refl
  none_found (e ∷ es) h =
      let step = count-cons (λ (e : K × X). p e.0 e.1) e es in
      elim (p e.0 e.1) as (λ b. p e.0 e.1 ≡ b → cond b (Some e) (list.find (λ (e : K × X). p e.0 e.1) es) ≡ None) [
        | true ↦ λ here. let counted : ◌≡◌ {A = ℕ} (cond (p e.0 e.1) 1 0) 1 = ap (λ b. cond {A = ℕ} b 1 0) here in absurd (omega (arith, step, counted, h))
        | false ↦ λ here. let counted : ◌≡◌ {A = ℕ} (cond (p e.0 e.1) 1 0) 0 = ap (λ b. cond {A = ℕ} b 1 0) here in none_found es (omega (arith, step, counted, h))
      ] refl

swapped : (a b n m : ℕ) → n ≡ b + m → a + n ≡ b + (a + m)
swapped a b n m e = omega arith

module _ {K X : Type 0} (R : K → K → Ordering) (p : K → X → Bool) where
  put_counted : (k : K) (x : X) (es : List (K × X)) → find R k es ≡ None → passing p (put R k x es) ≡ cond (p k x) 1 0 + passing p es
  put_counted k x [] none = count-cons (λ (e : K × X). p e.0 e.1) (k, x) []
  put_counted k x (e ∷ es) none =
      elim (R k e.0) as (λ r. cond (is_eq r) (Some e.1) (find R k es) ≡ None → passing p (by_order r ((k, x) ∷ e ∷ es) ((e.0, x) ∷ es) (e ∷ put R k x es)) ≡ cond (p k x) 1 0 + passing p (e ∷ es)) [
        | Less ↦ λ _. count-cons (λ (e : K × X). p e.0 e.1) (k, x) (e ∷ es)
        | Equal ↦ λ f. absurd (never_some (Some e.1) e.1 f refl)
        | Greater ↦ λ f.
            count-cons (λ (e : K × X). p e.0 e.1) e (put R k x es)
            ∙ swapped (cond (p e.0 e.1) 1 0) (cond (p k x) 1 0) (passing p (put R k x es)) (passing p es) (put_counted k x es f)
            ∙ ap (λ n. cond (p k x) 1 0 + n) (sym (count-cons (λ (e : K × X). p e.0 e.1) e es))
      ] none

module _ {K X : Type 0} {R : K → K → Ordering} (o : IsTotalOrder R) where
  -- what is there may be removed and put back
  pub insert-remove : IsAntisymmetric R → (m : FinMap R X) (k : K) (x : X) → table.get m k ≡ Some x → table.insert (table.remove m k) k x ≡ m
  insert-remove exact m k x e = same_map o exact _ _ (λ q.
      get-insert o (table.remove m k) k x q ∙ ap (cond (eq_by_cmp R q k) (Some x)) (get-remove o m k q)
      ∙ elim (eq_by_cmp R q k) as (λ b. eq_by_cmp R q k ≡ b → cond b (Some x) (cond b None (table.get m q)) ≡ table.get m q) [
        | true ↦ λ t. sym (ap (table.get m) (same_key exact q k t) ∙ e)
        | false ↦ λ _. refl
      ] refl)

  -- what is set may be removed before
  insert-removed : IsAntisymmetric R → (m : FinMap R X) (k : K) (x : X) → table.insert (table.remove m k) k x ≡ table.insert m k x
  insert-removed exact m k x = same_map o exact _ _ (λ q.
      get-insert o (table.remove m k) k x q ∙ ap (cond (eq_by_cmp R q k) (Some x)) (get-remove o m k q)
      ∙ elim (eq_by_cmp R q k) as (λ b. cond b (Some x) (cond b None (table.get m q)) ≡ cond b (Some x) (table.get m q)) [ true ↦ refl | false ↦ refl ]
      ∙ sym (get-insert o m k x q))

module _ {K X : Type 0} {R : K → K → Ordering} (p : K → X → Bool) where
  -- some entry passes where the number of those that do is not 0
  pub any_entry-count : (m : FinMap R X) → any_entry p m ≡ not (count_entries p m == 0)
  unfolding any_entry count_entries
  any_entry-count m = any_counted (λ (e : K × X). p e.0 e.1) (table.entries m)

  -- none does where it is 0
  pub no_entry-count : (m : FinMap R X) → not (any_entry p m) ≡ (count_entries p m == 0)
  no_entry-count m = ap not (any_entry-count m) ∙ twice (count_entries p m == 0)
    where
      twice : (b : Bool) → not (not b) ≡ b
      twice true = refl
      twice false = refl

  module _ (o : IsTotalOrder R) where
    -- an entry that is new counts where it passes
    pub count_entries-insert : (m : FinMap R X) (k : K) (x : X) → table.get m k ≡ None → count_entries p (table.insert m k x) ≡ cond (p k x) 1 0 + count_entries p m
    unfolding count_entries
    count_entries-insert m k x none = ap (passing p) (entries-insert o m k x) ∙ put_counted R p k x (table.entries m) (sym (get-entries m k) ∙ none)

    module _ (exact : IsAntisymmetric R) where
      -- an entry that goes counted where it passes
      pub count_entries-remove : (m : FinMap R X) (k : K) (x : X) → table.get m k ≡ Some x → count_entries p m ≡ cond (p k x) 1 0 + count_entries p (table.remove m k)
      count_entries-remove m k x e = ap (count_entries p) (sym (insert-remove o exact m k x e)) ∙ count_entries-insert (table.remove m k) k x (get-remove_same o m k)

      -- an entry that is set counts where it passes, beside those at other keys
      pub count_entries-set : (m : FinMap R X) (k : K) (x : X) → count_entries p (table.insert m k x) ≡ cond (p k x) 1 0 + count_entries p (table.remove m k)
      count_entries-set m k x = ap (count_entries p) (sym (insert-removed o exact m k x)) ∙ count_entries-insert (table.remove m k) k x (get-remove_same o m k)

  -- where none passes, none passes another test too
  pub count_entries-both : (q : K → X → Bool) (m : FinMap R X) → count_entries p m ≡ 0 → count_entries (λ (k : K) (x : X). p k x && q k x) m ≡ 0
  unfolding count_entries
  count_entries-both q m h = none_of_both (λ (e : K × X). p e.0 e.1) (λ (e : K × X). q e.0 e.1) (table.entries m) h

  -- and where none passes, none is
  pub none_passing : (m : FinMap R X) → count_entries p m ≡ 0 → list.find (λ (e : K × X). p e.0 e.1) (table.entries m) ≡ None
  unfolding count_entries
  none_passing m h = none_found p (table.entries m) h
