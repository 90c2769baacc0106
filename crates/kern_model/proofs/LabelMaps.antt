-- Values by their labels, after one of them is put in, and the labels in order.
use Rattle.std.specs.Prelude.{◌≡◌, ℕ, ◌+◌, ◌<◌, ◌==◌, ◌&&◌, ◌||◌, Bool, not, true, false, List, [], ◌∷◌, ◌++◌, Option, Some, None, IsSome, OnSome, cond, length, refl, slice_get, zero, suc}
use Rattle.std.specs.Ordering.{eq_by_cmp, is_eq}
use Rattle.std.specs.Option.{option_and_then, option_map}
use Rattle.std.specs.List.{AllByRecursion, list_any, position, position_or_len}
use Rattle.std.specs.List.Sorted.{IsStrictlySortedBy}
use Rattle.std.specs.Map.{keys_of}
use Rattle.std.specs.FinMap as map
use Rattle.std.specs.FinMap.{FinMap, get-empty, get-insert, same_map}
use Rattle.std.proofs.Common.{sym, ◌∙◌, ap, subst, arith, set, get_or}
use Rattle.std.proofs.lemmas.Bool.{and_parts}
use Rattle.std.proofs.lemmas.Bool.Decides.{nat_tests}
use Rattle.std.proofs.lemmas.Cmp.{tied_itself}
use Rattle.std.proofs.lemmas.Option.{slice_get_read}
use Rattle.fs_path.proofs.SplitLemmas.{position_found, position_missing}
use Rattle.lab_lattice.specs.Label.{Label, label_cmp, dominates}
use Rattle.lab_lattice.proofs.Labels.{dominates_both, dominates_itself, label_cmp_total, label_cmp_exact}
use Rattle.kern_model.specs.declared.label_map.Entry.{Entry}
use Rattle.kern_model.specs.LabelMap.{ArePlaced, value_at, values_in}
use Rattle.kern_model.specs.Maps.{select, selected, with_entry}
use Rattle.kern_model.proofs.MapLemmas.{each-entries, get-select, same_key}
use Rattle.kern_model.proofs.TableLemmas.{entries_view}

-- ---- where a value is lent, and where none is
pub at_some : {B P : Type 0} {r : Option B} {b : B} → r ≡ Some b → OnSome r P → P
at_some {P = P} is h = subst (λ o. OnSome o P) is h

pub at_none : {B : Type 0} {r : Option B} (P : Type 0) → r ≡ None → OnSome r P
at_none {B = B} P is = subst (λ (o : Option B). OnSome o P) (sym is) tt

-- ---- what stands at a place of a list
slice_get-set : {X : Type 0} (xs : List X) (i j : ℕ) (x : X) → i < length xs → slice_get (set xs i x) j ≡ cond (j == i) (Some x) (slice_get xs j)
slice_get-set [] i j x h = absurd (omega arith)
slice_get-set (y ∷ xs) zero zero x h = refl
slice_get-set (y ∷ xs) zero (suc j) x h = let apart : (suc j == 0) ≡ false = grind (arith, nat_tests) in ap (λ b. cond b (Some x) (slice_get xs j)) (sym apart)
slice_get-set (y ∷ xs) (suc i) zero x h = let apart : (0 == suc i) ≡ false = grind (arith, nat_tests) in ap (λ b. cond b (Some x) (Some y)) (sym apart)
slice_get-set (y ∷ xs) (suc i) (suc j) x h =
    let same : (j == i) ≡ (suc j == suc i) = grind (arith, nat_tests) in
    slice_get-set xs i j x (omega arith) ∙ ap (λ b. cond b (Some x) (slice_get xs j)) same

slice_get-push : {X : Type 0} (xs : List X) (j : ℕ) (x : X) → slice_get (xs ++ x ∷ []) j ≡ cond (j == length xs) (Some x) (slice_get xs j)
slice_get-push [] zero x = refl
slice_get-push [] (suc j) x = let apart : (suc j == 0) ≡ false = grind (arith, nat_tests) in ap (λ b. cond b (Some x) None) (sym apart)
slice_get-push (y ∷ xs) zero x = let apart : (0 == length (y ∷ xs)) ≡ false = grind (arith, nat_tests) in ap (λ b. cond b (Some x) (Some y)) (sym apart)
slice_get-push (y ∷ xs) (suc j) x =
    let same : (j == length xs) ≡ (suc j == length (y ∷ xs)) = grind (arith, nat_tests) in
    slice_get-push xs j x ∙ ap (λ b. cond b (Some x) (slice_get xs j)) same

within : {X Y : Type 0} (f : X → Y) (xs : List X) (i : ℕ) (y : Y) → option_map f (slice_get xs i) ≡ Some y → i < length xs
within f [] i y h = absurd (cc)
within f (x ∷ xs) zero y h = omega arith
within f (x ∷ xs) (suc i) y h = let rest = within f xs i y h in omega arith

-- ---- the first entry that passes a test
record Passes {X : Type 0} (p : X → Bool) (xs : List X) (i : ℕ) : Type 0 where
  item : X
  there : slice_get xs i ≡ Some item
  passes : p item ≡ true

at_first : {X : Type 0} (p : X → Bool) (xs : List X) → position_or_len p xs < length xs → Passes p xs (position_or_len p xs)
at_first p [] low = absurd (omega arith)
at_first {X} p (x ∷ xs) low =
    elim (p x) as (λ b. p x ≡ b → cond (not b) (1 + position_or_len p xs) 0 < suc (length xs) → Passes p (x ∷ xs) (cond (not b) (1 + position_or_len p xs) 0)) [
      | true ↦ λ t _. record { item = x; there = refl; passes = t }
      | false ↦ λ _ h.
          let rest = at_first p xs (omega arith) in
          let next : 1 + position_or_len p xs ≡ suc (position_or_len p xs) = omega arith in
          record { item = rest.item; there = ap (slice_get (x ∷ xs)) next ∙ rest.there; passes = rest.passes }
    ] refl low

some_passes : {X : Type 0} (p : X → Bool) (xs : List X) (i : ℕ) (x : X) → slice_get xs i ≡ Some x → p x ≡ true → list_any p xs ≡ true
some_passes p [] i x is t = absurd (cc)
some_passes p (y ∷ ys) zero x is t = let same : y ≡ x = cc in ap (λ b. b || list_any p ys) (ap p same ∙ t)
some_passes p (y ∷ ys) (suc i) x is t = ap (λ b. p y || b) (some_passes p ys i x is t) ∙ or_true (p y)
  where
    or_true : (b : Bool) → (b || true) ≡ true
    or_true true = refl
    or_true false = refl

-- ---- values by labels
module _ {X : Type 0} where
  abbrev label_at : List (Entry X) → ℕ → Option Label
  label_at es place = option_map (λ (e : Entry X). e.label) (slice_get es place)

  value_there : (o : Option (Entry X)) (label : Label) → option_map (λ (e : Entry X). e.label) o ≡ Some label → IsSome (option_map (λ (e : Entry X). e.value) o)
  value_there None label h = absurd (cc)
  value_there (Some e) label h = refl

  -- the value at a label is that of the entry at its place
  pub get-values_in : (es : List (Entry X)) (places : FinMap label_cmp ℕ) (q : Label) → map.get (values_in es places) q ≡ option_and_then (value_at es) (map.get places q)
  get-values_in es places q = get-select label_cmp_exact (λ _ place. value_at es place) label_cmp_total places q

  pub placed-empty : ArePlaced {X = X} [] map.empty
  placed-empty = record {
    there = λ q place is. absurd (let none : None ≡ Some place = sym (get-empty label_cmp q) ∙ is in cc);
    placed = λ place e is. absurd (cc);
  }

  pub values_in-empty : values_in {X = X} [] map.empty ≡ map.empty
  values_in-empty = same_map label_cmp_total label_cmp_exact _ _ (λ q.
      get-values_in [] map.empty q ∙ ap (option_and_then (value_at [])) (get-empty label_cmp q) ∙ sym (get-empty label_cmp q))

-- ---- one entry is set: where it stood, or at the end
pub record IsPut {X : Type 0} (old : List (Entry X)) (before : FinMap label_cmp ℕ) (place : ℕ) (e : Entry X) (new : List (Entry X)) (after : FinMap label_cmp ℕ) : Type 0 where
  pub entry : (j : ℕ) → slice_get new j ≡ cond (j == place) (Some e) (slice_get old j)
  pub at : (q : Label) → map.get after q ≡ cond (eq_by_cmp label_cmp q e.label) (Some place) (map.get before q)
  -- no other label has the place
  pub own : (q : Label) → map.get before q ≡ Some place → q ≡ e.label
  -- and the label stands nowhere else
  pub only : (j : ℕ) (d : Entry X) → slice_get old j ≡ Some d → d.label ≡ e.label → j ≡ place

module _ {X : Type 0} {old new : List (Entry X)} {before after : FinMap label_cmp ℕ} {place : ℕ} {e : Entry X} (put : IsPut old before place e new after) where
  same_place : (j : ℕ) → (j == place) ≡ true → j ≡ place
  same_place j t = grind (arith, nat_tests)

  here : slice_get new place ≡ Some e
  here = let t : (place == place) ≡ true = grind (arith, nat_tests) in put.entry place ∙ ap (λ b. cond b (Some e) (slice_get old place)) t

  -- another label's entry stays
  elsewhere : (q : Label) (j : ℕ) → eq_by_cmp label_cmp q e.label ≡ false → map.get before q ≡ Some j → slice_get new j ≡ slice_get old j
  elsewhere q j other is =
      put.entry j
      ∙ elim (j == place) as (λ b. (j == place) ≡ b → cond b (Some e) (slice_get old j) ≡ slice_get old j) [
        | true ↦ λ t.
            let same : q ≡ e.label = put.own q (is ∙ ap (λ k. Some k) (same_place j t)) in
            let tied : eq_by_cmp label_cmp q e.label ≡ true = ap (λ l. eq_by_cmp label_cmp q l) (sym same) ∙ ap is_eq (tied_itself label_cmp_total q) in
            absurd (let no : false ≡ true = sym other ∙ tied in cc)
        | false ↦ λ _. refl
      ] refl

  pub put_placed : ArePlaced old before → ArePlaced new after
  put_placed are = record {
    there = λ q j is.
        elim (eq_by_cmp label_cmp q e.label) as (λ b. eq_by_cmp label_cmp q e.label ≡ b → cond b (Some place) (map.get before q) ≡ Some j → label_at new j ≡ Some q) [
          | true ↦ λ t f.
              let at : place ≡ j = cc in
              ap (label_at new) (sym at) ∙ ap (option_map (λ (d : Entry X). d.label)) here ∙ ap (λ l. Some l) (sym (same_key label_cmp_exact q e.label t))
          | false ↦ λ t f. ap (option_map (λ (d : Entry X). d.label)) (elsewhere q j t f) ∙ are.there q j f
        ] refl (sym (put.at q) ∙ is);
    placed = λ j d is.
        elim (j == place) as (λ b. (j == place) ≡ b → cond b (Some e) (slice_get old j) ≡ Some d → map.get after d.label ≡ Some j) [
          | true ↦ λ t f.
              let same : e ≡ d = cc in
              put.at d.label ∙ ap (λ (l : Label). cond (eq_by_cmp label_cmp d.label l) (Some place) (map.get before d.label)) (ap (λ (d : Entry X). d.label) same)
              ∙ ap (λ r. cond (is_eq r) (Some place) (map.get before d.label)) (tied_itself label_cmp_total d.label)
              ∙ ap (λ k. Some k) (sym (same_place j t))
          | false ↦ λ t f.
              put.at d.label
              ∙ elim (eq_by_cmp label_cmp d.label e.label) as (λ b. eq_by_cmp label_cmp d.label e.label ≡ b → cond b (Some place) (map.get before d.label) ≡ Some j) [
                | true ↦ λ u. ap (λ k. Some k) (sym (put.only j d f (same_key label_cmp_exact d.label e.label u)))
                | false ↦ λ _. are.placed j d f
              ] refl
        ] refl (sym (put.entry j) ∙ is);
  }

  pub put_values : values_in new after ≡ map.insert (values_in old before) e.label e.value
  put_values = same_map label_cmp_total label_cmp_exact _ _ (λ q.
      get-values_in new after q ∙ ap (option_and_then (value_at new)) (put.at q)
      ∙ elim (eq_by_cmp label_cmp q e.label) as (λ b. eq_by_cmp label_cmp q e.label ≡ b → option_and_then (value_at new) (cond b (Some place) (map.get before q)) ≡ cond b (Some e.value) (option_and_then (value_at old) (map.get before q))) [
        | true ↦ λ _. ap (option_map (λ (d : Entry X). d.value)) here
        | false ↦ λ t. elim (map.get before q) as (λ o. map.get before q ≡ o → option_and_then (value_at new) o ≡ option_and_then (value_at old) o) [
          | None ↦ λ _. refl
          | Some j ↦ λ is. ap (option_map (λ (d : Entry X). d.value)) (elsewhere q j t is)
        ] refl
      ] refl
      ∙ ap (cond (eq_by_cmp label_cmp q e.label) (Some e.value)) (sym (get-values_in old before q))
      ∙ sym (get-insert label_cmp_total (values_in old before) e.label e.value q))

module _ {X : Type 0} (es : List (Entry X)) (places : FinMap label_cmp ℕ) (are : ArePlaced es places) where
  -- where a label stands
  pub place_within : (q : Label) (place : ℕ) → Some place ≡ map.get places q → place < length es
  place_within q place is = within (λ (e : Entry X). e.label) es place q (are.there q place (sym is))

  -- an entry whose label is the one asked for stands where the label does
  pub place_equal : (place : ℕ) (d : Entry X) (q : Label) → place < length es → d ≡ get_or es place d → true ≡ (dominates d.label q && dominates q d.label) → Some place ≡ map.get places q
  place_equal place d q low at same =
      let both = and_parts _ _ (sym same) in
      sym (ap (map.get places) (sym (dominates_both d.label q both.0 both.1)) ∙ are.placed place d (slice_get_read es (length es) place d refl low at))

  abbrev is_at : Label → Entry X → Bool
  is_at q e = dominates e.label q && dominates q e.label

  -- the position of a label among the entries is its place
  pub position_placed : (q : Label) → position (λ (e : Entry X). dominates e.label q && dominates q e.label) es ≡ map.get places q
  position_placed q = by_position (position (is_at q) es) refl
    where
      by_place : (o : Option ℕ) → map.get places q ≡ o → position (is_at q) es ≡ None → None ≡ o
      by_place None is none = refl
      by_place (Some i) is none = by_entry (slice_get es i) refl (are.there q i is)
        where
          by_entry : (o : Option (Entry X)) → slice_get es i ≡ o → option_map (λ (e : Entry X). e.label) o ≡ Some q → None ≡ Some i
          by_entry None at same = absurd (cc)
          by_entry (Some e) at same =
              let label : e.label ≡ q = cc in
              let low : is_at q e ≡ true = subst (λ l. (dominates e.label l && dominates l e.label) ≡ true) label (ap (λ b. b && b) (dominates_itself e.label)) in
              let some : list_any (is_at q) es ≡ true = some_passes (is_at q) es i e at low in
              let no = (position_missing (is_at q) es none).1 in
              absurd (cc)

      by_position : (o : Option ℕ) → position (is_at q) es ≡ o → o ≡ map.get places q
      by_position None is = by_place (map.get places q) refl is ∙ refl
      by_position (Some i) is =
          let found = position_found (is_at q) es i is in
          let first = at_first (is_at q) es (subst (λ n. n < length es) (sym found.1) found.0) in
          let both = and_parts _ _ first.passes in
          sym (
          ap (map.get places) (sym (dominates_both first.item.label q both.0 both.1))
          ∙ are.placed i first.item (ap (slice_get es) (sym found.1) ∙ first.there)
          )

  -- the entry of a label is put in its place
  put_there : (place : ℕ) (e : Entry X) → map.get places e.label ≡ Some place → IsPut es places place e (set es place e) places
  put_there place e is = record {
    entry = λ j. slice_get-set es place j e (place_within e.label place (sym is));
    at = λ q. elim (eq_by_cmp label_cmp q e.label) as (λ b. eq_by_cmp label_cmp q e.label ≡ b → map.get places q ≡ cond b (Some place) (map.get places q)) [
      | true ↦ λ t. ap (map.get places) (same_key label_cmp_exact q e.label t) ∙ is
      | false ↦ λ _. refl
    ] refl;
    own = λ q f. let both : Some q ≡ Some e.label = sym (are.there q place f) ∙ are.there e.label place is in cc;
    only = λ j d at same. let both : Some j ≡ Some place = sym (are.placed j d at) ∙ ap (map.get places) same ∙ is in cc;
  }

  absent_place : (q : Label) (o : Option ℕ) → map.get places q ≡ o → option_and_then (value_at es) o ≡ None → o ≡ None
  absent_place q None is gone = refl
  absent_place q (Some place) is gone =
      absurd (let some = value_there (slice_get es place) q (are.there q place is) in let no : IsSome {T = X} None = subst (λ (w : Option X). IsSome w) gone some in cc)

  -- a label without a value has no place
  no_place : (q : Label) → map.get (values_in es places) q ≡ None → map.get places q ≡ None
  no_place q gone = absent_place q (map.get places q) refl (sym (get-values_in es places q) ∙ gone)

  -- and its entry may be put at the end
  put_last : (e : Entry X) → map.get places e.label ≡ None → IsPut es places (length es) e (es ++ e ∷ []) (map.insert places e.label (length es))
  put_last e gone = record {
    entry = λ j. slice_get-push es j e;
    at = λ q. get-insert label_cmp_total places e.label (length es) q;
    own = λ q f. absurd (let low = place_within q (length es) (sym f) in omega arith);
    only = λ j d at same. absurd (let both : None ≡ Some j = sym gone ∙ ap (map.get places) (sym same) ∙ are.placed j d at in cc);
  }

  module _ (m : FinMap label_cmp X) (view : values_in es places ≡ m) (q : Label) where
    -- a label without a place has no value
    pub value_absent : None ≡ map.get places q → None ≡ map.get m q
    value_absent is = sym (ap (λ (m : FinMap label_cmp X). map.get m q) (sym view) ∙ get-values_in es places q ∙ ap (option_and_then (value_at es)) (sym is))

    module _ (place : ℕ) (is : Some place ≡ map.get places q) (d : Entry X) (at : d ≡ get_or es place d) where
      stands : slice_get es place ≡ Some d
      stands = slice_get_read es (length es) place d refl (place_within q place is) at

      -- the entry at the place of a label is of that label
      label_there : d.label ≡ q
      label_there = let both : Some d.label ≡ Some q = ap (option_map (λ (e : Entry X). e.label)) (sym stands) ∙ are.there q place (sym is) in cc

      -- and has its value
      pub value_found : Some d.value ≡ map.get m q
      value_found =
          sym (ap (λ (m : FinMap label_cmp X). map.get m q) (sym view) ∙ get-values_in es places q ∙ ap (option_and_then (value_at es)) (sym is)
          ∙ ap (option_map (λ (e : Entry X). e.value)) stands)

      put_lent : (w : X) → IsPut es places place (record { label = d.label; value = w }) (set es place (record { label = d.label; value = w })) places
      put_lent w = put_there place (record { label = d.label; value = w }) (ap (map.get places) label_there ∙ sym is)

      -- another value may be put in its place
      pub lent_placed : (w : X) → ArePlaced (set es place (record { label = d.label; value = w })) places
      lent_placed w = put_placed (put_lent w) are

      pub lent_value : (w : X) → values_in (set es place (record { label = d.label; value = w })) places ≡ map.insert m q w
      lent_value w = put_values (put_lent w) ∙ ap (λ (l : Label). map.insert (values_in es places) l w) label_there ∙ ap (λ (m : FinMap label_cmp X). map.insert m q w) view

    module _ (w : X) (gone : map.get m q ≡ None) (old new : List (Entry X)) (kept : old ≡ es) (pushed : new ≡ old ++ record { label = q; value = w } ∷ []) (count : ℕ) (is : count ≡ length es)
        (after : FinMap label_cmp ℕ) (set : after ≡ map.insert places q count) where
      put_new : IsPut es places (length es) (record { label = q; value = w }) new after
      put_new =
          let last = put_last (record { label = q; value = w }) (no_place q (ap (λ (m : FinMap label_cmp X). map.get m q) view ∙ gone)) in
          let ends : new ≡ es ++ record { label = q; value = w } ∷ [] = pushed ∙ ap (λ (es : List (Entry X)). es ++ record { label = q; value = w } ∷ []) kept in
          subst (λ (new : List (Entry X)). IsPut es places (length es) (record { label = q; value = w }) new after) (sym ends)
          (subst (λ (after : FinMap label_cmp ℕ). IsPut es places (length es) (record { label = q; value = w }) (es ++ record { label = q; value = w } ∷ []) after) (sym (set ∙ ap (map.insert places q) is)) last)

      -- a value may be put at the end
      pub new_placed : ArePlaced new after
      new_placed = put_placed put_new are

      pub new_value : values_in new after ≡ map.insert m q w
      new_value = put_values put_new ∙ ap (λ (m : FinMap label_cmp X). map.insert m q w) view

  -- ---- labels in order
  each_there : AllByRecursion (λ (e : Label × ℕ). IsSome (value_at es e.1)) (map.entries places)
  each_there = each-entries label_cmp_total label_cmp_exact (λ _ place. IsSome (value_at es place)) places (λ q place is. value_there (slice_get es place) q (are.there q place is))

keys-selected : {K X Y : Type 0} (f : K → X → Option Y) (es : List (K × X)) → AllByRecursion (λ (e : K × X). IsSome (f e.0 e.1)) es → keys_of (selected f es) ≡ keys_of es
keys-selected f [] all = refl
keys-selected f (e ∷ es) all =
    let rest = keys-selected f es all.1 in
    elim (f e.0 e.1) as (λ o. IsSome o → keys_of (with_entry e.0 o (selected f es)) ≡ e.0 ∷ keys_of es) [
      | None ↦ λ h. absurd (cc)
      | Some y ↦ λ _. ap (λ ks. e.0 ∷ ks) rest
    ] all.0

-- the labels with a value are those with a place, in their order
pub keys-values_in : {X : Type 0} (es : List (Entry X)) (places : List (Label × ℕ)) → IsStrictlySortedBy label_cmp (keys_of places) → ArePlaced es (map.from_entries places) → keys_of places ≡ map.keys (values_in es (map.from_entries places))
unfolding select
keys-values_in es places sorted are =
    let listed : map.entries (map.from_entries {R = label_cmp} places) ≡ places = entries_view label_cmp_total label_cmp_exact places sorted in
    let kept = selected (λ (_ : Label) place. value_at es place) (map.entries (map.from_entries {R = label_cmp} places)) in
    let same : keys_of kept ≡ keys_of places = keys-selected (λ (_ : Label) place. value_at es place) (map.entries (map.from_entries {R = label_cmp} places)) (each_there es (map.from_entries places) are) ∙ ap keys_of listed in
    sym (ap keys_of (entries_view label_cmp_total label_cmp_exact kept (subst (IsStrictlySortedBy label_cmp) (sym same) sorted)) ∙ same)
