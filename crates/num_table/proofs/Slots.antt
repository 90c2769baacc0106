-- The values of a table in its slab, after one of them is put in, changed or removed.
use Rattle.std.specs.Prelude.{◌≡◌, ◌≢◌, ◌&&◌, ℕ, ◌+◌, ◌-◌, ◌<◌, Bool, true, false, List, [], ◌∷◌, Option, None, Some, IsSome, cond, is_some, length, refl}
use Rattle.std.specs.declared.cmp.Ordering.{Ordering}
use Rattle.std.specs.Ordering.{eq_by_cmp, is_lt}
use Rattle.std.specs.Cmp.{IsTotalOrder}
use Rattle.std.specs.Option.{option_and_then, option_map}
use Rattle.std.specs.List.{AllByRecursion}
use Rattle.std.specs.Map.{keys_of}
use Rattle.std.specs.FinMap as map
use Rattle.std.specs.FinMap.{FinMap, IsAntisymmetric, entries_sorted, get-empty, get-insert, get-remove, is_sorted, len-empty, len-insert, len-remove, same_map}
use Rattle.std.specs.FinMap.Entries.{below_all}
use Rattle.std.proofs.Common.{ap, arith, inl, inr, subst, sym, ◌∙◌, T}
use Rattle.std.proofs.lemmas.Bool.{cases_lt, true≢false}
use Rattle.std.proofs.lemmas.List.{get_or-set_other, get_or-set_same, get_or_past}
use Rattle.std.proofs.lemmas.List.Sums.{sum_by-set}
use Rattle.slab.specs.Slab.{Slab, Updates, get, slab_len, with_value}
use Rattle.kern_model.specs.Maps.{select, selected, with_entry}
use Rattle.kern_model.proofs.MapLemmas.{each-entries, get-select, never_some, remove-absent, same_key, some_same}
use Rattle.num_table.specs.Slots.{IsPlaced, values_in}
use Rattle.kern_model.proofs.SortedEntries.{entries_sorted_list, same_itself}

-- ---- what a slot holds
pub there_is : {X : Type 0} (o : Option X) → IsSome o → o ≡ None → ⊥
there_is o h e = true≢false (sym h ∙ ap is_some e)

-- the key that holds a value, and none where there is no value
abbrev key_of : {X : Type 0} → ℕ → Option X → Option ℕ
key_of key w = option_map (λ _. key) w

key_is : {X : Type 0} (key k : ℕ) (w : Option X) → key_of key w ≡ Some k → k ≡ key
key_is key k None e = absurd (cc)
key_is key k (Some x) e = sym (some_same key k e)

key_there : {X : Type 0} (key k : ℕ) (w : Option X) → key_of key w ≡ Some k → IsSome w
key_there key k None e = absurd (cc)
key_there key k (Some x) e = refl

-- ---- room in the slab changes no value
module _ {K X : Type 0} {R : K → K → Ordering} (slots : Slab X) where
  same_values : (capacity : ℕ) (keys : FinMap R ℕ) → values_in (record slots { capacity = capacity }) keys ≡ values_in slots keys
  unfolding values_in
  same_values capacity keys = refl

  pub reserved : (new : Slab X) (keys : FinMap R ℕ) → new ≡ record slots { capacity = new.capacity } → IsPlaced slots keys → IsPlaced new keys
  reserved new keys same are = subst (λ (s : Slab X). IsPlaced s keys) (sym same) (record { there = are.there; apart = are.apart; size = are.size })

  pub reserved_values : (new : Slab X) (keys : FinMap R ℕ) → new ≡ record slots { capacity = new.capacity } → values_in new keys ≡ values_in slots keys
  reserved_values new keys same = ap (λ (s : Slab X). values_in s keys) same ∙ same_values new.capacity keys

other_num : {K : Type 0} {R : K → K → Ordering} → IsTotalOrder R → (q n : K) → eq_by_cmp R q n ≡ false → q ≢ n
other_num {R = R} total q n f e = true≢false (sym (same_itself total n) ∙ ap (λ a. eq_by_cmp R a n) (sym e) ∙ f)

module _ {K X : Type 0} {R : K → K → Ordering} (total : IsTotalOrder R) (exact : IsAntisymmetric R) where
  -- ---- the value at a number
  pub found : (slots : Slab X) (keys : FinMap R ℕ) (q : K) → map.get (values_in slots keys) q ≡ option_and_then (get slots) (map.get keys q)
  unfolding values_in
  found slots keys q = get-select exact (λ (n : K) (key : ℕ). get slots key) total keys q

  -- one slot is set, with the key of its number: to a value, or to none
  pub record IsPut (slots slots' : Slab X) (keys keys' : FinMap R ℕ) (n : K) (key : ℕ) (w : Option X) : Type 0 where
    pub slot : Updates slots slots' key w
    pub at : (q : K) → map.get keys' q ≡ cond (eq_by_cmp R q n) (key_of key w) (map.get keys q)
    -- no other number has the key
    pub own : (q : K) → map.get keys q ≡ Some key → q ≡ n

  module _ {slots slots' : Slab X} {keys keys' : FinMap R ℕ} {n : K} {key : ℕ} {w : Option X} (put : IsPut slots slots' keys keys' n key w) where
    here : (v : Option X) → get slots' key ≡ v → option_and_then (get slots') (key_of key v) ≡ v
    here None e = refl
    here (Some x) e = e

    -- the slot of another number stays
    elsewhere : (q : K) (k : ℕ) → eq_by_cmp R q n ≡ false → map.get keys q ≡ Some k → get slots' k ≡ get slots k
    elsewhere q k other is = put.slot.others k (λ same. other_num total q n other (put.own q (is ∙ ap Some same)))

    put_value : (q : K) → map.get (values_in slots' keys') q ≡ cond (eq_by_cmp R q n) w (map.get (values_in slots keys) q)
    put_value q =
        found slots' keys' q ∙ ap (option_and_then (get slots')) (put.at q)
        ∙ elim (eq_by_cmp R q n) as (λ b. eq_by_cmp R q n ≡ b → option_and_then (get slots') (cond b (key_of key w) (map.get keys q)) ≡ cond b w (option_and_then (get slots) (map.get keys q))) [
          | true ↦ λ _. here w put.slot.changed
          | false ↦ λ f. elim (map.get keys q) as (λ o. map.get keys q ≡ o → option_and_then (get slots') o ≡ option_and_then (get slots) o) [
            | None ↦ λ _. refl
            | Some k ↦ λ is. elsewhere q k f is
          ] refl
        ] refl
        ∙ ap (cond (eq_by_cmp R q n) w) (sym (found slots keys q))

    -- a number that has the key after the change is the one that was set
    owner : (q : K) → map.get keys' q ≡ Some key → q ≡ n
    owner q is = elim (eq_by_cmp R q n) as (λ b. eq_by_cmp R q n ≡ b → cond b (key_of key w) (map.get keys q) ≡ Some key → q ≡ n) [
      | true ↦ λ t _. same_key exact q n t
      | false ↦ λ _ e. put.own q e
    ] refl (sym (put.at q) ∙ is)

    -- each number still has a place of its own
    pub put_placed : IsPlaced slots keys → slab_len slots' ≡ map.len keys' → IsPlaced slots' keys'
    put_placed are len = record {
      there = λ q k is. elim (eq_by_cmp R q n) as (λ b. eq_by_cmp R q n ≡ b → cond b (key_of key w) (map.get keys q) ≡ Some k → IsSome (get slots' k)) [
        | true ↦ λ _ e. subst IsSome (sym (ap (get slots') (key_is key k w e) ∙ put.slot.changed)) (key_there key k w e)
        | false ↦ λ f e. subst IsSome (sym (elsewhere q k f e)) (are.there q k e)
      ] refl (sym (put.at q) ∙ is);
      apart = λ a b k e f. elim (eq_by_cmp R a n) as (λ v. eq_by_cmp R a n ≡ v → cond v (key_of key w) (map.get keys a) ≡ Some k → a ≡ b) [
        | true ↦ λ t h. same_key exact a n t ∙ sym (owner b (f ∙ ap Some (key_is key k w h)))
        | false ↦ λ t h. elim (eq_by_cmp R b n) as (λ v. eq_by_cmp R b n ≡ v → cond v (key_of key w) (map.get keys b) ≡ Some k → a ≡ b) [
          | true ↦ λ u i. owner a (e ∙ ap Some (key_is key k w i)) ∙ sym (same_key exact b n u)
          | false ↦ λ u i. are.apart a b k h i
        ] refl (sym (put.at b) ∙ f)
      ] refl (sym (put.at a) ∙ e);
      size = len;
    }

  -- ---- the three changes
  module _ {slots : Slab X} {keys : FinMap R ℕ} (are : IsPlaced slots keys) (n : K) (key : ℕ) where
    only : map.get keys n ≡ Some key → (q : K) → map.get keys q ≡ Some key → q ≡ n
    only is q e = are.apart q n key e is

    -- a key that is vacant is that of no number
    vacant_for : get slots key ≡ None → (q : K) → map.get keys q ≡ Some key → q ≡ n
    vacant_for vacant q e = absurd (there_is (get slots key) (are.there q key e) vacant)

    -- the key of a slot that holds something is within the slab
    within : IsSome (get slots key) → key < length slots.slots
    within there = elim (cases_lt key (length slots.slots)) [
      | inl h ↦ h
      | inr h ↦ absurd (there_is (get slots key) there (get_or_past slots.slots key None h))
    ]

    one_of : (b : Bool) → b ≡ true → ◌≡◌ {A = ℕ} (cond b 1 0) 1
    one_of b e = ap (λ b. cond {A = ℕ} b 1 0) e

    module _ (is : map.get keys n ≡ Some key) (x : X) where
      replaced : IsPut slots (with_value slots key x) keys keys n key (Some x)
      replaced = record {
        slot = record {
          changed = get_or-set_same slots.slots key (Some x) None (within (are.there n key is));
          others = λ other apart. get_or-set_other slots.slots key other (Some x) None apart;
        };
        at = λ q. elim (eq_by_cmp R q n) as (λ b. eq_by_cmp R q n ≡ b → map.get keys q ≡ cond b (Some key) (map.get keys q)) [
          | true ↦ λ t. ap (map.get keys) (same_key exact q n t) ∙ is
          | false ↦ λ _. refl
        ] refl;
        own = only is;
      }

      same_len : slab_len (with_value slots key x) ≡ slab_len slots
      same_len =
          let there = are.there n key is in
          let counted = sum_by-set (λ (slot : Option X). cond (is_some slot) 1 0) slots.slots key (Some x) None (within there) in
          let one = one_of (is_some (get slots key)) there in
          omega (arith, counted, one)

      -- a value is changed at its place
      pub replaced_placed : IsPlaced (with_value slots key x) keys
      replaced_placed = put_placed replaced are (same_len ∙ are.size)

      pub replaced_value : values_in (with_value slots key x) keys ≡ map.insert (values_in slots keys) n x
      replaced_value = same_map total exact _ _ (λ q. put_value replaced q ∙ sym (get-insert total (values_in slots keys) n x q))

    module _ (slots' : Slab X) (x : X) (vacant : get slots key ≡ None) (slot : Updates slots slots' key (Some x)) where
      added : IsPut slots slots' keys (map.insert keys n key) n key (Some x)
      added = record { slot = slot; at = λ q. get-insert total keys n key q; own = vacant_for vacant }

      -- a value is put in at a number that has none
      pub added_placed : map.get keys n ≡ None → slab_len slots' ≡ slab_len slots + 1 → IsPlaced slots' (map.insert keys n key)
      added_placed none len = put_placed added are
          (len ∙ ap (λ m. m + 1) are.size ∙ sym (len-insert total keys n key ∙ ap (λ w. cond (is_some w) (map.len keys) (map.len keys + 1)) none))

      pub added_value : values_in slots' (map.insert keys n key) ≡ map.insert (values_in slots keys) n x
      added_value = same_map total exact _ _ (λ q. put_value added q ∙ sym (get-insert total (values_in slots keys) n x q))

    module _ (slots' : Slab X) (is : map.get keys n ≡ Some key) (slot : Updates slots slots' key None) where
      removed : IsPut slots slots' keys (map.remove keys n) n key None
      removed = record { slot = slot; at = λ q. get-remove total keys n q; own = only is }

      -- a value is removed
      pub removed_placed : slab_len slots' + 1 ≡ slab_len slots → IsPlaced slots' (map.remove keys n)
      removed_placed len =
          let fewer : map.len (map.remove keys n) ≡ map.len keys - 1 = len-remove total keys n ∙ ap (λ w. cond (is_some w) (map.len keys - 1) (map.len keys)) is in
          let size = are.size in
          put_placed removed are (omega (arith, len, fewer, size))

      pub removed_value : values_in slots' (map.remove keys n) ≡ map.remove (values_in slots keys) n
      removed_value = same_map total exact _ _ (λ q. put_value removed q ∙ sym (get-remove total (values_in slots keys) n q))

  -- ---- without keys
  module _ (slots : Slab X) where
    pub none_there : values_in {R = R} slots map.empty ≡ map.empty
    none_there = same_map total exact _ _ (λ q. found slots (map.empty {R = R}) q ∙ ap (option_and_then (get slots)) (get-empty R q) ∙ sym (get-empty R q))

    pub none_placed : slab_len slots ≡ 0 → IsPlaced {R = R} slots map.empty
    none_placed none = record {
      there = λ n key e. absurd (never_some (map.get (map.empty {R = R}) n) key (get-empty R n) e);
      apart = λ a b key e f. absurd (never_some (map.get (map.empty {R = R}) a) key (get-empty R a) e);
      size = none ∙ sym (len-empty R ℕ);
    }

  -- ---- a table that is seen as the values
  module _ (slots : Slab X) (keys : FinMap R ℕ) (m : FinMap R X) (view : values_in slots keys ≡ m) (n : K) where
    value_of : map.get m n ≡ option_and_then (get slots) (map.get keys n)
    value_of = ap (λ (m : FinMap R X). map.get m n) (sym view) ∙ found slots keys n

    no_key : IsPlaced slots keys → (o : Option ℕ) → map.get keys n ≡ o → option_and_then (get slots) o ≡ None → o ≡ None
    no_key are None is none = refl
    no_key are (Some key) is none = absurd (there_is (get slots key) (are.there n key is) none)

    -- a number without a value has no key
    pub absent_key : IsPlaced slots keys → map.get m n ≡ None → map.get keys n ≡ None
    absent_key are none = no_key are (map.get keys n) refl (sym value_of ∙ none)

    module _ (kept : Option ℕ) (is : kept ≡ map.get keys n) where
      -- the value under a key
      pub value_at : (key : ℕ) → kept ≡ Some key → get slots key ≡ map.get m n
      value_at key some = sym (value_of ∙ ap (option_and_then (get slots)) (sym is ∙ some))

      module _ (none : kept ≡ None) where
        -- without a key there is none
        pub no_value : None ≡ map.get m n
        no_value = sym (value_of ∙ ap (option_and_then (get slots)) (sym is ∙ none))

        -- and its removal changes nothing
        module _ (keys' : FinMap R ℕ) (left : keys' ≡ map.remove keys n) where
          pub same_keys : keys' ≡ keys
          same_keys = left ∙ remove-absent total exact keys n (sym is ∙ none)

          pub absent_removed : values_in slots keys' ≡ map.remove m n
          absent_removed = ap (values_in slots) same_keys ∙ view ∙ sym (remove-absent total exact m n (sym no_value))

  -- ---- in order
  module _ (slots : Slab X) where
    abbrev value : K → ℕ → Option X
    value n key = get slots key

    abbrev HasValue : K × ℕ → Type 0
    HasValue e = IsSome (get slots e.1)

    entry_below : (q n : K) (w : Option X) (es : List (K × X)) → IsSome w → below_all R q (with_entry n w es) ≡ (is_lt (R q n) && below_all R q es)
    entry_below q n None es there = absurd (there_is {X = X} None there refl)
    entry_below q n (Some x) es there = refl

    entry_sorted : (n : K) (w : Option X) (es : List (K × X)) → IsSome w → is_sorted R (with_entry n w es) ≡ (below_all R n es && is_sorted R es)
    entry_sorted n None es there = absurd (there_is {X = X} None there refl)
    entry_sorted n (Some x) es there = refl

    entry_key : (n : K) (w : Option X) (es : List (K × X)) → IsSome w → keys_of (with_entry n w es) ≡ n ∷ keys_of es
    entry_key n None es there = absurd (there_is {X = X} None there refl)
    entry_key n (Some x) es there = refl

    below_selected : (q : K) (es : List (K × ℕ)) → AllByRecursion HasValue es → below_all R q (selected value es) ≡ below_all R q es
    below_selected q [] all = refl
    below_selected q (e ∷ es) all = entry_below q e.0 (get slots e.1) (selected value es) all.0 ∙ ap (λ b. is_lt (R q e.0) && b) (below_selected q es all.1)

    sorted_selected : (es : List (K × ℕ)) → AllByRecursion HasValue es → is_sorted R (selected value es) ≡ is_sorted R es
    sorted_selected [] all = refl
    sorted_selected (e ∷ es) all =
        entry_sorted e.0 (get slots e.1) (selected value es) all.0 ∙ ap (λ b. b && is_sorted R (selected value es)) (below_selected e.0 es all.1)
        ∙ ap (λ b. below_all R e.0 es && b) (sorted_selected es all.1)

    keys_selected : (es : List (K × ℕ)) → AllByRecursion HasValue es → keys_of (selected value es) ≡ keys_of es
    keys_selected [] all = refl
    keys_selected (e ∷ es) all = entry_key e.0 (get slots e.1) (selected value es) all.0 ∙ ap (λ ns. e.0 ∷ ns) (keys_selected es all.1)

    -- the numbers of the values are those of the keys
    pub keys-values_in : (keys : FinMap R ℕ) → IsPlaced slots keys → map.keys (values_in slots keys) ≡ map.keys keys
    unfolding values_in select
    keys-values_in keys are =
        let all = each-entries total exact (λ (n : K) (key : ℕ). IsSome (get slots key)) keys are.there in
        ap keys_of (entries_sorted_list total exact (selected value (map.entries keys)) (subst T (sym (sorted_selected (map.entries keys) all)) (entries_sorted keys)))
        ∙ keys_selected (map.entries keys) all
