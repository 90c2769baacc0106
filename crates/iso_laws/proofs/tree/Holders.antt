-- The directories above a directory: how many there may be, and that the part finds the same ones.
use Rattle.std.specs.Prelude.{◌≡◌, ℕ, zero, suc, ◌+◌, ◌≤◌, ◌&&◌, ◌||◌, Bool, true, false, List, [], ◌∷◌, Some, None, refl, cond, length}
use Rattle.std.specs.Option.{option_and_then}
use Rattle.std.specs.FinMap as map
use Rattle.std.specs.FinMap.{FinMap}
use Rattle.std.proofs.Common.{sym, ◌∙◌, ap, subst, arith, inl, inr}
use Rattle.std.proofs.lemmas.Bool.{true≢false, and_parts, and_from, or_left, or_right, true_from_ne_false, false_from_ne_true, not-true}
use Rattle.fs_path.specs.Name.{Name}
use Rattle.lab_lattice.specs.Label.{Label}
use Rattle.kern_model.specs.declared.numbers.Oid.{Oid}
use Rattle.kern_model.specs.declared.objects.Object.{Object}
use Rattle.kern_model.specs.Entries.{is_held, is_so_above, is_under, is_under_within, holder}
use Rattle.kern_model.specs.Isolation.{low, Kept}
use Rattle.kern_model.specs.Keys.{Spot, spot_cmp, same_oid}
use Rattle.kern_model.specs.Kinds.{is_dir}
use Rattle.kern_model.specs.Maps.{where_key, any_entry, count_entries}
use Rattle.kern_model.specs.State.{State, object_at, stub_object, look, root}
use Rattle.kern_model.specs.Valid.{IsValid, IsDir, leads}
use Rattle.kern_model.proofs.KeyLaws.{oid_cmp_total, oid_cmp_exact, spot_cmp_total, spot_cmp_exact}
use Rattle.kern_model.proofs.MapLemmas.{same_key, some_same, never_some, each-remove, each-entries, get_or-found}
use Rattle.iso_laws.proofs.Part.{part_by_number, shown_oid, low_spot}
use Rattle.kern_model.proofs.Selections.{test_after, find_none, find_only, find-select, count_entries-select, none_passes, none_pass, count_removed, count_at_most, get-remove_other}
use Rattle.iso_laws.proofs.tree.Entries.{leads_to, holder_low}
use Rattle.iso_laws.proofs.KeyLemmas.{never_same}
use Rattle.std.proofs.lemmas.Cmp.{eq_by_cmp_equiv}

-- ---- who holds an object
module _ (s : State) where
  no_holder : (id : Oid) → is_held s id ≡ false → holder s id ≡ None
  unfolding holder any_entry
  no_holder id none = find_none (λ (e : Spot × Oid). same_oid e.1 id) (λ (e : Spot × Oid). e.0.0) (map.entries s.entries) none

  held_by : (spot : Spot) (id : Oid) → map.get s.entries spot ≡ Some id → is_held s id ≡ true
  held_by spot id is = true_from_ne_false _ (λ none. never_same oid_cmp_total id id (none_passes spot_cmp_total spot_cmp_exact (λ (at : Spot) (to : Oid). same_oid to id) s.entries none spot id is) refl)

  -- an object to which one entry alone leads is held by the directory of that entry
  one_holder : (spot : Spot) (id : Oid) → map.get s.entries spot ≡ Some id → ((at : Spot) → map.get s.entries at ≡ Some id → at ≡ spot) → holder s id ≡ Some spot.0
  unfolding holder any_entry
  one_holder spot id is alone = find_only (λ (e : Spot × Oid). same_oid e.1 id) (λ (e : Spot × Oid). e.0.0) spot.0 (map.entries s.entries)
      (each-entries spot_cmp_total spot_cmp_exact (λ (at : Spot) (to : Oid). same_oid to id ≡ true → at.0 ≡ spot.0) s.entries
      (λ at to e same. ap (λ (x : Spot). x.0) (alone at (e ∙ ap (λ (x : Oid). Some x) (same_key oid_cmp_exact to id same)))))
      (held_by spot id is)

  -- ---- whether a directory is under another one
  module _ (top : Oid) where
    under_none : (n : ℕ) (id : Oid) → holder s id ≡ None → is_under_within s n id top ≡ same_oid id top
    under_none zero id none = refl
    under_none (suc n) id none =
        ap (λ w. same_oid id top || is_so_above (λ above. is_under_within s n above top) w) none
        ∙ elim (same_oid id top) as (λ b. (b || false) ≡ b) [ true ↦ refl | false ↦ refl ]

    under_next : (n : ℕ) (id dir : Oid) → holder s id ≡ Some dir → is_under_within s (suc n) id top ≡ (same_oid id top || is_under_within s n dir top)
    under_next n id dir is = ap (λ w. same_oid id top || is_so_above (λ above. is_under_within s n above top) w) is

  under_itself : (n : ℕ) (id : Oid) → is_under_within s n id id ≡ true
  under_itself zero id = (eq_by_cmp_equiv oid_cmp_total).refl id
  under_itself (suc n) id = or_left _ _ ((eq_by_cmp_equiv oid_cmp_total).refl id)

  -- what is under a directory is under the directory that holds it
  under_more : (n : ℕ) (id dir top : Oid) → holder s dir ≡ Some top → is_under_within s n id dir ≡ true → is_under_within s (suc n) id top ≡ true
  under_more zero id dir top is under =
      let here : id ≡ dir = same_key oid_cmp_exact id dir under in
      under_next top zero id top (ap (holder s) here ∙ is) ∙ or_right _ _ ((eq_by_cmp_equiv oid_cmp_total).refl top)
  under_more (suc n) id dir top is under =
      elim (same_oid id dir) as (λ b. same_oid id dir ≡ b → (b || is_so_above (λ above. is_under_within s n above dir) (holder s id)) ≡ true → is_under_within s (suc (suc n)) id top ≡ true) [
        | true ↦ λ same _. under_next top (suc n) id top (ap (holder s) (same_key oid_cmp_exact id dir same) ∙ is) ∙ or_right _ _ (under_itself (suc n) top)
        | false ↦ λ _.
            elim (holder s id) as (λ w. holder s id ≡ w → is_so_above (λ above. is_under_within s n above dir) w ≡ true → is_under_within s (suc (suc n)) id top ≡ true) [
              | None ↦ λ _ no. absurd (true≢false (sym no))
              | Some above ↦ λ held rest. under_next top (suc n) id above held ∙ or_right _ _ (under_more n above dir top is rest)
            ] refl
      ] refl under

-- ---- how deep a directory is
-- an entry that leads to an object, and what holds of its directory
record IsEntryTo (entries : FinMap spot_cmp Oid) (id : Oid) (Above : Oid → Type 0) : Type 0 where
  pub spot : Spot
  pub is : map.get entries spot ≡ Some id
  pub above : Above spot.0

-- n entries of a table lead down to an object from one that no directory of the state holds
abbrev IsDeep : State → FinMap spot_cmp Oid → ℕ → Oid → Type 0
IsDeep s entries zero id = is_held s id ≡ false
IsDeep s entries (suc n) id = IsEntryTo entries id (IsDeep s entries n)

-- a table has entries of the state alone
abbrev AreEntries : State → FinMap spot_cmp Oid → Type 0
AreEntries s entries = (spot : Spot) (id : Oid) → map.get entries spot ≡ Some id → map.get s.entries spot ≡ Some id

module _ (s : State) (valid : IsValid s) where
  -- an entry is in a directory
  dir_of : (spot : Spot) (id : Oid) → map.get s.entries spot ≡ Some id → IsDir s.objects spot.0
  dir_of spot id e = let entry = valid.entries spot id e in record { object = entry.dir; is = entry.dir_is; dir = entry.is_dir }

  -- names that lead to a directory lead from a directory
  from_dir : (names : List Name) (from to : Oid) → leads s from names ≡ Some to → IsDir s.objects to → IsDir s.objects from
  from_dir [] from to lead to_dir = subst (IsDir s.objects) (sym (some_same from to lead)) to_dir
  from_dir (name ∷ names) from to lead to_dir =
      elim (look s from name) as (λ w. look s from name ≡ w → option_and_then (λ (at : Oid). leads s at names) w ≡ Some to → IsDir s.objects from) [
        | None ↦ λ _ no. absurd (never_some None to refl no)
        | Some at ↦ λ e _. dir_of (from, name) at e
      ] refl lead

  held_one : (spot : Spot) (id : Oid) → map.get s.entries spot ≡ Some id → IsDir s.objects id → holder s id ≡ Some spot.0
  held_one spot id e dir = one_holder s spot id e (λ at is. valid.one_entry at spot id dir.object is e dir.is dir.dir)

  -- a directory to which at most n names lead is under the directory that they lead from, within n steps
  under_from : (names : List Name) (n : ℕ) (from to : Oid) → length names ≤ n → leads s from names ≡ Some to → IsDir s.objects to → is_under_within s n to from ≡ true
  under_from [] n from to few lead to_dir = subst (λ (x : Oid). is_under_within s n x from ≡ true) (some_same from to lead) (under_itself s n from)
  under_from (name ∷ names) zero from to few lead to_dir = absurd (omega (arith, few))
  under_from (name ∷ names) (suc n) from to few lead to_dir =
      elim (look s from name) as (λ w. look s from name ≡ w → option_and_then (λ (at : Oid). leads s at names) w ≡ Some to → is_under_within s (suc n) to from ≡ true) [
        | None ↦ λ _ no. absurd (never_some None to refl no)
        | Some at ↦ λ e rest. under_more s n to at from (held_one (from, name) at e (from_dir names at to rest to_dir)) (under_from names n at to (omega (arith, few)) rest to_dir)
      ] refl lead

  -- names lead as much deeper as there are names
  leads_deeper : (names : List Name) (from to : Oid) (n m : ℕ) → m ≡ length names + n → IsDeep s s.entries n from → leads s from names ≡ Some to → IsDeep s s.entries m to
  leads_deeper [] from to n m sum deep lead =
      let same : n ≡ m = omega (arith, sum) in
      subst (λ (x : Oid). IsDeep s s.entries m x) (some_same from to lead) (subst (λ k. IsDeep s s.entries k from) same deep)
  leads_deeper (name ∷ names) from to n m sum deep lead =
      elim (look s from name) as (λ w. look s from name ≡ w → option_and_then (λ (at : Oid). leads s at names) w ≡ Some to → IsDeep s s.entries m to) [
        | None ↦ λ _ no. absurd (never_some None to refl no)
        | Some at ↦ λ e rest. leads_deeper names at to (suc n) m (omega (arith, sum)) (record { spot = (from, name); is = e; above = deep }) rest
      ] refl lead

  -- no directory holds the root
  root_free : is_held s root ≡ false
  root_free = none_pass spot_cmp_total spot_cmp_exact (λ (spot : Spot) (to : Oid). same_oid to root) s.entries (λ spot id e.
      false_from_ne_true _ (λ t. (valid.entries spot id e).no_root (same_key oid_cmp_exact id root t)))

  -- each directory has a depth
  depth_of : (id : Oid) → IsDir s.objects id → (n : ℕ) × IsDeep s s.entries n id
  depth_of id dir = elim ((valid.objects id dir.object dir.is).reached dir.dir) as (λ w. (n : ℕ) × IsDeep s s.entries n id) [
    | inl r ↦ (length r.names + 0, leads_deeper r.names root id 0 (length r.names + 0) refl root_free r.lead)
    | inr gone ↦ (0, not-true _ (and_parts _ _ gone.0).1)
  ]

  -- a directory has at most one depth
  one_depth : (es : FinMap spot_cmp Oid) → AreEntries s es → (m n : ℕ) (id : Oid) → IsDir s.objects id → IsDeep s es m id → IsDeep s es n id → m ≡ n
  one_depth es from zero zero id dir a b = refl
  one_depth es from zero (suc n) id dir a b = absurd (true≢false (sym (held_by s b.spot id (from b.spot id b.is)) ∙ a))
  one_depth es from (suc m) zero id dir a b = absurd (true≢false (sym (held_by s a.spot id (from a.spot id a.is)) ∙ b))
  one_depth es from (suc m) (suc n) id dir a b =
      let a_is = from a.spot id a.is in
      let same : b.spot ≡ a.spot = valid.one_entry b.spot a.spot id dir.object (from b.spot id b.is) a_is dir.is dir.dir in
      ap suc (one_depth es from m n a.spot.0 (dir_of a.spot id a_is) a.above (subst (λ (x : Spot). IsDeep s es n x.0) same b.above))

  -- without the entry that leads to an object, what is less deep than the object keeps its depth
  still_deep : (es : FinMap spot_cmp Oid) → AreEntries s es → (m : ℕ) (id : Oid) → IsDir s.objects id → (deep : IsDeep s es (suc m) id) → (n : ℕ) (x : Oid) → n ≤ m → IsDir s.objects x → IsDeep s es n x → IsDeep s (map.remove es deep.spot) n x
  still_deep es from m id dir deep zero x less x_dir is = is
  still_deep es from m id dir deep (suc n) x less x_dir is =
      let there = from is.spot x is.is in
      record {
        spot = is.spot;
        is = get-remove_other spot_cmp_total es deep.spot is.spot (false_from_ne_true _ (λ t.
            let same : x ≡ id = some_same x id (sym is.is ∙ ap (map.get es) (same_key spot_cmp_exact is.spot deep.spot t) ∙ deep.is) in
            let depth : suc n ≡ suc m = one_depth es from (suc n) (suc m) x x_dir is (subst (λ (y : Oid). IsDeep s es (suc m) y) (sym same) deep) in
            absurd (omega (arith, less, depth)))) ∙ is.is;
        above = still_deep es from m id dir deep n is.spot.0 (omega (arith, less)) (dir_of is.spot x there) is.above;
      }

  -- a set of directories: the spot at which each of them is held passes a test, and its directory is in the set
  module _ (keep : Spot → Bool) (In : Oid → Type 0) (dirs : (id : Oid) → In id → IsDir s.objects id) (up : (spot : Spot) (id : Oid) → map.get s.entries spot ≡ Some id → In id → (keep spot ≡ true) × In spot.0) where
    -- none of them is deeper than there are entries at spots that pass the test
    deep_at_most : (es : FinMap spot_cmp Oid) → AreEntries s es → (n : ℕ) (id : Oid) → In id → IsDeep s es n id → n ≤ count_entries (λ (spot : Spot) (to : Oid). keep spot) es
    deep_at_most es from zero id within deep = omega arith
    deep_at_most es from (suc n) id within deep =
        let there = from deep.spot id deep.is in
        let next = up deep.spot id there within in
        let fewer = map.remove es deep.spot in
        let still : AreEntries s fewer = each-remove spot_cmp_total spot_cmp_exact (λ (spot : Spot) (to : Oid). map.get s.entries spot ≡ Some to) es from deep.spot in
        let rest : n ≤ count_entries (λ (spot : Spot) (to : Oid). keep spot) fewer =
        deep_at_most fewer still n deep.spot.0 next.1 (still_deep es from n id (dirs id within) deep n deep.spot.0 (omega arith) (dirs deep.spot.0 next.1) deep.above) in
        omega (arith, rest, count_removed spot_cmp_total spot_cmp_exact (λ (spot : Spot) (to : Oid). keep spot) deep.spot es id deep.is next.0)

  -- no directory is deeper than there are entries
  depth_at_most : (n : ℕ) (id : Oid) → IsDir s.objects id → IsDeep s s.entries n id → n ≤ length (map.entries s.entries)
  depth_at_most n id dir deep =
      let few = deep_at_most (λ spot. true) (IsDir s.objects) (λ q q_dir. q_dir) (λ spot q e _. (refl, dir_of spot q e)) s.entries (λ spot q e. e) n id dir deep in
      omega (arith, few, count_at_most (λ (spot : Spot) (to : Oid). true) s.entries)

  -- a directory to which names lead is under the directory from which they lead
  led_under : (names : List Name) (from to : Oid) → leads s from names ≡ Some to → IsDir s.objects to → is_under s to from ≡ true
  unfolding is_under
  led_under names from to lead to_dir =
      let deep = depth_of from (from_dir names from to lead to_dir) in
      let few = depth_at_most (length names + deep.0) to to_dir (leads_deeper names from to deep.0 (length names + deep.0) refl deep.1 lead) in
      under_from names (length (map.entries s.entries)) from to (omega (arith, few)) lead to_dir

  -- no names lead from what is no directory, and from a directory none to what is not under it
  pub never_leads : (id to : Oid) → IsDir s.objects to → (is_dir (object_at s id).kind && is_under s to id) ≡ false → (names : List Name) → leads s id names ≡ Some to → ⊥
  never_leads id to to_dir outside names lead =
      let dir = from_dir names id to lead to_dir in
      let reads : is_dir (object_at s id).kind ≡ true = ap (λ (o : Object). is_dir o.kind) (get_or-found s.objects id (stub_object s.top) dir.object dir.is) ∙ ap is_dir dir.dir in
      true≢false (sym (and_from _ _ reads (led_under names id to lead to_dir)) ∙ outside)

-- ---- in the part of a label
module _ (l : Label) (s : State) (kept : Kept l s) (valid : IsValid s) where
  abbrev part_s : State
  part_s = part_by_number l s

  -- a Low directory
  record IsLowDir (id : Oid) : Type 0 where
    pub dir : IsDir s.objects id
    pub is_low : low l id.label ≡ true

  low_above : (spot : Spot) (id : Oid) → map.get s.entries spot ≡ Some id → IsLowDir id → IsLowDir spot.0
  low_above spot id e low_dir = record {
    dir = dir_of s valid spot id e;
    is_low = holder_low l s kept valid id (record { value = low_dir.dir.object; is = low_dir.dir.is }) low_dir.is_low spot e;
  }

  same_holder : (id : Oid) → IsLowDir id → holder part_s id ≡ holder s id
  unfolding holder part_by_number
  same_holder id low_dir =
      find-select spot_cmp_total spot_cmp_exact (where_key (low_spot l) (shown_oid l s.top)) (λ (spot : Spot) (to : Oid). same_oid to id) (λ (spot : Spot) (to : Oid). same_oid to id) s.entries
      (leads_to l s kept valid id (record { value = low_dir.dir.object; is = low_dir.dir.is }) low_dir.is_low) (λ (spot : Spot). spot.0)

  -- the part has no fewer entries than the state has at Low spots
  low_count : count_entries (λ (spot : Spot) (to : Oid). low_spot l spot) s.entries ≤ length (map.entries part_s.entries)
  unfolding part_by_number
  low_count =
      let counted = count_entries-select spot_cmp_total spot_cmp_exact (where_key (low_spot l) (shown_oid l s.top)) (λ (spot : Spot) (to : Oid). low_spot l spot) (λ (spot : Spot) (to : Oid). true) s.entries (λ spot to _.
      elim (low_spot l spot) as (λ b. test_after (λ (at : Spot) (x : Oid). true) spot (cond b (Some (shown_oid l s.top to)) None) ≡ b) [ true ↦ refl | false ↦ refl ]) in
      omega (arith, counted, count_at_most (λ (spot : Spot) (to : Oid). true) part_s.entries)

  -- where it has enough steps, the search up from a Low directory finds the same in the part as in the state
  same_within : (top : Oid) (n : ℕ) (id : Oid) → IsLowDir id → IsDeep s s.entries n id → (j k : ℕ) → n ≤ j → n ≤ k → is_under_within part_s j id top ≡ is_under_within s k id top
  same_within top zero id low_dir deep j k _ _ =
      let none = no_holder s id deep in
      under_none part_s top j id (same_holder id low_dir ∙ none) ∙ sym (under_none s top k id none)
  same_within top (suc n) id low_dir deep zero k more _ = absurd (omega (arith, more))
  same_within top (suc n) id low_dir deep (suc j) zero _ more = absurd (omega (arith, more))
  same_within top (suc n) id low_dir deep (suc j) (suc k) more_j more_k =
      let is = held_one s valid deep.spot id deep.is low_dir.dir in
      under_next part_s top j id deep.spot.0 (same_holder id low_dir ∙ is)
      ∙ ap (λ b. same_oid id top || b) (same_within top n deep.spot.0 (low_above deep.spot id deep.is low_dir) deep.above j k (omega (arith, more_j)) (omega (arith, more_k)))
      ∙ sym (under_next s top k id deep.spot.0 is)

  -- a Low directory is under another one in the part exactly where it is in the state
  pub under_low : (id top : Oid) → IsDir s.objects id → low l id.label ≡ true → is_under part_s id top ≡ is_under s id top
  unfolding is_under
  under_low id top dir is_low =
      let low_dir : IsLowDir id = record { dir = dir; is_low = is_low } in
      let deep = depth_of s valid id dir in
      let few = deep_at_most s valid (low_spot l) IsLowDir (λ q q_is. q_is.dir) (λ spot q e q_is. ((low_above spot q e q_is).is_low, low_above spot q e q_is)) s.entries (λ spot q e. e) deep.0 id low_dir deep.1 in
      same_within top deep.0 id low_dir deep.1 (length (map.entries part_s.entries)) (length (map.entries s.entries)) (omega (arith, few, low_count)) (depth_at_most s valid deep.0 id dir deep.1)
