-- A valid state stays valid where an entry moves.
use Rattle.std.specs.Prelude.{◌≡◌, ◌⊎◌, ◌≤◌, Bool, true, false, not, List, [], ◌∷◌, ◌++◌, Some, None, refl}
use Rattle.std.specs.Option.{option_and_then}
use Rattle.std.specs.Ordering.{eq_by_cmp}
use Rattle.std.specs.FinMap as map
use Rattle.std.specs.FinMap.{FinMap}
use Rattle.std.proofs.Common.{sym, ◌∙◌, ap, subst, arith, inl, inr}
use Rattle.std.proofs.lemmas.Bool.{true≢false, and_parts, and_from, false_from_ne_true, not-true}
use Rattle.fs_path.specs.Name.{Name, is_name}
use Rattle.lab_lattice.specs.Label.{dominates}
use Rattle.kern_model.specs.declared.numbers.Oid.{Oid}
use Rattle.kern_model.specs.declared.objects.Kind.TheVariants as kind
use Rattle.kern_model.specs.declared.objects.Object.{Object}
use Rattle.kern_model.specs.Entries.{is_empty, is_held, is_removed, link_count}
use Rattle.kern_model.specs.Keys.{Spot, oid_cmp, spot_cmp, same_oid}
use Rattle.kern_model.specs.Maps.{any_entry}
use Rattle.kern_model.specs.State.{State, DropEntry, SetEntry, apply_change, apply_changes, object_at, stub_object, look, root}
use Rattle.kern_model.specs.Valid.{IsValid, IsDir, IsReached, IsValidObject, IsValidEntry, leads}
use Rattle.kern_model.proofs.KeyLaws.{oid_cmp_total, oid_cmp_exact, spot_cmp_total, spot_cmp_exact}
use Rattle.kern_model.proofs.MapLemmas.{same_key, some_same, never_some, each-remove, each-insert, get-insert_same, get-insert_kept, get_or-found}
use Rattle.iso_laws.proofs.PathLemmas.{leads_step, leads_still, leads_on, leads_append}
use Rattle.kern_model.proofs.Selections.{none_passes, none_pass, count_remove, count_removed, count_insert, count_insert_other, get-remove_same, get-remove_other, get-remove_none, insert-over_removed}
use Rattle.iso_laws.proofs.tree.Changes.{with_tree, tree_object, tree_entry, valid_tree, valid_drop, not_removed_reached, no_name_in}
use Rattle.iso_laws.proofs.KeyLemmas.{distinct, never_same}

-- an entry may move to a spot of a directory that is neither removed nor below what moves; what is there is another thing, without entries
pub record IsMove (s : State) (dir : Oid) (name : Name) (id into : Oid) (new : Name) : Type 0 where
  pub at : look s dir name ≡ Some id
  pub into_is : IsDir s.objects into
  pub not_removed : is_removed s into ≡ false
  pub apart : (names : List Name) → leads s id names ≡ Some into → ⊥
  pub gives_way : (t : Oid) → look s into new ≡ Some t → same_oid t id ≡ false × (is_empty s t ≡ true)
  pub order : dominates (object_at s id).label (object_at s into).label ≡ true

-- the same names lead from an object to another in two states
record IsLed (s t : State) (from to : Oid) : Type 0 where
  pub names : List Name
  pub before : leads s from names ≡ Some to
  pub after : leads t from names ≡ Some to

-- ---- to a spot where nothing is
module _ (s : State) (valid : IsValid s) (dir : Oid) (name : Name) (id into : Oid) (new : Name) (move : IsMove s dir name id into new) (free : look s into new ≡ None) where
  abbrev without : FinMap spot_cmp Oid
  without = map.remove s.entries (dir, name)

  abbrev moved : FinMap spot_cmp Oid
  moved = map.insert without (into, new) id

  abbrev moved_state : State
  moved_state = with_tree s s.objects moved s.object_numbers

  free_still : map.get without (into, new) ≡ None
  free_still = get-remove_none spot_cmp_total s.entries (dir, name) (into, new) free

  each_moved : (P : Spot → Oid → Type 0) → ((at : Spot) (q : Oid) → map.get s.entries at ≡ Some q → P at q) → P (into, new) id → (at : Spot) (q : Oid) → map.get moved at ≡ Some q → P at q
  each_moved P old now = each-insert spot_cmp_total spot_cmp_exact P without (each-remove spot_cmp_total spot_cmp_exact P s.entries old (dir, name)) (into, new) id now

  none_moved : (p : Spot → Oid → Bool) → any_entry p s.entries ≡ false → p (into, new) id ≡ false → any_entry p moved ≡ false
  none_moved p none unmet = none_pass spot_cmp_total spot_cmp_exact p moved (each_moved (λ (at : Spot) (q : Oid). p at q ≡ false) (none_passes spot_cmp_total spot_cmp_exact p s.entries none) unmet)

  no_more_names : (q : Oid) → link_count moved_state q ≤ link_count s q
  no_more_names q =
      let names : Spot → Oid → Bool = λ (at : Spot) (to : Oid). same_oid to q in
      elim (same_oid id q) as (λ b. same_oid id q ≡ b → link_count moved_state q ≤ link_count s q) [
        | true ↦ λ t. omega (arith, count_insert spot_cmp_total spot_cmp_exact names (into, new) without id free_still, count_removed spot_cmp_total spot_cmp_exact names (dir, name) s.entries id move.at t)
        | false ↦ λ f. omega (arith, count_insert_other spot_cmp_total spot_cmp_exact names (into, new) without id free_still f, count_remove spot_cmp_total spot_cmp_exact names (dir, name) s.entries)
      ] refl

  stays : (at : Spot) (q : Oid) → eq_by_cmp spot_cmp at (dir, name) ≡ false → map.get s.entries at ≡ Some q → map.get moved at ≡ Some q
  stays at q other e = get-insert_kept spot_cmp_total spot_cmp_exact without (into, new) id free_still at q (get-remove_other spot_cmp_total s.entries (dir, name) at other ∙ e)

  -- names lead where they led, or some names lead there from what moved
  leads_moved : (names : List Name) (from q : Oid) → leads s from names ≡ Some q → (leads moved_state from names ≡ Some q) ⊎ IsLed s moved_state id q
  leads_moved [] from q h = inl h
  leads_moved (next ∷ names) from q h =
      elim (look s from next) as (λ w. look s from next ≡ w → option_and_then (λ (at : Oid). leads s at names) w ≡ Some q → (leads moved_state from (next ∷ names) ≡ Some q) ⊎ IsLed s moved_state id q) [
        | None ↦ λ _ g. absurd (never_some None q refl g)
        | Some at ↦ λ e g.
            elim (leads_moved names at q g) as (λ w. (leads moved_state from (next ∷ names) ≡ Some q) ⊎ IsLed s moved_state id q) [
              | inr led ↦ inr led
              | inl rest ↦
                  elim (eq_by_cmp spot_cmp (from, next) (dir, name)) as (λ b. eq_by_cmp spot_cmp (from, next) (dir, name) ≡ b → (leads moved_state from (next ∷ names) ≡ Some q) ⊎ IsLed s moved_state id q) [
                    | true ↦ λ t.
                        let same : at ≡ id = some_same at id (sym e ∙ ap (map.get s.entries) (same_key spot_cmp_exact (from, next) (dir, name) t) ∙ move.at) in
                        inr (subst (λ (d : Oid). IsLed s moved_state d q) same (record { names = names; before = g; after = rest }))
                    | false ↦ λ other. inl (leads_step moved_state from next names at (stays (from, next) at other e) ∙ rest)
                  ] refl
            ]
      ] refl h

  into_reached : IsReached moved_state into
  into_reached =
      let r : IsReached s into = not_removed_reached s valid into move.into_is move.not_removed in
      elim (leads_moved r.names root into r.lead) as (λ w. IsReached moved_state into) [
        | inl lead ↦ record { names = r.names; lead = lead }
        | inr led ↦ absurd (move.apart led.names led.before)
      ]

  id_reached : IsReached moved_state id
  id_reached = record {
    names = into_reached.names ++ new ∷ [];
    lead = leads_on moved_state root into_reached.names into new id into_reached.lead (get-insert_same spot_cmp_total without (into, new) id);
  }

  still_reached : (q : Oid) → IsReached s q → IsReached moved_state q
  still_reached q r = elim (leads_moved r.names root q r.lead) as (λ w. IsReached moved_state q) [
    | inl lead ↦ record { names = r.names; lead = lead }
    | inr led ↦ record { names = id_reached.names ++ led.names; lead = leads_append moved_state root id_reached.names id led.names q id_reached.lead led.after }
  ]

  -- what is removed stays removed, for it is not what moves
  still_removed : (q : Oid) → is_removed s q ≡ true → is_removed moved_state q ≡ true
  still_removed q gone =
      let parts = and_parts (not (same_oid q root)) (not (is_held s q)) gone in
      let none : is_held s q ≡ false = not-true _ parts.1 in
      let other : same_oid id q ≡ false = none_passes spot_cmp_total spot_cmp_exact (λ (at : Spot) (to : Oid). same_oid to q) s.entries none (dir, name) id move.at in
      and_from _ _ parts.0 (ap not (none_moved (λ (at : Spot) (to : Oid). same_oid to q) none other))

  still_empty : (q : Oid) → is_removed s q ≡ true → is_empty s q ≡ true → is_empty moved_state q ≡ true
  still_empty q gone empty =
      ap not (none_moved (λ (at : Spot) (to : Oid). same_oid at.0 q) (not-true _ empty) (distinct oid_cmp_exact into q (λ same. true≢false (sym gone ∙ ap (is_removed s) (sym same) ∙ move.not_removed))))

  moved_object : (q : Oid) (o : Object) → map.get s.objects q ≡ Some o → IsValidObject moved_state q o
  moved_object q o e =
      let old : IsValidObject s q o = valid.objects q o e in
      tree_object s s.objects moved s.object_numbers q o old old.drawn_already (λ no_dir. omega (arith, no_more_names q, old.few_names no_dir))
      (λ is_dir. elim (old.reached is_dir) as (λ w. IsReached moved_state q ⊎ ((is_removed moved_state q ≡ true) × (is_empty moved_state q ≡ true))) [
        | inl r ↦ inl (still_reached q r)
        | inr gone ↦ inr (still_removed q gone.0, still_empty q gone.0 gone.1)
      ])

  moved_entry : is_name new ≡ true → (at : Spot) (q : Oid) → map.get moved at ≡ Some q → IsValidEntry moved_state at q
  moved_entry named =
      let old : IsValidEntry s (dir, name) id = valid.entries (dir, name) id move.at in
      let id_at : object_at s id ≡ old.object = get_or-found s.objects id (stub_object s.top) old.object old.object_is in
      let into_at : object_at s into ≡ move.into_is.object = get_or-found s.objects into (stub_object s.top) move.into_is.object move.into_is.is in
      each_moved (IsValidEntry moved_state) (λ at q e. tree_entry s s.objects moved s.object_numbers (λ x o g. g) at q (valid.entries at q e)) (record {
        name = named;
        dir = move.into_is.object;
        dir_is = move.into_is.is;
        is_dir = move.into_is.dir;
        object = old.object;
        object_is = old.object_is;
        no_root = old.no_root;
        no_pipe = old.no_pipe;
        order = (λ i. dominates (sym id_at i).label (sym into_at i).label) ∙ move.order;
      })

  -- a directory that moved has no other entry
  one_new : (o : Object) → map.get s.objects id ≡ Some o → o.kind ≡ kind.Dir → (at : Spot) (q : Oid) → map.get moved at ≡ Some q → q ≡ id → at ≡ (into, new)
  one_new o is is_dir = each-insert spot_cmp_total spot_cmp_exact (λ (at : Spot) (q : Oid). q ≡ id → at ≡ (into, new)) without
      (λ at q e same.
      let was : map.get s.entries at ≡ Some id = each-remove spot_cmp_total spot_cmp_exact (λ (x : Spot) (y : Oid). map.get s.entries x ≡ Some y) s.entries (λ x y g. g) (dir, name) at q e ∙ ap (λ (y : Oid). Some y) same in
      let here : at ≡ (dir, name) = valid.one_entry at (dir, name) id o was move.at is is_dir in
      absurd (never_some (map.get without at) q (ap (map.get without) here ∙ get-remove_same spot_cmp_total s.entries (dir, name)) e))
      (into, new) id (λ _. refl)

  one_moved : (a b : Spot) (q : Oid) (o : Object) → map.get moved a ≡ Some q → map.get moved b ≡ Some q → map.get s.objects q ≡ Some o → o.kind ≡ kind.Dir → a ≡ b
  one_moved a b q o e g is is_dir =
      let old : (at : Spot) (x : Oid) → map.get moved at ≡ Some x → (x ≡ id → ⊥) → map.get s.entries at ≡ Some x =
      each_moved (λ (at : Spot) (x : Oid). (x ≡ id → ⊥) → map.get s.entries at ≡ Some x) (λ at x h _. h) (λ other. absurd (other refl)) in
      elim (eq_by_cmp oid_cmp q id) as (λ v. eq_by_cmp oid_cmp q id ≡ v → a ≡ b) [
        | true ↦ λ t.
            let same : q ≡ id = same_key oid_cmp_exact q id t in
            let id_is : map.get s.objects id ≡ Some o = ap (map.get s.objects) (sym same) ∙ is in
            one_new o id_is is_dir a q e same ∙ sym (one_new o id_is is_dir b q g same)
        | false ↦ λ t.
            let other : q ≡ id → ⊥ = never_same oid_cmp_total q id t in
            valid.one_entry a b q o (old a q e other) (old b q g other) is is_dir
      ] refl

  valid_moved : is_name new ≡ true → IsValid moved_state
  valid_moved named = valid_tree s s.objects moved s.object_numbers (λ q o e. e) valid moved_object (moved_entry named) one_moved valid.object_numbers

-- ---- to any spot: the entry that is there is removed first
module _ (s : State) (valid : IsValid s) (dir : Oid) (name : Name) (id into : Oid) (new : Name) (move : IsMove s dir name id into new) (named : is_name new ≡ true) (t : Oid) (at : look s into new ≡ Some t) where
  abbrev cleared : FinMap spot_cmp Oid
  cleared = map.remove s.entries (into, new)

  abbrev cleared_state : State
  cleared_state = apply_change s (DropEntry (into, new))

  was : (spot : Spot) (q : Oid) → map.get cleared spot ≡ Some q → map.get s.entries spot ≡ Some q
  was = each-remove spot_cmp_total spot_cmp_exact (λ (spot : Spot) (q : Oid). map.get s.entries spot ≡ Some q) s.entries (λ spot q e. e) (into, new)

  valid_cleared : IsValid cleared_state
  valid_cleared = valid_drop s valid (into, new) t at (move.gives_way t at).1

  -- the entry of something else stays
  elsewhere : (spot : Spot) (q : Oid) → (q ≡ t → ⊥) → map.get s.entries spot ≡ Some q → map.get cleared spot ≡ Some q
  elsewhere spot q other e =
      let apart : eq_by_cmp spot_cmp spot (into, new) ≡ false =
      false_from_ne_true _ (λ same. other (some_same q t (sym e ∙ ap (map.get s.entries) (same_key spot_cmp_exact spot (into, new) same) ∙ at))) in
      get-remove_other spot_cmp_total s.entries (into, new) spot apart ∙ e

  -- the directory that gets the entry is not what gives way, for that has no entries
  into_not_removed : is_removed cleared_state into ≡ false
  into_not_removed = false_from_ne_true _ (λ gone.
      let parts = and_parts (not (same_oid into root)) (not (is_held cleared_state into)) gone in
      let none : is_held s into ≡ false =
      none_pass spot_cmp_total spot_cmp_exact (λ (spot : Spot) (to : Oid). same_oid to into) s.entries (λ spot q e. false_from_ne_true (same_oid q into) (λ same.
      let leads_here : map.get s.entries spot ≡ Some into = e ∙ ap (λ (x : Oid). Some x) (same_key oid_cmp_exact q into same) in
      let other : into ≡ t → ⊥ = λ is_t. never_some (look s t new) t (no_name_in s t new (move.gives_way t at).1) (ap (λ (x : Oid). look s x new) (sym is_t) ∙ at) in
      never_same oid_cmp_total into into (none_passes spot_cmp_total spot_cmp_exact (λ (at_spot : Spot) (to : Oid). same_oid to into) cleared (not-true _ parts.1) spot into (elsewhere spot into other leads_here)) refl)) in
      true≢false (sym (and_from _ _ parts.0 (ap not none)) ∙ move.not_removed))

  move_cleared : IsMove cleared_state dir name id into new
  move_cleared = record {
    at = elsewhere (dir, name) id (λ same. never_same oid_cmp_total t id (move.gives_way t at).0 (sym same)) move.at;
    into_is = move.into_is;
    not_removed = into_not_removed;
    apart = λ names lead. move.apart names (leads_still cleared_state s was id names into lead);
    gives_way = λ x e. absurd (never_some (look cleared_state into new) x (get-remove_same spot_cmp_total s.entries (into, new)) e);
    order = move.order;
  }

  valid_replaced : IsValid (apply_changes s (DropEntry (dir, name) ∷ SetEntry (into, new) id ∷ []))
  valid_replaced = subst (λ (es : FinMap spot_cmp Oid). IsValid (record s { entries = es })) (insert-over_removed spot_cmp_total spot_cmp_exact s.entries (into, new) (dir, name) id)
      (valid_moved cleared_state valid_cleared dir name id into new move_cleared (get-remove_same spot_cmp_total s.entries (into, new)) named)

pub valid_move : (s : State) → IsValid s → (dir : Oid) (name : Name) (id into : Oid) (new : Name) → IsMove s dir name id into new → is_name new ≡ true → IsValid (apply_changes s (DropEntry (dir, name) ∷ SetEntry (into, new) id ∷ []))
valid_move s valid dir name id into new move named =
    elim (look s into new) as (λ w. look s into new ≡ w → IsValid (apply_changes s (DropEntry (dir, name) ∷ SetEntry (into, new) id ∷ []))) [
      | None ↦ λ free. valid_moved s valid dir name id into new move free named
      | Some t ↦ λ at. valid_replaced s valid dir name id into new move named t at
    ] refl
