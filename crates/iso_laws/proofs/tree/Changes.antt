-- A valid state stays valid where its objects and entries change.
use Rattle.std.specs.Prelude.{◌≡◌, ◌⊎◌, ℕ, ◌+◌, ◌≤◌, Bool, true, false, not, List, [], ◌∷◌, ◌++◌, Some, None, refl, length}
use Rattle.std.specs.Option.{option_and_then}
use Rattle.std.specs.Ordering.{eq_by_cmp}
use Rattle.std.specs.FinMap as map
use Rattle.std.specs.FinMap.{FinMap}
use Rattle.std.proofs.Common.{sym, ◌∙◌, ap, subst, arith, inl, inr}
use Rattle.std.proofs.lemmas.Bool.{true≢false, and_parts, and_from, ltb-true, false_from_ne_true, not-true}
use Rattle.cap_bits.specs.FileCaps.{no_file_caps}
use Rattle.fs_path.specs.Name.{Name, is_name}
use Rattle.lab_lattice.specs.Label.{Label, dominates, label_cmp}
use Rattle.lab_lattice.proofs.Labels.{label_cmp_total, label_cmp_exact}
use Rattle.kern_model.specs.declared.limits.TheConstants.{MAX_FILE_BYTES, MAX_LINKS, MAX_OBJECTS, MAX_PIPE_BYTES}
use Rattle.kern_model.specs.declared.numbers.Oid.{Oid}
use Rattle.kern_model.specs.declared.objects.Kind.TheVariants as kind
use Rattle.kern_model.specs.declared.objects.Object.{Object}
use Rattle.kern_model.specs.Create.{creation, has_object_number}
use Rattle.kern_model.specs.Entries.{is_empty, is_held, is_removed, link_count}
use Rattle.kern_model.specs.Keys.{Spot, oid_cmp, spot_cmp, same_oid}
use Rattle.kern_model.specs.Kinds.{is_dir, is_mode}
use Rattle.kern_model.specs.Maps.{any_entry}
use Rattle.kern_model.specs.State.{State, Process, DropEntry, SetEntry, apply_change, apply_changes, last_drawn, next_object, look, object_at, stub_object, root}
use Rattle.kern_model.specs.Valid.{IsValid, IsDir, IsDrawn, AreFew, IsReached, IsValidObject, IsValidEntry, leads}
use Rattle.kern_model.proofs.KeyLaws.{oid_cmp_total, oid_cmp_exact, spot_cmp_total, spot_cmp_exact}
use Rattle.kern_model.proofs.MapLemmas.{same_key, some_same, never_some, each-remove, each-insert, get-insert_same, get-insert_kept, get_or-found, count_entries-none}
use Rattle.kern_model.proofs.TableLemmas.{each_set_at}
use Rattle.iso_laws.proofs.PathLemmas.{leads_step, leads_still, leads_on}
use Rattle.kern_model.proofs.Selections.{none_passes, none_pass, count_remove, count_insert, count_insert_other, get-remove_same, get-remove_other}
use Rattle.kern_model.proofs.StateLemmas.{next_absent}
use Rattle.iso_laws.proofs.ValidLemmas.{still_drawn, next_drawn, still_below}
use Rattle.iso_laws.proofs.KeyLemmas.{distinct, never_same}
use Rattle.iso_laws.proofs.ValidIn.{alone_of, IsOfKind, itself_of_kind, held_in, description_in, process_in, object_in, content_of}

-- an object that is no directory has no entries
pub no_entries : (s : State) → IsValid s → (id : Oid) → is_dir (object_at s id).kind ≡ false → is_empty s id ≡ true
no_entries s valid id no_dir = ap not (none_pass spot_cmp_total spot_cmp_exact (λ (spot : Spot) (at : Oid). same_oid spot.0 id) s.entries (λ spot at e.
    false_from_ne_true (same_oid spot.0 id) (λ t.
    let entry : IsValidEntry s spot at = valid.entries spot at e in
    let is : map.get s.objects id ≡ Some entry.dir = ap (map.get s.objects) (sym (same_key oid_cmp_exact spot.0 id t)) ∙ entry.dir_is in
    let no : true ≡ false = ap is_dir (sym entry.is_dir) ∙ ap (λ (o : Object). is_dir o.kind) (sym (get_or-found s.objects id (stub_object s.top) entry.dir is)) ∙ no_dir in
    cc)))

-- an empty directory has no name
pub no_name_in : (s : State) (dir : Oid) (name : Name) → is_empty s dir ≡ true → look s dir name ≡ None
no_name_in s dir name empty =
    elim (look s dir name) as (λ w. look s dir name ≡ w → w ≡ None) [
      | None ↦ λ _. refl
      | Some id ↦ λ e.
          absurd (never_same oid_cmp_total dir dir (none_passes spot_cmp_total spot_cmp_exact (λ (spot : Spot) (at : Oid). same_oid spot.0 dir) s.entries (not-true _ empty) (dir, name) id e) refl)
    ] refl

-- ---- other objects and entries
module _ (s : State) (objects : FinMap oid_cmp Object) (entries : FinMap spot_cmp Oid) (object_numbers : FinMap label_cmp ℕ) where
  -- a state with other objects, entries and numbers drawn of objects
  abbrev pub with_tree : State
  with_tree = record s { objects = objects; entries = entries; object_numbers = object_numbers }

  -- an object stays valid where its names are few and, as a directory, is reached or is removed and empty
  pub tree_object : (id : Oid) (o : Object) → IsValidObject s id o → IsDrawn id.n (last_drawn object_numbers id.label) → (is_dir o.kind ≡ false → link_count with_tree id ≤ MAX_LINKS)
      → (o.kind ≡ kind.Dir → IsReached with_tree id ⊎ ((is_removed with_tree id ≡ true) × (is_empty with_tree id ≡ true))) → IsValidObject with_tree id o
  tree_object id o valid drawn_already few_names reached =
      object_in s with_tree refl id o valid.below drawn_already (content_of s id o valid) valid.fifo_bytes few_names reached

  -- each object that was there is still there
  module _ (still : (id : Oid) (o : Object) → map.get s.objects id ≡ Some o → map.get objects id ≡ Some o) where
    pub tree_entry : (spot : Spot) (id : Oid) → IsValidEntry s spot id → IsValidEntry with_tree spot id
    tree_entry spot id valid = record {
      name = valid.name;
      dir = valid.dir;
      dir_is = still spot.0 valid.dir valid.dir_is;
      is_dir = valid.is_dir;
      object = valid.object;
      object_is = still id valid.object valid.object_is;
      no_root = valid.no_root;
      no_pipe = valid.no_pipe;
      order = valid.order;
    }

    of_same_kind : (id : Oid) (o : Object) → map.get s.objects id ≡ Some o → IsOfKind objects id o
    of_same_kind id o e = itself_of_kind objects id o (still id o e)

    -- a state with other objects, entries and numbers is valid where each object and entry of it is
    pub valid_tree : IsValid s
        → ((id : Oid) (o : Object) → map.get objects id ≡ Some o → IsValidObject with_tree id o)
        → ((spot : Spot) (id : Oid) → map.get entries spot ≡ Some id → IsValidEntry with_tree spot id)
        → ((a b : Spot) (id : Oid) (o : Object) → map.get entries a ≡ Some id → map.get entries b ≡ Some id → map.get objects id ≡ Some o → o.kind ≡ kind.Dir → a ≡ b)
        → AreFew s.top object_numbers MAX_OBJECTS → IsValid with_tree
    valid_tree valid each_object each_entry one_entry few =
        let r = valid.root_is in
        record {
          root_is = record { object = r.object; is = still root r.object r.is; root_dir = r.root_dir; root_label = r.root_label };
          objects = each_object;
          entries = each_entry;
          one_entry = one_entry;
          procs = λ who p e. let old = valid.procs who p e in process_in s with_tree refl of_same_kind (λ label n h. h) who p (alone_of s who p old) old.parent old.fds;
          descriptions = λ did d e.
              let old = valid.descriptions did d e in description_in s with_tree refl of_same_kind did d old old.drawn_already (held_in s with_tree refl (λ who p e. e) did old.held);
          object_numbers = few;
          process_numbers = valid.process_numbers;
          description_numbers = valid.description_numbers;
        }

-- ---- an entry is removed, and what it leads to contains no entry
module _ (s : State) (valid : IsValid s) (spot : Spot) (id : Oid) (is : map.get s.entries spot ≡ Some id) (empty : is_empty s id ≡ true) where
  abbrev left : FinMap spot_cmp Oid
  left = map.remove s.entries spot

  abbrev next_state : State
  next_state = with_tree s s.objects left s.object_numbers

  was : (at : Spot) (q : Oid) → map.get left at ≡ Some q → map.get s.entries at ≡ Some q
  was = each-remove spot_cmp_total spot_cmp_exact (λ (at : Spot) (q : Oid). map.get s.entries at ≡ Some q) s.entries (λ at q e. e) spot

  gone : map.get left spot ≡ None
  gone = get-remove_same spot_cmp_total s.entries spot

  -- a test that no entry passed is passed by none that is left
  still_none : (p : Spot → Oid → Bool) → any_entry p s.entries ≡ false → any_entry p left ≡ false
  still_none p h = none_pass spot_cmp_total spot_cmp_exact p left (λ at q e. none_passes spot_cmp_total spot_cmp_exact p s.entries h at q (was at q e))

  ends_there : (names : List Name) (q : Oid) → leads s id names ≡ Some q → q ≡ id
  ends_there [] q h = sym (some_same id q h)
  ends_there (name ∷ names) q h =
      let none : None ≡ Some q = sym (ap (option_and_then (λ (next : Oid). leads s next names)) (no_name_in s id name empty)) ∙ h in
      absurd (cc)

  -- names lead where they led, unless they led to what the removed entry leads to
  leads_left : (names : List Name) (from q : Oid) → leads s from names ≡ Some q → (leads next_state from names ≡ Some q) ⊎ (q ≡ id)
  leads_left [] from q h = inl h
  leads_left (name ∷ names) from q h =
      elim (look s from name) as (λ w. look s from name ≡ w → option_and_then (λ (next : Oid). leads s next names) w ≡ Some q → (leads next_state from (name ∷ names) ≡ Some q) ⊎ (q ≡ id)) [
        | None ↦ λ _ g. absurd (never_some None q refl g)
        | Some next ↦ λ e g.
            elim (eq_by_cmp spot_cmp (from, name) spot) as (λ b. eq_by_cmp spot_cmp (from, name) spot ≡ b → (leads next_state from (name ∷ names) ≡ Some q) ⊎ (q ≡ id)) [
              | true ↦ λ t.
                  let to : next ≡ id = some_same next id (sym e ∙ ap (map.get s.entries) (same_key spot_cmp_exact (from, name) spot t) ∙ is) in
                  inr (ends_there names q (subst (λ (d : Oid). leads s d names ≡ Some q) to g))
              | false ↦ λ t.
                  elim (leads_left names next q g) as (λ w. (leads next_state from (name ∷ names) ≡ Some q) ⊎ (q ≡ id)) [
                    | inl rest ↦ inl (leads_step next_state from name names next (get-remove_other spot_cmp_total s.entries spot (from, name) t ∙ e) ∙ rest)
                    | inr ends ↦ inr ends
                  ]
            ] refl
      ] refl h

  still_removed : (q : Oid) → is_removed s q ≡ true → is_removed next_state q ≡ true
  still_removed q h =
      let parts = and_parts (not (same_oid q root)) (not (is_held s q)) h in
      and_from _ _ parts.0 (ap not (still_none (λ (at : Spot) (to : Oid). same_oid to q) (not-true _ parts.1)))

  still_empty : (q : Oid) → is_empty s q ≡ true → is_empty next_state q ≡ true
  still_empty q h = ap not (still_none (λ (at : Spot) (to : Oid). same_oid at.0 q) (not-true _ h))

  -- a directory that the entry led to is removed
  removed_now : (o : Object) → map.get s.objects id ≡ Some o → o.kind ≡ kind.Dir → is_removed next_state id ≡ true
  removed_now o o_is dir = and_from _ _ (ap not (false_from_ne_true (same_oid id root) (λ t. (valid.entries spot id is).no_root (same_key oid_cmp_exact id root t))))
      (ap not (none_pass spot_cmp_total spot_cmp_exact (λ (at : Spot) (to : Oid). same_oid to id) left (λ at q e. false_from_ne_true (same_oid q id) (λ t.
      let led : map.get s.entries at ≡ Some id = was at q e ∙ ap (λ (x : Oid). Some x) (same_key oid_cmp_exact q id t) in
      let same : at ≡ spot = valid.one_entry at spot id o led is o_is dir in
      never_some (map.get left at) q (ap (map.get left) same ∙ gone) e))))

  next_reached : (q : Oid) (o : Object) → map.get s.objects q ≡ Some o → o.kind ≡ kind.Dir → IsReached next_state q ⊎ ((is_removed next_state q ≡ true) × (is_empty next_state q ≡ true))
  next_reached q o o_is dir = elim ((valid.objects q o o_is).reached dir) as (λ w. IsReached next_state q ⊎ ((is_removed next_state q ≡ true) × (is_empty next_state q ≡ true))) [
    | inl r ↦
        elim (leads_left r.names root q r.lead) as (λ w. IsReached next_state q ⊎ ((is_removed next_state q ≡ true) × (is_empty next_state q ≡ true))) [
          | inl lead ↦ inl (record { names = r.names; lead = lead })
          | inr same ↦
              inr (subst (λ (x : Oid). (is_removed next_state x ≡ true) × (is_empty next_state x ≡ true)) (sym same)
              (removed_now o (ap (map.get s.objects) (sym same) ∙ o_is) dir, still_empty id empty))
        ]
    | inr none ↦ inr (still_removed q none.0, still_empty q none.1)
  ]

  fewer_names : (q : Oid) → link_count next_state q ≤ link_count s q
  fewer_names q = count_remove spot_cmp_total spot_cmp_exact (λ (at : Spot) (to : Oid). same_oid to q) spot s.entries

  pub valid_drop : IsValid (apply_change s (DropEntry spot))
  valid_drop = valid_tree s s.objects left s.object_numbers (λ q o e. e) valid
      (λ q o e. let old = valid.objects q o e in
      tree_object s s.objects left s.object_numbers q o old old.drawn_already (λ no_dir. omega (arith, fewer_names q, old.few_names no_dir)) (next_reached q o e))
      (λ at q e. tree_entry s s.objects left s.object_numbers (λ x o g. g) at q (valid.entries at q (was at q e)))
      (λ a b q o e g. valid.one_entry a b q o (was a q e) (was b q g))
      valid.object_numbers

-- ---- an entry is added where none was, in a directory that is not removed
-- names lead to a directory that is not removed
pub not_removed_reached : (s : State) → IsValid s → (dir : Oid) → IsDir s.objects dir → is_removed s dir ≡ false → IsReached s dir
not_removed_reached s valid dir dir_is not_removed = elim ((valid.objects dir dir_is.object dir_is.is).reached dir_is.dir) as (λ w. IsReached s dir) [
  | inl r ↦ r
  | inr gone ↦ absurd (true≢false (sym gone.0 ∙ not_removed))
]

module _ (s : State) (valid : IsValid s) (objects : FinMap oid_cmp Object) (object_numbers : FinMap label_cmp ℕ) (dir : Oid) (name : Name) (to : Oid) (dir_is : IsDir s.objects dir) (free : look s dir name ≡ None) (not_removed : is_removed s dir ≡ false) where
  abbrev added : FinMap spot_cmp Oid
  added = map.insert s.entries (dir, name) to

  abbrev more_state : State
  more_state = with_tree s objects added object_numbers

  entry_stays : (at : Spot) (q : Oid) → map.get s.entries at ≡ Some q → map.get added at ≡ Some q
  entry_stays = get-insert_kept spot_cmp_total spot_cmp_exact s.entries (dir, name) to free

  -- an entry of something else was there before
  old_entry : (at : Spot) (q : Oid) → map.get added at ≡ Some q → (q ≡ to → ⊥) → map.get s.entries at ≡ Some q
  old_entry = each-insert spot_cmp_total spot_cmp_exact (λ (at : Spot) (q : Oid). (q ≡ to → ⊥) → map.get s.entries at ≡ Some q) s.entries (λ at q e _. e) (dir, name) to (λ other. absurd (other refl))

  none_more : (p : Spot → Oid → Bool) → any_entry p s.entries ≡ false → p (dir, name) to ≡ false → any_entry p added ≡ false
  none_more p none unmet = none_pass spot_cmp_total spot_cmp_exact p added
      (each-insert spot_cmp_total spot_cmp_exact (λ (at : Spot) (q : Oid). p at q ≡ false) s.entries (none_passes spot_cmp_total spot_cmp_exact p s.entries none) (dir, name) to unmet)

  dir_reached : IsReached s dir
  dir_reached = not_removed_reached s valid dir dir_is not_removed

  leads_more : (names : List Name) (q : Oid) → leads s root names ≡ Some q → leads more_state root names ≡ Some q
  leads_more = leads_still s more_state entry_stays root

  reached_now : IsReached more_state to
  reached_now = record {
    names = dir_reached.names ++ name ∷ [];
    lead = leads_on more_state root dir_reached.names dir name to (leads_more dir_reached.names dir dir_reached.lead) (get-insert_same spot_cmp_total s.entries (dir, name) to);
  }

  reached_still : (q : Oid) (o : Object) → map.get s.objects q ≡ Some o → o.kind ≡ kind.Dir → (to ≡ q → ⊥) → IsReached more_state q ⊎ ((is_removed more_state q ≡ true) × (is_empty more_state q ≡ true))
  reached_still q o o_is q_dir other = elim ((valid.objects q o o_is).reached q_dir) as (λ w. IsReached more_state q ⊎ ((is_removed more_state q ≡ true) × (is_empty more_state q ≡ true))) [
    | inl r ↦ inl (record { names = r.names; lead = leads_more r.names q r.lead })
    | inr gone ↦
        let parts = and_parts (not (same_oid q root)) (not (is_held s q)) gone.0 in
        inr (
          and_from _ _ parts.0 (ap not (none_more (λ (at : Spot) (x : Oid). same_oid x q) (not-true _ parts.1) (distinct oid_cmp_exact to q other))),
          ap not (none_more (λ (at : Spot) (x : Oid). same_oid at.0 q) (not-true _ gone.1) (distinct oid_cmp_exact dir q (λ same.
              let no : true ≡ false = sym gone.0 ∙ ap (is_removed s) (sym same) ∙ not_removed in
              cc))),
        )
  ]

  names_still : (q : Oid) → (to ≡ q → ⊥) → link_count more_state q ≤ link_count s q
  names_still q other = count_insert_other spot_cmp_total spot_cmp_exact (λ (at : Spot) (x : Oid). same_oid x q) (dir, name) s.entries to free (distinct oid_cmp_exact to q other)

  names_more : link_count more_state to ≤ link_count s to + 1
  names_more = count_insert spot_cmp_total spot_cmp_exact (λ (at : Spot) (x : Oid). same_oid x to) (dir, name) s.entries to free

-- ---- a further name
pub no_dir_is : (o : Object) → is_dir o.kind ≡ false → o.kind ≡ kind.Dir → ⊥
no_dir_is o no_dir dir = let no : true ≡ false = ap is_dir (sym dir) ∙ no_dir in cc

module _ (s : State) (valid : IsValid s) (dir : Oid) (name : Name) (id : Oid) (dir_is : IsDir s.objects dir) (free : look s dir name ≡ None) (not_removed : is_removed s dir ≡ false) (o : Object) (is : map.get s.objects id ≡ Some o) (no_dir : is_dir o.kind ≡ false) where
  abbrev linked : State
  linked = more_state s valid s.objects s.object_numbers dir name id dir_is free not_removed

  linked_object : link_count s id + 1 ≤ MAX_LINKS → (q : Oid) (x : Object) → map.get s.objects q ≡ Some x → IsValidObject linked q x
  linked_object few q x e =
      let old : IsValidObject s q x = valid.objects q x e in
      elim (eq_by_cmp oid_cmp q id) as (λ b. eq_by_cmp oid_cmp q id ≡ b → IsValidObject linked q x) [
        | true ↦ λ t.
            let same : q ≡ id = same_key oid_cmp_exact q id t in
            let is_o : x ≡ o = some_same x o (sym e ∙ ap (map.get s.objects) same ∙ is) in
            let more : link_count linked id ≤ MAX_LINKS = omega (arith, few, names_more s valid s.objects s.object_numbers dir name id dir_is free not_removed) in
            tree_object s s.objects (added s valid s.objects s.object_numbers dir name id dir_is free not_removed) s.object_numbers q x old old.drawn_already (λ _. subst (λ (z : Oid). link_count linked z ≤ MAX_LINKS) (sym same) more)
            (λ q_dir. absurd (no_dir_is o no_dir (ap (λ (z : Object). z.kind) (sym is_o) ∙ q_dir)))
        | false ↦ λ t.
            let other : id ≡ q → ⊥ = λ same. never_same oid_cmp_total q id t (sym same) in
            let fewer = names_still s valid s.objects s.object_numbers dir name id dir_is free not_removed q other in
            tree_object s s.objects (added s valid s.objects s.object_numbers dir name id dir_is free not_removed) s.object_numbers q x old old.drawn_already (λ nd. omega (arith, fewer, old.few_names nd))
            (λ q_dir. reached_still s valid s.objects s.object_numbers dir name id dir_is free not_removed q x e q_dir other)
      ] refl

  pub valid_link : (o.kind ≡ kind.Pipe → ⊥) → link_count s id + 1 ≤ MAX_LINKS → dominates o.label dir_is.object.label ≡ true → is_name name ≡ true → IsValid (apply_change s (SetEntry (dir, name) id))
  valid_link no_pipe few order named =
      let entries = added s valid s.objects s.object_numbers dir name id dir_is free not_removed in
      valid_tree s s.objects entries s.object_numbers (λ q x e. e) valid (linked_object few)
      (each-insert spot_cmp_total spot_cmp_exact (IsValidEntry linked) s.entries (λ at q e. tree_entry s s.objects entries s.object_numbers (λ x y g. g) at q (valid.entries at q e)) (dir, name) id (record {
        name = named;
        dir = dir_is.object;
        dir_is = dir_is.is;
        is_dir = dir_is.dir;
        object = o;
        object_is = is;
        no_root = λ same. no_dir_is o no_dir (ap (λ (x : Object). x.kind) (some_same o valid.root_is.object (sym is ∙ ap (map.get s.objects) same ∙ valid.root_is.is)) ∙ valid.root_is.root_dir);
        no_pipe = no_pipe;
        order = order;
      }))
      (λ a b q x e g q_is q_dir.
      let other : q ≡ id → ⊥ = λ same. no_dir_is o no_dir (ap (λ (z : Object). z.kind) (some_same o x (sym is ∙ ap (map.get s.objects) (sym same) ∙ q_is)) ∙ q_dir) in
      valid.one_entry a b q x (old_entry s valid s.objects s.object_numbers dir name id dir_is free not_removed a q e other) (old_entry s valid s.objects s.object_numbers dir name id dir_is free not_removed b q g other) q_is q_dir)
      valid.object_numbers

-- ---- an object that is made
-- an object as a process may make it
pub record IsFresh (p : Process) (o : Object) : Type 0 where
  pub label : o.label ≡ p.label
  pub mode : is_mode o.attr.mode ≡ true
  pub caps : o.attr.caps ≡ no_file_caps
  pub bytes : o.bytes ≡ []
  pub no_pipe : o.kind ≡ kind.Pipe → ⊥

module _ (s : State) (valid : IsValid s) (p : Process) (dir : Oid) (name : Name) (o : Object) (fresh : IsFresh p o) (dir_is : IsDir s.objects dir) (free : look s dir name ≡ None) (not_removed : is_removed s dir ≡ false) where
  abbrev new : Oid
  new = next_object s p.label

  abbrev more_objects : FinMap oid_cmp Object
  more_objects = map.insert s.objects new o

  abbrev more_numbers : FinMap label_cmp ℕ
  more_numbers = map.insert s.object_numbers p.label (last_drawn s.object_numbers p.label + 1)

  abbrev entries_now : FinMap spot_cmp Oid
  entries_now = added s valid more_objects more_numbers dir name new dir_is free not_removed

  abbrev made_state : State
  made_state = more_state s valid more_objects more_numbers dir name new dir_is free not_removed

  still : (q : Oid) (x : Object) → map.get s.objects q ≡ Some x → map.get more_objects q ≡ Some x
  still = get-insert_kept oid_cmp_total oid_cmp_exact s.objects new o (next_absent s valid p.label)

  is_other : (q : Oid) (x : Object) → map.get s.objects q ≡ Some x → new ≡ q → ⊥
  is_other q x e same = never_some (map.get s.objects new) x (next_absent s valid p.label) (ap (map.get s.objects) same ∙ e)

  no_names : link_count s new ≡ 0
  no_names = count_entries-none spot_cmp_total spot_cmp_exact (λ (at : Spot) (x : Oid). same_oid x new) s.entries (λ at q e. let entry = valid.entries at q e in distinct oid_cmp_exact q new (λ same. is_other q entry.object entry.object_is (sym same)))

  made_object : dominates s.top p.label ≡ true → (q : Oid) (x : Object) → map.get more_objects q ≡ Some x → IsValidObject made_state q x
  made_object below = each-insert oid_cmp_total oid_cmp_exact (IsValidObject made_state) s.objects
      (λ q x e.
      let old : IsValidObject s q x = valid.objects q x e in
      let fewer = names_still s valid more_objects more_numbers dir name new dir_is free not_removed q (is_other q x e) in
      tree_object s more_objects entries_now more_numbers q x old (still_drawn s.object_numbers p.label q.label q.n old.drawn_already) (λ nd. omega (arith, fewer, old.few_names nd))
      (λ q_dir. reached_still s valid more_objects more_numbers dir name new dir_is free not_removed q x e q_dir (is_other q x e)))
      new o (record {
        below = ap (dominates s.top) fresh.label ∙ below;
        drawn_already = next_drawn s.object_numbers p.label;
        mode = fresh.mode;
        only_files = λ _. fresh.caps;
        dir_bytes = λ _. fresh.bytes;
        file_bytes = λ _. subst (λ (xs : List ℕ). length xs ≤ MAX_FILE_BYTES) (sym fresh.bytes) (omega arith);
        stream_bytes = λ _. subst (λ (xs : List ℕ). length xs ≤ MAX_PIPE_BYTES) (sym fresh.bytes) (omega arith);
        fifo_bytes = λ _ _. fresh.bytes;
        few_names = λ _. omega (arith, no_names, names_more s valid more_objects more_numbers dir name new dir_is free not_removed);
        reached = λ _. inl (reached_now s valid more_objects more_numbers dir name new dir_is free not_removed);
      })

  made_entry : dominates p.label dir_is.object.label ≡ true → is_name name ≡ true → (at : Spot) (q : Oid) → map.get entries_now at ≡ Some q → IsValidEntry made_state at q
  made_entry order named = each-insert spot_cmp_total spot_cmp_exact (IsValidEntry made_state) s.entries (λ at q e. tree_entry s more_objects entries_now more_numbers still at q (valid.entries at q e)) (dir, name) new (record {
    name = named;
    dir = dir_is.object;
    dir_is = still dir dir_is.object dir_is.is;
    is_dir = dir_is.dir;
    object = o;
    object_is = get-insert_same oid_cmp_total s.objects new o;
    no_root = is_other root valid.root_is.object valid.root_is.is;
    no_pipe = fresh.no_pipe;
    order = ap (λ (l : Label). dominates l dir_is.object.label) fresh.label ∙ order;
  })

  -- only one entry leads to a directory
  one_made : (a b : Spot) (q : Oid) (x : Object) → map.get entries_now a ≡ Some q → map.get entries_now b ≡ Some q → map.get more_objects q ≡ Some x → x.kind ≡ kind.Dir → a ≡ b
  one_made a b q x e g q_is q_dir =
      let at_new : (at : Spot) (z : Oid) → map.get entries_now at ≡ Some z → z ≡ new → at ≡ (dir, name) =
      each-insert spot_cmp_total spot_cmp_exact (λ (at : Spot) (z : Oid). z ≡ new → at ≡ (dir, name)) s.entries
      (λ at z h same. let entry = valid.entries at z h in absurd (is_other z entry.object entry.object_is (sym same))) (dir, name) new (λ _. refl) in
      let was_there : (z : Oid) (y : Object) → map.get more_objects z ≡ Some y → (z ≡ new → ⊥) → map.get s.objects z ≡ Some y =
      each-insert oid_cmp_total oid_cmp_exact (λ (z : Oid) (y : Object). (z ≡ new → ⊥) → map.get s.objects z ≡ Some y) s.objects (λ z y h _. h) new o (λ other. absurd (other refl)) in
      elim (eq_by_cmp oid_cmp q new) as (λ v. eq_by_cmp oid_cmp q new ≡ v → a ≡ b) [
        | true ↦ λ t. let same = same_key oid_cmp_exact q new t in at_new a q e same ∙ sym (at_new b q g same)
        | false ↦ λ t.
            let other : q ≡ new → ⊥ = never_same oid_cmp_total q new t in
            valid.one_entry a b q x (old_entry s valid more_objects more_numbers dir name new dir_is free not_removed a q e other) (old_entry s valid more_objects more_numbers dir name new dir_is free not_removed b q g other) (was_there q x q_is other) q_dir
      ] refl

  few_numbers : dominates s.top p.label ≡ true → has_object_number s p.label ≡ true → AreFew s.top more_numbers MAX_OBJECTS
  few_numbers below left = record {
    below = still_below s.object_numbers p.label s.top below valid.object_numbers.below;
    few = each_set_at label_cmp_total label_cmp_exact (λ (l : Label) (n : ℕ). n ≤ MAX_OBJECTS) 0 s.object_numbers p.label (last_drawn s.object_numbers p.label + 1) (omega (arith, ltb-true (last_drawn s.object_numbers p.label) MAX_OBJECTS left)) valid.object_numbers.few;
  }

  pub valid_made : dominates s.top p.label ≡ true → has_object_number s p.label ≡ true → dominates p.label dir_is.object.label ≡ true → is_name name ≡ true → IsValid (apply_changes s (creation s p.label dir name o))
  valid_made below left order named = valid_tree s more_objects entries_now more_numbers still valid (made_object below) (made_entry order named) one_made (few_numbers below left)
