-- An object that gets another label: the order of labels in the part, and a valid state stays valid.
use Rattle.std.specs.Prelude.{◌≡◌, ◌&&◌, not, true, false, Some, None, refl, cond}
use Rattle.std.specs.FinMap as map
use Rattle.std.specs.FinMap.{FinMap, get-insert}
use Rattle.std.proofs.Common.{sym, ◌∙◌, ap}
use Rattle.std.proofs.lemmas.Bool.{true≢false, and_parts, not-false, false_from_ne_true, not-true}
use Rattle.lab_lattice.specs.Label.{Label, dominates}
use Rattle.kern_model.specs.declared.numbers.Did.{Did}
use Rattle.kern_model.specs.declared.numbers.Oid.{Oid}
use Rattle.kern_model.specs.declared.numbers.Pid.{Pid}
use Rattle.kern_model.specs.declared.objects.Kind.TheVariants as kind
use Rattle.kern_model.specs.declared.objects.Object.{Object}
use Rattle.kern_model.specs.Entries.{is_empty}
use Rattle.kern_model.specs.Isolation.{low, Kept}
use Rattle.kern_model.specs.Keys.{Spot, oid_cmp, same_oid}
use Rattle.kern_model.specs.Maps.{where_key}
use Rattle.kern_model.specs.Rules.{is_above_holders}
use Rattle.kern_model.specs.State.{State, Process, Description, SetObject, apply_change, object_at, stub_object, root}
use Rattle.kern_model.specs.Valid.{IsValid, IsDir, IsThere, IsValidObject, IsValidEntry, IsValidProcess, IsValidDescription}
use Rattle.kern_model.proofs.KeyLaws.{oid_cmp_total, oid_cmp_exact, spot_cmp_total, spot_cmp_exact}
use Rattle.kern_model.proofs.MapLemmas.{each-insert, get-insert_same, get_or-found, same_key, some_same}
use Rattle.iso_laws.proofs.Part.{part_by_number, shown_oid, low_spot}
use Rattle.kern_model.proofs.Selections.{test_after, any_entry-select, none_passes}
use Rattle.iso_laws.proofs.PartReads.{object_low}
use Rattle.iso_laws.proofs.files.Changes.{open_object_in}
use Rattle.iso_laws.proofs.tree.Entries.{holder_low, shown_oid_is}
use Rattle.std.proofs.lemmas.Cmp.{eq_by_cmp_equiv}
use Rattle.iso_laws.proofs.ValidIn.{content_of, alone_of, IsOfKind, held_in, description_in, process_in}

-- a label is above the directories that hold a Low object in the part where it is in the state
module _ (l : Label) (s : State) (kept : Kept l s) (valid : IsValid s) (id : Oid) (there : IsThere s.objects id) (is_low : low l id.label ≡ true) where
  pub above_low : (new : Label) → is_above_holders (part_by_number l s) id new ≡ is_above_holders s id new
  unfolding is_above_holders part_by_number
  above_low new =
      let p : State → Spot → Oid → _ = λ t spot at. same_oid at id && not (dominates new (object_at t spot.0).label) in
      ap not (any_entry-select spot_cmp_total spot_cmp_exact (where_key (low_spot l) (shown_oid l s.top)) (p s) (p (part_by_number l s)) s.entries (λ spot at e.
      elim (low l spot.0.label) as (λ b. low l spot.0.label ≡ b → test_after (p (part_by_number l s)) spot (cond b (Some (shown_oid l s.top at)) None) ≡ p s spot at) [
        | true ↦ λ h. λ i. shown_oid_is l s kept valid id there is_low at i && not (dominates new (object_low l s spot.0 h i).label)
        | false ↦ λ high. sym (false_from_ne_true (p s spot at) (λ t.
            true≢false (sym (holder_low l s kept valid id there is_low spot (e ∙ ap (λ (q : Oid). Some q) (same_key oid_cmp_exact at id (and_parts _ _ t).0))) ∙ high)))
      ] refl))

module _ (s : State) (valid : IsValid s) (id : Oid) (o : Object) (is : map.get s.objects id ≡ Some o) (new : Label) (below : dominates s.top new ≡ true) (above : is_above_holders s id new ≡ true) (no_root : same_oid id root ≡ false) (empty : is_empty s id ≡ true) where
  abbrev relabelled : Object
  relabelled = record o { label = new }

  abbrev objects : FinMap oid_cmp Object
  objects = map.insert s.objects id relabelled

  abbrev next_state : State
  next_state = apply_change s (SetObject id relabelled)

  -- another object is as it was
  other_is : (q : Oid) → same_oid q id ≡ false → map.get objects q ≡ map.get s.objects q
  other_is q other = get-insert oid_cmp_total s.objects id relabelled q ∙ ap (λ b. cond b (Some relabelled) (map.get s.objects q)) other

  -- each object is there with its kind
  kind_stays : (q : Oid) (x : Object) → map.get s.objects q ≡ Some x → IsOfKind objects q x
  kind_stays q x e =
      elim (same_oid q id) as (λ b. same_oid q id ≡ b → IsOfKind objects q x) [
        | true ↦ λ t. record {
          object = relabelled;
          is = get-insert oid_cmp_total s.objects id relabelled q ∙ ap (λ b. cond b (Some relabelled) (map.get s.objects q)) t;
          kind_is = ap (λ (y : Object). y.kind) (some_same o x (sym is ∙ ap (map.get s.objects) (sym (same_key oid_cmp_exact q id t)) ∙ e));
        }
        | false ↦ λ t. record { object = x; is = other_is q t ∙ e; kind_is = refl }
      ] refl

  -- a directory that holds it is dominated by its new label
  holder_below : (spot : Spot) (dir : Object) → map.get s.entries spot ≡ Some id → map.get s.objects spot.0 ≡ Some dir → dominates new dir.label ≡ true
  unfolding is_above_holders
  holder_below spot dir e dir_is =
      let none = none_passes spot_cmp_total spot_cmp_exact (λ (at : Spot) (q : Oid). same_oid q id && not (dominates new (object_at s at.0).label)) s.entries (not-true _ above) spot id e in
      let at_dir : object_at s spot.0 ≡ dir = get_or-found s.objects spot.0 (stub_object s.top) dir dir_is in
      not-false _ (ap (λ b. b && not (dominates new dir.label)) (sym ((eq_by_cmp_equiv oid_cmp_total).refl id)) ∙ ap (λ (d : Object). same_oid id id && not (dominates new d.label)) (sym at_dir) ∙ none)

  next_entry : (spot : Spot) (q : Oid) → map.get s.entries spot ≡ Some q → IsValidEntry next_state spot q
  next_entry spot q e =
      let old : IsValidEntry s spot q = valid.entries spot q e in
      -- it holds no entry
      let elsewhere : same_oid spot.0 id ≡ false = none_passes spot_cmp_total spot_cmp_exact (λ (at : Spot) (x : Oid). same_oid at.0 id) s.entries (not-true _ empty) spot q e in
      let dir_is : map.get objects spot.0 ≡ Some old.dir = other_is spot.0 elsewhere ∙ old.dir_is in
      elim (same_oid q id) as (λ b. same_oid q id ≡ b → IsValidEntry next_state spot q) [
        | true ↦ λ t.
            let same : q ≡ id = same_key oid_cmp_exact q id t in
            let was : old.object ≡ o = some_same old.object o (sym old.object_is ∙ ap (map.get s.objects) same ∙ is) in
            record {
              name = old.name;
              dir = old.dir;
              dir_is = dir_is;
              is_dir = old.is_dir;
              object = relabelled;
              object_is = ap (map.get objects) same ∙ get-insert_same oid_cmp_total s.objects id relabelled;
              no_root = old.no_root;
              no_pipe = λ pipe. old.no_pipe (ap (λ (x : Object). x.kind) was ∙ pipe);
              order = holder_below spot old.dir (e ∙ ap (λ (x : Oid). Some x) same) old.dir_is;
            }
        | false ↦ λ t. record {
          name = old.name;
          dir = old.dir;
          dir_is = dir_is;
          is_dir = old.is_dir;
          object = old.object;
          object_is = other_is q t ∙ old.object_is;
          no_root = old.no_root;
          no_pipe = old.no_pipe;
          order = old.order;
        }
      ] refl

  next_object : (q : Oid) (x : Object) → map.get objects q ≡ Some x → IsValidObject next_state q x
  next_object =
      let told : IsValidObject s id o = valid.objects id o is in
      let content = content_of s id o told in
      each-insert oid_cmp_total oid_cmp_exact (IsValidObject next_state) s.objects
      (λ q x e. let old = valid.objects q x e in open_object_in s objects s.procs s.descriptions s.process_numbers s.description_numbers q x x old refl old.below (content_of s q x old) old.fifo_bytes)
      id relabelled
      (open_object_in s objects s.procs s.descriptions s.process_numbers s.description_numbers id o relabelled told refl below
      (record { mode = content.mode; only_files = content.only_files; dir_bytes = content.dir_bytes; file_bytes = content.file_bytes; stream_bytes = content.stream_bytes }) told.fifo_bytes)

  next_process : (who : Pid) (p : Process) → map.get s.procs who ≡ Some p → IsValidProcess next_state who p
  next_process who p e = let old = valid.procs who p e in process_in s next_state refl kind_stays (λ label n h. h) who p (alone_of s who p old) old.parent old.fds

  next_description : (did : Did) (d : Description) → map.get s.descriptions did ≡ Some d → IsValidDescription next_state did d
  next_description did d e =
      let old = valid.descriptions did d e in
      description_in s next_state refl kind_stays did d old old.drawn_already (held_in s next_state refl (λ who p e. e) did old.held)

  -- a state stays valid where an object gets a label
  pub valid_relabelled : IsValid next_state
  valid_relabelled =
      let r = valid.root_is in
      let was_dir : (q : Oid) (x : Object) → map.get objects q ≡ Some x → x.kind ≡ kind.Dir → IsDir s.objects q =
      each-insert oid_cmp_total oid_cmp_exact (λ (q : Oid) (x : Object). x.kind ≡ kind.Dir → IsDir s.objects q) s.objects (λ q x e dir. record { object = x; is = e; dir = dir }) id relabelled (λ dir. record { object = o; is = is; dir = dir }) in
      record {
        root_is = record { object = r.object; is = other_is root (false_from_ne_true _ (λ t. true≢false (sym ((eq_by_cmp_equiv oid_cmp_total).refl id) ∙ ap (same_oid id) (sym (same_key oid_cmp_exact root id t)) ∙ no_root))) ∙ r.is; root_dir = r.root_dir; root_label = r.root_label };
        objects = next_object;
        entries = next_entry;
        one_entry = λ a b q x e g q_is q_dir. let dir = was_dir q x q_is q_dir in valid.one_entry a b q dir.object e g dir.is dir.dir;
        procs = next_process;
        descriptions = next_description;
        object_numbers = valid.object_numbers;
        process_numbers = valid.process_numbers;
        description_numbers = valid.description_numbers;
      }
