-- The first state of each world is valid.
use Rattle.std.specs.Prelude.{◌≡◌, ℕ, ◌+◌, ◌≤◌, true, List, [], ◌∷◌, ◌++◌, Some, None, refl, cond, length}
use Rattle.std.specs.List.{AllByRecursion, list_all}
use Rattle.std.specs.Option.{option_or}
use Rattle.std.specs.Ordering.{nat_cmp, eq_by_cmp, is_eq}
use Rattle.std.proofs.Common.{sym, ◌∙◌, ap, subst, arith, inl}
use Rattle.std.proofs.lemmas.Bool.{and_parts}
use Rattle.std.proofs.lemmas.Cmp.{tied_itself}
use Rattle.std.proofs.lemmas.List.{append-nil, append_assoc}
use Rattle.std.proofs.lemmas.List.Folds.{list_all-append}
use Rattle.std.specs.FinMap as map
use Rattle.std.specs.FinMap.{FinMap, get-empty}
use Rattle.cap_bits.specs.CapSet.{CapSet}
use Rattle.fs_path.specs.Name.{Name, is_name}
use Rattle.lab_lattice.specs.Label.{Label, bottom, dominates, label_cmp}
use Rattle.kern_model.specs.declared.limits.TheConstants.{MAX_DESCRIPTIONS, MAX_OBJECTS, MAX_PIPE_BYTES, MAX_PROCS}
use Rattle.kern_model.specs.declared.numbers.Pid.{Pid}
use Rattle.kern_model.specs.declared.numbers.Oid.{Oid}
use Rattle.kern_model.specs.declared.objects.Body.{Body}
use Rattle.kern_model.specs.declared.objects.Body.TheVariants as body
use Rattle.kern_model.specs.declared.objects.Kind.TheVariants as kind
use Rattle.kern_model.specs.declared.objects.Object.{Object}
use Rattle.kern_model.specs.declared.world.World.{World}
use Rattle.kern_model.specs.declared.world.WorldObject.{WorldObject}
use Rattle.kern_model.specs.declared.world.WorldProc.{WorldProc}
use Rattle.kern_model.specs.Boot.{object_of, process_of, entry_for, boot_object, boot_process, boot_objects, boot_processes, nothing, objects_loaded, boot}
use Rattle.kern_model.specs.Entries.{link_count}
use Rattle.kern_model.specs.Keys.{Spot, oid_cmp, same_oid, pid_cmp, did_cmp, spot_cmp}
use Rattle.kern_model.proofs.KeyLaws.{oid_cmp_total, oid_cmp_exact, pid_cmp_total, pid_cmp_exact, spot_cmp_total, spot_cmp_exact}
use Rattle.kern_model.specs.Kinds.{kind_of, bytes_of, is_stream}
use Rattle.kern_model.specs.State.{State, Process, Description, SetObject, SetEntry, DrawObject, apply_change, apply_changes, last_drawn, next_object, next_process, root}
use Rattle.kern_model.specs.Valid.{IsDrawn, AreFew, leads, IsRoot, IsValidObject, IsValidEntry, IsValidProcess, IsValid}
use Rattle.kern_model.specs.World.{objects_at, procs_at, same_names, parent_names, object_with_path, IsPlaced, ArePlaced, IsWorldObject, IsWorldProc, IsWorld}
use Rattle.kern_model.proofs.MapLemmas.{same_key, get_or-absent, get-insert_same, get-insert_kept, other_key, each-insert, never_some, some_same, count_entries-one}
use Rattle.iso_laws.specs.Laws.{ValidBoot}
use Rattle.iso_laws.proofs.PathLemmas.{leads_still, leads_on, HasLastName, has_last_name, names_itself, given-append, not_before, given_after}
use Rattle.iso_laws.proofs.ValidLemmas.{no_fewer, one_more, still_drawn, next_drawn, still_below, still_counted}

-- ---- names and bodies
not_none : (names : List Name) (name : Name) → [] ≡ names ++ name ∷ [] → ⊥
not_none [] name e = cc
not_none (next ∷ names) name e = cc

same_ends : (xs ys : List Name) (x y : Name) → xs ++ x ∷ [] ≡ ys ++ y ∷ [] → (xs ≡ ys) × (x ≡ y)
same_ends [] [] x y e = (refl, cc)
same_ends [] (z ∷ ys) x y e = let tail : [] ≡ ys ++ y ∷ [] = cc in absurd (not_none ys y tail)
same_ends (z ∷ xs) [] x y e = let tail : [] ≡ xs ++ x ∷ [] = cc in absurd (not_none xs x tail)
same_ends (z ∷ xs) (w ∷ ys) x y e =
    let head : z ≡ w = cc in
    let tail : xs ++ x ∷ [] ≡ ys ++ y ∷ [] = cc in
    let rest = same_ends xs ys x y tail in
    (λ i. head i ∷ rest.0 i, rest.1)

last_is_name : (all names : List Name) (name : Name) → all ≡ names ++ name ∷ [] → list_all is_name all ≡ true → is_name name ≡ true
last_is_name all names name e h =
    let parts : list_all is_name (names ++ name ∷ []) ≡ true = ap (list_all is_name) (sym e) ∙ h in
    let ends : list_all is_name (name ∷ []) ≡ true = (and_parts (list_all is_name names) _ (sym (list_all-append is_name names (name ∷ [])) ∙ parts)).1 in
    (and_parts (is_name name) true ends).0

dir_empty : (b : Body) → kind_of b ≡ kind.Dir → bytes_of b ≡ []
dir_empty body.Dir e = refl
dir_empty (body.File bytes) e = absurd (cc)
dir_empty body.Fifo e = refl
dir_empty body.Pipe e = refl

fifo_empty : (b : Body) → kind_of b ≡ kind.Fifo → bytes_of b ≡ []
fifo_empty body.Dir e = refl
fifo_empty (body.File bytes) e = absurd (cc)
fifo_empty body.Fifo e = refl
fifo_empty body.Pipe e = refl

stream_few : (b : Body) → is_stream (kind_of b) ≡ true → length (bytes_of b) ≤ MAX_PIPE_BYTES
stream_few body.Dir e = absurd (cc)
stream_few (body.File bytes) e = absurd (cc)
stream_few body.Fifo e = omega arith
stream_few body.Pipe e = omega arith

pipe_alone : (b : Body) → kind_of b ≡ kind.Pipe → b ≡ body.Pipe
pipe_alone body.Dir e = absurd (cc)
pipe_alone (body.File bytes) e = absurd (cc)
pipe_alone body.Fifo e = absurd (cc)
pipe_alone body.Pipe e = refl

none_drawn : (l : Label) → last_drawn map.empty l ≡ 0
none_drawn l = get_or-absent _ l 0 (get-empty label_cmp l)

-- ---- the objects
-- an object is one of a world, and its number was drawn
record IsMade (top : Label) (numbers : FinMap label_cmp ℕ) (id : Oid) (x : Object) : Type 0 where
  line : WorldObject
  is : x ≡ object_of line
  world : IsWorldObject top line
  number : IsDrawn id.n (last_drawn numbers id.label)

-- an object of a world is at these names
record Stands (names_of : Oid → List Name) (objects : FinMap oid_cmp Object) (names : List Name) (o : WorldObject) : Type 0 where
  id : Oid
  named : names_of id ≡ names
  is : map.get objects id ≡ Some (object_of o)

-- what an entry leads to was given, with the names of its directory and its own
record IsEntered (objects : FinMap oid_cmp Object) (before : List WorldObject) (names_of : Oid → List Name) (spot : Spot) (id : Oid) : Type 0 where
  names : names_of id ≡ names_of spot.0 ++ spot.1 ∷ []
  known : object_with_path before (names_of id) ≡ None → ⊥
  name : is_name spot.1 ≡ true
  dir : Object
  dir_is : map.get objects spot.0 ≡ Some dir
  is_dir : dir.kind ≡ kind.Dir
  object : Object
  object_is : map.get objects id ≡ Some object
  order : dominates object.label dir.label ≡ true

-- a state that has these objects of a world and nothing else
record IsBuilt (top : Label) (before : List WorldObject) (s : State) : Type 0 where
  top_is : s.top ≡ top
  root_is : IsRoot s.objects
  made : (id : Oid) (x : Object) → map.get s.objects id ≡ Some x → IsMade top s.object_numbers id x
  -- the names with which an object was given
  names_of : Oid → List Name
  root_names : names_of root ≡ []
  root_given : object_with_path before [] ≡ None → ⊥
  stands : (names : List Name) (o : WorldObject) → object_with_path before names ≡ Some o → Stands names_of s.objects names o
  led : (id : Oid) (x : Object) → map.get s.objects id ≡ Some x → leads s root (names_of id) ≡ Some id
  entered : (spot : Spot) (id : Oid) → map.get s.entries spot ≡ Some id → IsEntered s.objects before names_of spot id
  below : (l : Label) → 1 ≤ last_drawn s.object_numbers l → dominates top l ≡ true
  counted : (l : Label) → last_drawn s.object_numbers l ≤ objects_at l before
  no_procs : s.procs ≡ map.empty
  no_process_numbers : s.process_numbers ≡ map.empty
  no_descriptions : s.descriptions ≡ map.empty
  no_description_numbers : s.description_numbers ≡ map.empty

-- the state with the object, before its entry
abbrev with_object : State → WorldObject → State
with_object s o = apply_change (apply_change s (DrawObject o.label (last_drawn s.object_numbers o.label + 1))) (SetObject (next_object s o.label) (object_of o))

-- the first object is the root
module _ (bound : CapSet) (top : Label) (o : WorldObject) (is_dir : o.body ≡ body.Dir) (lowest : o.label ≡ bottom) (world : IsWorldObject top o) where
  abbrev first_state : State
  first_state = with_object (nothing bound top) o

  abbrev first_id : Oid
  first_id = next_object (nothing bound top) o.label

  first_is_root : first_id ≡ root
  first_is_root = λ i. record { label = lowest i; n = none_drawn o.label i + 1 }

  root_is_first : map.get first_state.objects root ≡ Some (object_of o)
  root_is_first = subst (λ (id : Oid). map.get first_state.objects id ≡ Some (object_of o)) first_is_root (get-insert_same oid_cmp_total map.empty first_id (object_of o))

  -- what holds of the first object holds of each object
  only_first : (P : Oid → Object → Type 0) → P first_id (object_of o) → (id : Oid) (x : Object) → map.get first_state.objects id ≡ Some x → P id x
  only_first P h = each-insert oid_cmp_total oid_cmp_exact P map.empty (λ id x e. absurd (never_some _ x (get-empty oid_cmp id) e)) first_id (object_of o) h

  built_first : o.path.names ≡ [] → IsBuilt top (o ∷ []) (boot_object (nothing bound top) o)
  unfolding boot_object
  built_first no_names =
      subst (λ names. IsBuilt top (o ∷ []) (apply_changes first_state (entry_for (nothing bound top) root names first_id))) (sym no_names) (record {
        top_is = refl;
        root_is = record { object = object_of o; is = root_is_first; root_dir = ap kind_of is_dir; root_label = lowest };
        made = only_first (IsMade top first_state.object_numbers) (record { line = o; is = refl; world = world; number = next_drawn map.empty o.label });
        names_of = λ id. [];
        root_names = refl;
        root_given = λ e. never_some _ o e (ap (λ names. cond (same_names names []) (Some o) None) no_names);
        stands = given_after (Stands (λ id. []) first_state.objects) [] o (λ names x e. absurd (never_some None x refl e))
            (record { id = root; named = sym no_names; is = root_is_first });
        led = only_first (λ (id : Oid) (x : Object). leads first_state root [] ≡ Some id) (ap (λ (id : Oid). Some id) (sym first_is_root));
        entered = λ spot id e. absurd (never_some _ id (get-empty spot_cmp spot) e);
        below = still_below map.empty o.label top world.below (λ l h. absurd (omega (arith, none_drawn l)));
        counted = still_counted map.empty o.label (λ l. 0) (λ l. objects_at l (o ∷ [])) (λ l. omega (arith, none_drawn l)) (λ l. omega arith) (one_more (λ (x : WorldObject). x.label) [] o);
        no_procs = refl;
        no_process_numbers = refl;
        no_descriptions = refl;
        no_description_numbers = refl;
      })

-- one more object
module _ (top : Label) (before : List WorldObject) (s : State) (built : IsBuilt top before s) (o : WorldObject) (placed : IsPlaced before o) (world : IsWorldObject top o) where
  abbrev new : Oid
  new = next_object s o.label

  absent : map.get s.objects new ≡ None
  absent =
      elim (map.get s.objects new) as (λ w. map.get s.objects new ≡ w → w ≡ None) [
        | None ↦ λ _. refl
        | Some x ↦ λ e. absurd (omega (arith, (built.made new x e).number.1))
      ] refl

  abbrev next_objects : FinMap oid_cmp Object
  next_objects = (with_object s o).objects

  -- an object that is there stays there
  stays : (id : Oid) (x : Object) → map.get s.objects id ≡ Some x → map.get next_objects id ≡ Some x
  stays = get-insert_kept oid_cmp_total oid_cmp_exact s.objects new (object_of o) absent

  is_new : map.get next_objects new ≡ Some (object_of o)
  is_new = get-insert_same oid_cmp_total s.objects new (object_of o)

  made_next : (id : Oid) (x : Object) → map.get next_objects id ≡ Some x → IsMade top (with_object s o).object_numbers id x
  made_next = each-insert oid_cmp_total oid_cmp_exact (IsMade top (with_object s o).object_numbers) s.objects
      (λ id x e. let made = built.made id x e in record { line = made.line; is = made.is; world = made.world; number = still_drawn s.object_numbers o.label id.label id.n made.number })
      new (object_of o) (record { line = o; is = refl; world = world; number = next_drawn s.object_numbers o.label })

  -- the names with which each object was given, also the new one
  abbrev names_now : Oid → List Name
  names_now id = cond (eq_by_cmp oid_cmp id new) o.path.names (built.names_of id)

  new_names : names_now new ≡ o.path.names
  new_names = ap (λ r. cond (is_eq r) o.path.names (built.names_of new)) (tied_itself oid_cmp_total new)

  old_names : (id : Oid) (x : Object) → map.get s.objects id ≡ Some x → names_now id ≡ built.names_of id
  old_names id x e = ap (λ b. cond b o.path.names (built.names_of id)) (other_key oid_cmp_total oid_cmp_exact s.objects new (object_of o) absent id x e)

  -- what was given stays given
  still_given : (names : List Name) → (object_with_path before names ≡ None → ⊥) → object_with_path (before ++ o ∷ []) names ≡ None → ⊥
  still_given names known e = known (not_before before (o ∷ []) names e)

  last_given : object_with_path (before ++ o ∷ []) o.path.names ≡ None → ⊥
  last_given e = never_some _ o e
      (given-append before (o ∷ []) o.path.names ∙ ap (λ w. option_or w (object_with_path (o ∷ []) o.path.names)) placed.new ∙ ap (λ b. cond b (Some o) None) (names_itself o.path.names))

  -- its entry is in the directory that was given for it, at a name that was free
  module _ (dir : Stands built.names_of s.objects (parent_names o.path.names) placed.parent) (end : HasLastName o.path.names) where
    abbrev spot : Spot
    spot = (dir.id, end.name)

    abbrev next_state : State
    next_state = apply_change (with_object s o) (SetEntry spot new)

    own_names : built.names_of dir.id ++ end.name ∷ [] ≡ o.path.names
    own_names = ap (λ ns. ns ++ end.name ∷ []) dir.named ∙ sym end.whole

    free : map.get s.entries spot ≡ None
    free =
        elim (map.get s.entries spot) as (λ w. map.get s.entries spot ≡ w → w ≡ None) [
          | None ↦ λ _. refl
          | Some q ↦ λ e. let is = built.entered spot q e in absurd (is.known (ap (object_with_path before) (is.names ∙ own_names) ∙ placed.new))
        ] refl

    leads_next : (names : List Name) (id : Oid) → leads s root names ≡ Some id → leads next_state root names ≡ Some id
    leads_next = leads_still s next_state (get-insert_kept spot_cmp_total spot_cmp_exact s.entries spot new free) root

    dir_led : leads s root (parent_names o.path.names) ≡ Some dir.id
    dir_led = ap (leads s root) (sym dir.named) ∙ built.led dir.id (object_of placed.parent) dir.is

    new_led : leads next_state root o.path.names ≡ Some new
    new_led = ap (leads next_state root) end.whole
        ∙ leads_on next_state root (parent_names o.path.names) dir.id end.name new (leads_next (parent_names o.path.names) dir.id dir_led) (get-insert_same spot_cmp_total s.entries spot new)

    led_next : (id : Oid) (x : Object) → map.get next_objects id ≡ Some x → leads next_state root (names_now id) ≡ Some id
    led_next = each-insert oid_cmp_total oid_cmp_exact (λ (id : Oid) (x : Object). leads next_state root (names_now id) ≡ Some id) s.objects
        (λ id x e. ap (leads next_state root) (old_names id x e) ∙ leads_next (built.names_of id) id (built.led id x e))
        new (object_of o) (ap (leads next_state root) new_names ∙ new_led)

    entered_next : (at : Spot) (id : Oid) → map.get next_state.entries at ≡ Some id → IsEntered next_objects (before ++ o ∷ []) names_now at id
    entered_next = each-insert spot_cmp_total spot_cmp_exact (IsEntered next_objects (before ++ o ∷ []) names_now) s.entries
        (λ at id e.
        let is = built.entered at id e in
        let now : names_now id ≡ built.names_of id = old_names id is.object is.object_is in
        record {
          names = now ∙ is.names ∙ ap (λ ns. ns ++ at.1 ∷ []) (sym (old_names at.0 is.dir is.dir_is));
          known = λ f. still_given (built.names_of id) is.known (ap (object_with_path (before ++ o ∷ [])) (sym now) ∙ f);
          name = is.name;
          dir = is.dir;
          dir_is = stays at.0 is.dir is.dir_is;
          is_dir = is.is_dir;
          object = is.object;
          object_is = stays id is.object is.object_is;
          order = is.order;
        })
        spot new
        (record {
          names = new_names ∙ sym own_names ∙ ap (λ ns. ns ++ end.name ∷ []) (sym (old_names dir.id (object_of placed.parent) dir.is));
          known = λ f. last_given (ap (object_with_path (before ++ o ∷ [])) (sym new_names) ∙ f);
          name = last_is_name o.path.names (parent_names o.path.names) end.name end.whole world.path.named;
          dir = object_of placed.parent;
          dir_is = stays dir.id (object_of placed.parent) dir.is;
          is_dir = ap kind_of placed.parent_dir;
          object = object_of o;
          object_is = is_new;
          order = placed.order;
        })

    built_next : IsBuilt top (before ++ o ∷ []) next_state
    built_next = record {
      top_is = built.top_is;
      root_is = record {
        object = built.root_is.object;
        is = stays root built.root_is.object built.root_is.is;
        root_dir = built.root_is.root_dir;
        root_label = built.root_is.root_label;
      };
      made = made_next;
      names_of = names_now;
      root_names = old_names root built.root_is.object built.root_is.is ∙ built.root_names;
      root_given = still_given [] built.root_given;
      stands = given_after (Stands names_now next_objects) before o
          (λ names x e. let h = built.stands names x e in record { id = h.id; named = old_names h.id (object_of x) h.is ∙ h.named; is = stays h.id (object_of x) h.is })
          (record { id = new; named = new_names; is = is_new });
      led = led_next;
      entered = entered_next;
      below = still_below s.object_numbers o.label top world.below built.below;
      counted = still_counted s.object_numbers o.label (λ l. objects_at l before) (λ l. objects_at l (before ++ o ∷ [])) built.counted
          (λ l. no_fewer (λ (x : WorldObject). x.label) l before o) (one_more (λ (x : WorldObject). x.label) before o);
      no_procs = built.no_procs;
      no_process_numbers = built.no_process_numbers;
      no_descriptions = built.no_descriptions;
      no_description_numbers = built.no_description_numbers;
    }

  -- names that were not given before have a last one
  new_last_name : (names : List Name) → object_with_path before names ≡ None → HasLastName names
  new_last_name [] e = absurd (built.root_given e)
  new_last_name (name ∷ names) e = has_last_name name names

  built_object : IsBuilt top (before ++ o ∷ []) (boot_object s o)
  unfolding boot_object
  built_object =
      let dir = built.stands (parent_names o.path.names) placed.parent placed.parent_given in
      let end = new_last_name o.path.names placed.new in
      subst (λ cs. IsBuilt top (before ++ o ∷ []) (apply_changes (with_object s o) cs)) (sym (end.entry s root dir.id new (dir_led dir end))) (built_next dir end)

built_objects : (top : Label) (os before : List WorldObject) (s : State) → IsBuilt top before s → ArePlaced before os → AllByRecursion (IsWorldObject top) os → IsBuilt top (before ++ os) (boot_objects s os)
built_objects top [] before s built placed worlds = subst (λ os. IsBuilt top os s) (sym (append-nil before)) built
built_objects top (o ∷ os) before s built placed worlds =
    subst (λ all. IsBuilt top all (boot_objects (boot_object s o) os)) (append_assoc before (o ∷ []) os)
    (built_objects top os (before ++ o ∷ []) (boot_object s o) (built_object top before s built o placed.0 worlds.0) placed.1 worlds.1)

-- after the objects of a world were made, the state has these objects and nothing else
built_objects_loaded : (w : World) → IsWorld w → IsBuilt w.top w.objects (objects_loaded w)
built_objects_loaded w is =
    subst (λ os. AllByRecursion (IsWorldObject w.top) os → IsBuilt w.top os (boot_objects (nothing w.bound w.top) os)) (sym is.objects_are)
    (λ worlds. built_objects w.top is.others (is.first ∷ []) (boot_object (nothing w.bound w.top) is.first) (built_first w.bound w.top is.first is.root_body is.root_label worlds.0 is.no_names) is.others_placed worlds.1)
    is.objects

-- ---- the processes
-- a process is one of a world, and its number was drawn
record IsStarted (top : Label) (numbers : FinMap label_cmp ℕ) (who : Pid) (p : Process) : Type 0 where
  line : WorldProc
  is : p ≡ process_of line
  world : IsWorldProc top line
  number : IsDrawn who.n (last_drawn numbers who.label)

-- processes of a world alone, with no more numbers drawn than there are processes at each label
record IsStaffed (top : Label) (before : List WorldProc) (procs : FinMap pid_cmp Process) (numbers : FinMap label_cmp ℕ) : Type 0 where
  started : (who : Pid) (p : Process) → map.get procs who ≡ Some p → IsStarted top numbers who p
  below : (l : Label) → 1 ≤ last_drawn numbers l → dominates top l ≡ true
  counted : (l : Label) → last_drawn numbers l ≤ procs_at l before

staffed_none : (top : Label) → IsStaffed top [] map.empty map.empty
staffed_none top = record {
  started = λ who p e. absurd (never_some _ p (get-empty pid_cmp who) e);
  below = λ l h. absurd (omega (arith, none_drawn l));
  counted = λ l. omega (arith, none_drawn l);
}

staffed_process : (top : Label) (before : List WorldProc) (s : State) (w : WorldProc) → IsWorldProc top w → IsStaffed top before s.procs s.process_numbers → IsStaffed top (before ++ w ∷ []) (boot_process s w).procs (boot_process s w).process_numbers
unfolding boot_process
staffed_process top before s w world staffed = record {
  started = each-insert pid_cmp_total pid_cmp_exact (IsStarted top (boot_process s w).process_numbers) s.procs
      (λ who p e. let h = staffed.started who p e in record { line = h.line; is = h.is; world = h.world; number = still_drawn s.process_numbers w.label who.label who.n h.number })
      (next_process s w.label) (process_of w) (record { line = w; is = refl; world = world; number = next_drawn s.process_numbers w.label });
  below = still_below s.process_numbers w.label top world.below staffed.below;
  counted = still_counted s.process_numbers w.label (λ l. procs_at l before) (λ l. procs_at l (before ++ w ∷ [])) staffed.counted
      (λ l. no_fewer (λ (x : WorldProc). x.label) l before w) (one_more (λ (x : WorldProc). x.label) before w);
}

staffed_processes : (top : Label) (ws before : List WorldProc) (s : State) → AllByRecursion (IsWorldProc top) ws → IsStaffed top before s.procs s.process_numbers → IsStaffed top (before ++ ws) (boot_processes s ws).procs (boot_processes s ws).process_numbers
staffed_processes top [] before s worlds staffed = subst (λ all. IsStaffed top all s.procs s.process_numbers) (sym (append-nil before)) staffed
staffed_processes top (w ∷ ws) before s worlds staffed =
    let t = boot_processes (boot_process s w) ws in
    subst (λ all. IsStaffed top all t.procs t.process_numbers) (append_assoc before (w ∷ []) ws)
    (staffed_processes top ws (before ++ w ∷ []) (boot_process s w) worlds.1 (staffed_process top before s w worlds.0 staffed))

-- a state with other processes and other numbers drawn of processes
abbrev with_procs : State → FinMap pid_cmp Process → FinMap label_cmp ℕ → State
with_procs s procs numbers = record s { procs = procs; process_numbers = numbers }

only_procs : (ws : List WorldProc) (s : State) → boot_processes s ws ≡ with_procs s (boot_processes s ws).procs (boot_processes s ws).process_numbers
unfolding boot_process
only_procs [] s = refl
only_procs (w ∷ ws) s = only_procs ws (boot_process s w)

-- ---- the state
module _ (w : World) (is : IsWorld w) (f : State) (built : IsBuilt w.top w.objects f) (procs : FinMap pid_cmp Process) (numbers : FinMap label_cmp ℕ) (staffed : IsStaffed w.top w.procs procs numbers) where
  abbrev s : State
  s = with_procs f procs numbers

  below_top : (l : Label) → dominates w.top l ≡ true → dominates s.top l ≡ true
  below_top l h = ap (λ t. dominates t l) built.top_is ∙ h

  -- one entry alone leads to an object
  same_spot : (a b : Spot) (id : Oid) → map.get s.entries a ≡ Some id → map.get s.entries b ≡ Some id → a ≡ b
  same_spot a b id e g =
      let at = built.entered a id e in
      let there = built.entered b id g in
      let ends = same_ends (built.names_of a.0) (built.names_of b.0) a.1 b.1 (sym at.names ∙ there.names) in
      let dirs : a.0 ≡ b.0 = some_same a.0 b.0 (sym (built.led a.0 at.dir at.dir_is) ∙ ap (leads f root) ends.0 ∙ built.led b.0 there.dir there.dir_is) in
      λ i. (dirs i, ends.1 i)

  one_name : (id : Oid) → link_count s id ≤ 1
  one_name id = count_entries-one spot_cmp_total spot_cmp_exact (λ (spot : Spot) (at : Oid). same_oid at id) s.entries
      (λ a b x y e g p q. same_spot a b id (e ∙ ap (λ (at : Oid). Some at) (same_key oid_cmp_exact x id p)) (g ∙ ap (λ (at : Oid). Some at) (same_key oid_cmp_exact y id q)))

  led : (id : Oid) (x : Object) → map.get s.objects id ≡ Some x → leads s root (built.names_of id) ≡ Some id
  led id x e = leads_still f s (λ spot q h. h) root (built.names_of id) id (built.led id x e)

  valid_made : (id : Oid) (x : Object) → map.get s.objects id ≡ Some x → IsValidObject s id x
  valid_made id x e =
      let made = built.made id x e in
      let line = made.line in
      subst (IsValidObject s id) (sym made.is) (record {
        below = below_top line.label made.world.below;
        drawn_already = made.number;
        mode = made.world.mode;
        only_files = made.world.only_file;
        dir_bytes = dir_empty line.body;
        file_bytes = λ _. made.world.few;
        stream_bytes = stream_few line.body;
        fifo_bytes = λ h _. fifo_empty line.body h;
        few_names = λ _. omega (arith, one_name id);
        reached = λ _. inl (record { names = built.names_of id; lead = led id x e });
      })

  valid_entered : (spot : Spot) (id : Oid) → map.get s.entries spot ≡ Some id → IsValidEntry s spot id
  valid_entered spot id e =
      let at = built.entered spot id e in
      let made = built.made id at.object at.object_is in
      record {
        name = at.name;
        dir = at.dir;
        dir_is = at.dir_is;
        is_dir = at.is_dir;
        object = at.object;
        object_is = at.object_is;
        no_root = λ h. not_none (built.names_of spot.0) spot.1 (sym (ap built.names_of h ∙ built.root_names) ∙ at.names);
        no_pipe = λ h. made.world.no_pipe (pipe_alone made.line.body (ap (λ (x : Object). x.kind) (sym made.is) ∙ h));
        order = at.order;
      }

  valid_started : (who : Pid) (p : Process) → map.get s.procs who ≡ Some p → IsValidProcess s who p
  valid_started who p e =
      let h = staffed.started who p e in
      let line = h.line in
      subst (IsValidProcess s who) (sym h.is) (record {
        below = below_top line.label h.world.below;
        drawn_already = h.number;
        within = h.world.within;
        umask = refl;
        few_groups = h.world.few;
        cwd = record { object = built.root_is.object; is = built.root_is.is; dir = built.root_is.root_dir };
        parent = λ q g. absurd (never_some None q refl g);
        ended = tt;
        fds = λ fd did g. absurd (never_some _ did (get-empty nat_cmp fd) g);
      })

  few_drawn : (drawn_numbers : FinMap label_cmp ℕ) (most : ℕ) → ((l : Label) → 1 ≤ last_drawn drawn_numbers l → dominates w.top l ≡ true) → ((l : Label) → last_drawn drawn_numbers l ≤ most) → AreFew s.top drawn_numbers most
  few_drawn drawn_numbers most below few = record { below = λ l h. below_top l (below l h); few = few }

  no_description_drawn : (l : Label) → last_drawn s.description_numbers l ≡ 0
  no_description_drawn l = ap (λ (m : FinMap label_cmp ℕ). last_drawn m l) built.no_description_numbers ∙ none_drawn l

  valid_whole : IsValid s
  valid_whole = record {
    root_is = built.root_is;
    objects = valid_made;
    entries = valid_entered;
    one_entry = λ a b id o e g _ _. same_spot a b id e g;
    procs = valid_started;
    descriptions = λ did d e. absurd (never_some _ d (ap (λ (m : FinMap did_cmp Description). map.get m did) built.no_descriptions ∙ get-empty did_cmp did) e);
    object_numbers = few_drawn s.object_numbers MAX_OBJECTS built.below (λ l. omega (arith, built.counted l, is.room.objects l));
    process_numbers = few_drawn s.process_numbers MAX_PROCS staffed.below (λ l. omega (arith, staffed.counted l, is.room.procs l));
    description_numbers = few_drawn s.description_numbers MAX_DESCRIPTIONS (λ l h. absurd (omega (arith, no_description_drawn l))) (λ l. omega (arith, no_description_drawn l));
  }

pub valid_boot : ValidBoot
valid_boot w is =
    let f = objects_loaded w in
    let built = built_objects_loaded w is in
    let none : IsStaffed w.top [] f.procs f.process_numbers = subst (λ (m : FinMap label_cmp ℕ). IsStaffed w.top [] f.procs m) (sym built.no_process_numbers) (subst (λ (m : FinMap pid_cmp Process). IsStaffed w.top [] m map.empty) (sym built.no_procs) (staffed_none w.top)) in
    subst IsValid (sym (only_procs w.procs f)) (valid_whole w is f built (boot w).procs (boot w).process_numbers (staffed_processes w.top w.procs [] f is.procs none))
