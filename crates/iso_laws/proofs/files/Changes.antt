-- A valid state stays valid where processes, descriptions and the bytes of objects change.
use Rattle.std.specs.Prelude.{Bool, ◌≡◌, ℕ, ◌+◌, ◌≤◌, ◌<◌, ◌&&◌, true, false, [], ◌∷◌, Some, None, refl, cond}
use Rattle.std.specs.Ordering.{eq_by_cmp}
use Rattle.std.specs.Cmp.{nat_cmp_total}
use Rattle.std.specs.FinMap as map
use Rattle.std.specs.FinMap.{FinMap, get-insert, nat_cmp-IsAntisymmetric}
use Rattle.std.proofs.Common.{sym, ◌∙◌, ap, arith, inl, inr}
use Rattle.lab_lattice.specs.Label.{Label, dominates, label_cmp}
use Rattle.lab_lattice.proofs.Labels.{label_cmp_total, label_cmp_exact}
use Rattle.kern_model.specs.declared.limits.TheConstants.{MAX_DESCRIPTIONS, MAX_DESCRIPTORS, MAX_PROCS}
use Rattle.kern_model.specs.declared.numbers.Did.{Did}
use Rattle.kern_model.specs.declared.numbers.Oid.{Oid}
use Rattle.kern_model.specs.declared.numbers.Pid.{Pid}
use Rattle.kern_model.specs.declared.objects.Kind.TheVariants as kind
use Rattle.kern_model.specs.declared.objects.Object.{Object}
use Rattle.kern_model.specs.Descriptors.{any_open, open_count, lowest_free, with_descriptor}
use Rattle.kern_model.specs.Keys.{Spot, oid_cmp, pid_cmp, did_cmp, same_oid}
use Rattle.kern_model.specs.Kinds.{is_dir}
use Rattle.kern_model.specs.State.{State, Process, Description, SetObject, SetProcess, SetDescription, DrawDescription, apply_change, apply_changes, last_drawn, next_description, root}
use Rattle.kern_model.specs.Valid.{IsValid, IsThere, IsDrawn, AreFew, IsReached, IsHeld, IsValidObject, IsValidEntry, IsValidProcess, IsValidDescription}
use Rattle.kern_model.proofs.KeyLaws.{oid_cmp_total, oid_cmp_exact, pid_cmp_total, pid_cmp_exact, did_cmp_total, did_cmp_exact}
use Rattle.kern_model.proofs.MapLemmas.{each-insert, get-insert_same, get-insert_kept, same_key, some_same, never_some}
use Rattle.kern_model.proofs.TableLemmas.{each_set_at}
use Rattle.iso_laws.proofs.PathLemmas.{leads_still}
use Rattle.kern_model.proofs.Selections.{none_pass, none_passes}
use Rattle.iso_laws.proofs.ValidLemmas.{still_drawn, next_drawn, still_below}
use Rattle.iso_laws.proofs.files.Descriptors.{lowest_absent, lowest_below}
use Rattle.iso_laws.proofs.KeyLemmas.{still_there}
use Rattle.iso_laws.proofs.ValidIn.{HasValidContent, content_of, IsValidAlone, alone_of, IsOfKind, itself_of_kind, held_in, description_in, process_in, object_in}

-- an object has the number, of the kind and label of another
pub record IsLike (objects : FinMap oid_cmp Object) (id : Oid) (as_before : Object) : Type 0 where
  pub object : Object
  pub is : map.get objects id ≡ Some object
  pub kind_is : object.kind ≡ as_before.kind
  pub label_is : object.label ≡ as_before.label

pub of_kind : (objects : FinMap oid_cmp Object) (id : Oid) (o : Object) → IsLike objects id o → IsOfKind objects id o
of_kind objects id o like = record { object = like.object; is = like.is; kind_is = like.kind_is }

pub itself_like : (objects : FinMap oid_cmp Object) (id : Oid) (o : Object) → map.get objects id ≡ Some o → IsLike objects id o
itself_like objects id o is = record { object = o; is = is; kind_is = refl; label_is = refl }

module _ (s : State) (objects : FinMap oid_cmp Object) (procs : FinMap pid_cmp Process) (descriptions : FinMap did_cmp Description) (process_numbers description_numbers : FinMap label_cmp ℕ) where
  -- a state with other objects, processes, descriptions, and numbers drawn of them
  abbrev pub with_open : State
  with_open = record s { objects = objects; procs = procs; descriptions = descriptions; process_numbers = process_numbers; description_numbers = description_numbers }

  open_reached_in : (id : Oid) → IsReached s id → IsReached with_open id
  open_reached_in id reached = record { names = reached.names; lead = leads_still s with_open (λ at q e. e) root reached.names id reached.lead }

  -- an object stays valid where its label and content are valid, and it is empty as a FIFO without a description
  pub open_object_in : (id : Oid) (old o : Object) → IsValidObject s id old → o.kind ≡ old.kind → dominates s.top o.label ≡ true → HasValidContent o → (o.kind ≡ kind.Fifo → any_open with_open (λ d. true) id ≡ false → o.bytes ≡ []) → IsValidObject with_open id o
  open_object_in id old o valid kind_is below content fifo_bytes =
      object_in s with_open refl id o below valid.drawn_already content fifo_bytes (λ no_dir. valid.few_names (ap is_dir (sym kind_is) ∙ no_dir))
      (λ dir. elim (valid.reached (sym kind_is ∙ dir)) [ inl r ↦ inl (open_reached_in id r) | inr gone ↦ inr gone ])

  open_entry_in : ((id : Oid) (o : Object) → map.get s.objects id ≡ Some o → IsLike objects id o) → (spot : Spot) (id : Oid) → IsValidEntry s spot id → IsValidEntry with_open spot id
  open_entry_in still spot id valid =
      let dir : IsLike objects spot.0 valid.dir = still spot.0 valid.dir valid.dir_is in
      let object : IsLike objects id valid.object = still id valid.object valid.object_is in
      record {
        name = valid.name;
        dir = dir.object;
        dir_is = dir.is;
        is_dir = dir.kind_is ∙ valid.is_dir;
        object = object.object;
        object_is = object.is;
        no_root = valid.no_root;
        no_pipe = λ pipe. valid.no_pipe (sym object.kind_is ∙ pipe);
        order = (λ i. dominates (object.label_is i) (dir.label_is i)) ∙ valid.order;
      }

  -- a process stays valid where what it belongs together with is there
  pub open_process_in : ((id : Oid) (o : Object) → map.get s.objects id ≡ Some o → IsLike objects id o)
      → ((label : Label) (n : ℕ) → IsDrawn n (last_drawn s.process_numbers label) → IsDrawn n (last_drawn process_numbers label))
      → (who : Pid) (p : Process) → IsValidAlone s who p → ((q : Pid) → p.parent ≡ Some q → IsThere procs q) → ((fd : ℕ) (did : Did) → map.get p.fds fd ≡ Some did → (fd < MAX_DESCRIPTORS) × IsThere descriptions did) → IsValidProcess with_open who p
  open_process_in still = process_in s with_open refl (λ id o e. of_kind objects id o (still id o e))

  -- a state is valid where its objects are like those before, and each object, process and description is valid
  pub valid_open : IsValid s
      → ((id : Oid) (o : Object) → map.get s.objects id ≡ Some o → IsLike objects id o)
      → ((id : Oid) (o : Object) → map.get objects id ≡ Some o → IsLike s.objects id o)
      → ((id : Oid) (o : Object) → map.get objects id ≡ Some o → IsValidObject with_open id o)
      → ((who : Pid) (p : Process) → map.get procs who ≡ Some p → IsValidProcess with_open who p)
      → ((did : Did) (d : Description) → map.get descriptions did ≡ Some d → IsValidDescription with_open did d)
      → AreFew s.top process_numbers MAX_PROCS → AreFew s.top description_numbers MAX_DESCRIPTIONS → IsValid with_open
  valid_open valid still was each_object each_process each_description few_processes few_descriptions =
      let r = valid.root_is in
      let new : IsLike objects root r.object = still root r.object r.is in
      record {
        root_is = record { object = new.object; is = new.is; root_dir = new.kind_is ∙ r.root_dir; root_label = new.label_is ∙ r.root_label };
        objects = each_object;
        entries = λ spot id e. open_entry_in still spot id (valid.entries spot id e);
        one_entry = λ a b id o e g is dir. let old = was id o is in valid.one_entry a b id old.object e g old.is (old.kind_is ∙ dir);
        procs = each_process;
        descriptions = each_description;
        object_numbers = valid.object_numbers;
        process_numbers = few_processes;
        description_numbers = few_descriptions;
      }

-- a description has the number, and is of the object
pub record IsOn (descriptions : FinMap did_cmp Description) (did : Did) (id : Oid) : Type 0 where
  pub description : Description
  pub is : map.get descriptions did ≡ Some description
  pub at : description.object ≡ id

-- where each description is still there, of the same object, an object that has none now had none
pub open_before : (s : State) (descriptions : FinMap did_cmp Description) (id : Oid) → ((did : Did) (d : Description) → map.get s.descriptions did ≡ Some d → IsOn descriptions did d.object)
    → any_open (record s { descriptions = descriptions }) (λ d. true) id ≡ false → any_open s (λ d. true) id ≡ false
open_before s descriptions id still none =
    none_pass did_cmp_total did_cmp_exact (λ (did : Did) (d : Description). same_oid d.object id && true) s.descriptions (λ did d e.
    let on : IsOn descriptions did d.object = still did d e in
    ap (λ (q : Oid). same_oid q id && true) (sym on.at) ∙ none_passes did_cmp_total did_cmp_exact (λ (at : Did) (x : Description). same_oid x.object id && true) descriptions none did on.description on.is)

-- each description is there where one is set to be of the same object, or was not there before
pub set_on : (descriptions : FinMap did_cmp Description) (new : Did) (new_is : Description) → ((d : Description) → map.get descriptions new ≡ Some d → new_is.object ≡ d.object)
    → (did : Did) (d : Description) → map.get descriptions did ≡ Some d → IsOn (map.insert descriptions new new_is) did d.object
set_on descriptions new new_is same did d e =
    elim (eq_by_cmp did_cmp did new) as (λ b. eq_by_cmp did_cmp did new ≡ b → IsOn (map.insert descriptions new new_is) did d.object) [
      | true ↦ λ t. record {
        description = new_is;
        is = get-insert did_cmp_total descriptions new new_is did ∙ ap (λ b. cond b (Some new_is) (map.get descriptions did)) t;
        at = same d (ap (map.get descriptions) (sym (same_key did_cmp_exact did new t)) ∙ e);
      }
      | false ↦ λ t. record {
        description = d;
        is = get-insert did_cmp_total descriptions new new_is did ∙ ap (λ b. cond b (Some new_is) (map.get descriptions did)) t ∙ e;
        at = refl;
      }
    ] refl

-- what holds a description still does where a process is set that has the descriptors that it had, if it was there
module _ (s : State) (who : Pid) (q : Process)
    (keeps : (p : Process) → map.get s.procs who ≡ Some p → (fd : ℕ) (did : Did) → map.get p.fds fd ≡ Some did → map.get q.fds fd ≡ Some did)
    (objects : FinMap oid_cmp Object) (descriptions : FinMap did_cmp Description) (process_numbers description_numbers : FinMap label_cmp ℕ) where
  abbrev set_procs : FinMap pid_cmp Process
  set_procs = map.insert s.procs who q

  still_held : (did : Did) → IsHeld s did → IsHeld (with_open s objects set_procs descriptions process_numbers description_numbers) did
  still_held did held =
      let set : (b : Bool) → eq_by_cmp pid_cmp held.who who ≡ b → map.get set_procs held.who ≡ cond b (Some q) (map.get s.procs held.who) =
      λ b t. get-insert pid_cmp_total s.procs who q held.who ∙ ap (λ b. cond b (Some q) (map.get s.procs held.who)) t in
      elim (eq_by_cmp pid_cmp held.who who) as (λ b. eq_by_cmp pid_cmp held.who who ≡ b → IsHeld (with_open s objects set_procs descriptions process_numbers description_numbers) did) [
        | true ↦ λ t. record {
          who = held.who;
          process = q;
          fd = held.fd;
          process_is = set true t;
          fd_is = keeps held.process (ap (map.get s.procs) (sym (same_key pid_cmp_exact held.who who t)) ∙ held.process_is) held.fd did held.fd_is;
        }
        | false ↦ λ t. record { who = held.who; process = held.process; fd = held.fd; process_is = set false t ∙ held.process_is; fd_is = held.fd_is }
      ] refl

module _ (s : State) (valid : IsValid s) where
  -- a process stays valid where descriptions and processes that were there still are
  still_valid_process : (procs : FinMap pid_cmp Process) (descriptions : FinMap did_cmp Description) (description_numbers : FinMap label_cmp ℕ) → ((q : Pid) → IsThere s.procs q → IsThere procs q) → ((did : Did) → IsThere s.descriptions did → IsThere descriptions did)
      → (who : Pid) (p : Process) → map.get s.procs who ≡ Some p → IsValidProcess (with_open s s.objects procs descriptions s.process_numbers description_numbers) who p
  still_valid_process procs descriptions description_numbers still_procs still who p is =
      let old : IsValidProcess s who p = valid.procs who p is in
      open_process_in s s.objects procs descriptions s.process_numbers description_numbers (itself_like s.objects) (λ label n h. h) who p (alone_of s who p old) (λ q e. still_procs q (old.parent q e)) (λ fd did e. let has = old.fds fd did e in (has.0, still did has.1))

  -- an object stays valid where processes and descriptions change, if it is still empty as a FIFO without a description
  pub still_valid_object : (procs : FinMap pid_cmp Process) (descriptions : FinMap did_cmp Description) (process_numbers description_numbers : FinMap label_cmp ℕ)
      → ((id : Oid) → any_open (with_open s s.objects procs descriptions process_numbers description_numbers) (λ d. true) id ≡ false → any_open s (λ d. true) id ≡ false)
      → (id : Oid) (o : Object) → map.get s.objects id ≡ Some o → IsValidObject (with_open s s.objects procs descriptions process_numbers description_numbers) id o
  still_valid_object procs descriptions process_numbers description_numbers before id o e =
      let old = valid.objects id o e in
      open_object_in s s.objects procs descriptions process_numbers description_numbers id o o old refl old.below (content_of s id o old)
      (λ fifo none. old.fifo_bytes fifo (before id none))

  -- a description stays valid in a state with the same objects, if it is still held
  pub still_valid_description : (procs : FinMap pid_cmp Process) (descriptions : FinMap did_cmp Description) (process_numbers description_numbers : FinMap label_cmp ℕ)
      → ((did : Did) (d : Description) → IsValidDescription s did d → IsDrawn did.n (last_drawn description_numbers did.label))
      → ((did : Did) → IsHeld s did → IsHeld (with_open s s.objects procs descriptions process_numbers description_numbers) did)
      → (did : Did) (d : Description) → map.get s.descriptions did ≡ Some d → IsValidDescription (with_open s s.objects procs descriptions process_numbers description_numbers) did d
  still_valid_description procs descriptions process_numbers description_numbers still held did d e =
      let old = valid.descriptions did d e in
      description_in s (with_open s s.objects procs descriptions process_numbers description_numbers) refl (itself_of_kind s.objects) did d old (still did d old) (held did old.held)

  -- ---- a process is set that has the descriptors that it had, if it was there
  pub valid_process : (who : Pid) (q : Process) → ((p : Process) → map.get s.procs who ≡ Some p → q.fds ≡ p.fds) → IsValidProcess s who q
      → IsValid (apply_change s (SetProcess who q))
  valid_process who q fds new =
      let procs : FinMap pid_cmp Process = map.insert s.procs who q in
      let still : (r : Pid) → IsThere s.procs r → IsThere procs r = still_there pid_cmp_total s.procs who q in
      let keeps : (p : Process) → map.get s.procs who ≡ Some p → (fd : ℕ) (did : Did) → map.get p.fds fd ≡ Some did → map.get q.fds fd ≡ Some did =
      λ p e fd did at. ap (λ m. map.get m fd) (fds p e) ∙ at in
      valid_open s s.objects procs s.descriptions s.process_numbers s.description_numbers valid (itself_like s.objects) (itself_like s.objects)
      (still_valid_object procs s.descriptions s.process_numbers s.description_numbers (λ id none. none))
      (each-insert pid_cmp_total pid_cmp_exact (IsValidProcess (with_open s s.objects procs s.descriptions s.process_numbers s.description_numbers)) s.procs
      (still_valid_process procs s.descriptions s.description_numbers still (λ did there. there)) who q
      (open_process_in s s.objects procs s.descriptions s.process_numbers s.description_numbers (itself_like s.objects) (λ label n h. h) who q (alone_of s who q new) (λ r e. still r (new.parent r e)) new.fds))
      (still_valid_description procs s.descriptions s.process_numbers s.description_numbers (λ did d old. old.drawn_already)
      (still_held s who q keeps s.objects s.descriptions s.process_numbers s.description_numbers))
      valid.process_numbers valid.description_numbers

  -- ---- a description is set
  module _ (did : Did) (d new : Description) (is : map.get s.descriptions did ≡ Some d) (same : new.object ≡ d.object) where
    abbrev moved_descriptions : FinMap did_cmp Description
    moved_descriptions = map.insert s.descriptions did new

    abbrev moved_state : State
    moved_state = with_open s s.objects s.procs moved_descriptions s.process_numbers s.description_numbers

    -- a state stays valid where an open description is set to another one of the same object
    pub valid_moved : IsValid (apply_change s (SetDescription did new))
    valid_moved =
        let on : (q : Did) (x : Description) → map.get s.descriptions q ≡ Some x → IsOn moved_descriptions q x.object = set_on s.descriptions did new (λ x e. same ∙ ap (λ (y : Description). y.object) (some_same d x (sym is ∙ e))) in
        let told = valid.descriptions did d is in
        valid_open s s.objects s.procs moved_descriptions s.process_numbers s.description_numbers valid (itself_like s.objects) (itself_like s.objects)
        (still_valid_object s.procs moved_descriptions s.process_numbers s.description_numbers (λ id. open_before s moved_descriptions id on))
        (still_valid_process s.procs moved_descriptions s.description_numbers (λ q there. there) (still_there did_cmp_total s.descriptions did new))
        (each-insert did_cmp_total did_cmp_exact (IsValidDescription moved_state) s.descriptions
        (still_valid_description s.procs moved_descriptions s.process_numbers s.description_numbers (λ q x old. old.drawn_already) (held_in s moved_state refl (λ who p e. e)))
        did new (record { drawn_already = told.drawn_already; object = told.object; object_is = ap (map.get s.objects) same ∙ told.object_is; no_dir = told.no_dir; held = held_in s moved_state refl (λ who p e. e) did told.held }))
        valid.process_numbers valid.description_numbers

  -- ---- the content of an object is set
  module _ (id : Oid) (old new : Object) (is : map.get s.objects id ≡ Some old) (kind_is : new.kind ≡ old.kind) (label_is : new.label ≡ old.label) where
    abbrev set_objects : FinMap oid_cmp Object
    set_objects = map.insert s.objects id new

    abbrev set_state : State
    set_state = with_open s set_objects s.procs s.descriptions s.process_numbers s.description_numbers

    still_like : (q : Oid) (o : Object) → map.get s.objects q ≡ Some o → IsLike set_objects q o
    still_like q o e =
        elim (eq_by_cmp oid_cmp q id) as (λ b. eq_by_cmp oid_cmp q id ≡ b → IsLike set_objects q o) [
          | true ↦ λ t.
              let same : old ≡ o = some_same old o (sym is ∙ ap (map.get s.objects) (sym (same_key oid_cmp_exact q id t)) ∙ e) in
              record {
                object = new;
                is = get-insert oid_cmp_total s.objects id new q ∙ ap (λ b. cond b (Some new) (map.get s.objects q)) t;
                kind_is = kind_is ∙ ap (λ (x : Object). x.kind) same;
                label_is = label_is ∙ ap (λ (x : Object). x.label) same;
              }
          | false ↦ λ t. record { object = o; is = get-insert oid_cmp_total s.objects id new q ∙ ap (λ b. cond b (Some new) (map.get s.objects q)) t ∙ e; kind_is = refl; label_is = refl }
        ] refl

    set_description : (q : Did) (d : Description) → map.get s.descriptions q ≡ Some d → IsValidDescription set_state q d
    set_description q d e =
        let old = valid.descriptions q d e in
        description_in s set_state refl (λ id o e. of_kind set_objects id o (still_like id o e)) q d old old.drawn_already (held_in s set_state refl (λ who p e. e) q old.held)

    -- a state stays valid where the content of an object is set, if it is valid, and a FIFO that gets bytes has a description
    pub valid_content : HasValidContent new → (new.kind ≡ kind.Fifo → any_open s (λ d. true) id ≡ false → new.bytes ≡ []) → IsValid (apply_change s (SetObject id new))
    valid_content content fifo_bytes =
        valid_open s set_objects s.procs s.descriptions s.process_numbers s.description_numbers valid still_like
        (each-insert oid_cmp_total oid_cmp_exact (λ (q : Oid) (o : Object). IsLike s.objects q o) s.objects (itself_like s.objects) id new (record { object = old; is = is; kind_is = sym kind_is; label_is = sym label_is }))
        (each-insert oid_cmp_total oid_cmp_exact (IsValidObject set_state) s.objects
        (λ q o e. let valid_o = valid.objects q o e in open_object_in s set_objects s.procs s.descriptions s.process_numbers s.description_numbers q o o valid_o refl valid_o.below (content_of s q o valid_o) valid_o.fifo_bytes)
        id new (open_object_in s set_objects s.procs s.descriptions s.process_numbers s.description_numbers id old new (valid.objects id old is) kind_is (ap (dominates s.top) label_is ∙ (valid.objects id old is).below) content fifo_bytes))
        (λ who p e. let valid_p = valid.procs who p e in open_process_in s set_objects s.procs s.descriptions s.process_numbers s.description_numbers still_like (λ label n h. h) who p (alone_of s who p valid_p) valid_p.parent valid_p.fds)
        set_description valid.process_numbers valid.description_numbers

  -- ---- a process gets a further descriptor
  module _ (who : Pid) (p : Process) (is : map.get s.procs who ≡ Some p) (did : Did) where
    abbrev holder : Process
    holder = with_descriptor p did

    abbrev more_procs : FinMap pid_cmp Process
    more_procs = map.insert s.procs who holder

    module _ (descriptions : FinMap did_cmp Description) (description_numbers : FinMap label_cmp ℕ) where
      abbrev more_state : State
      more_state = with_open s s.objects more_procs descriptions s.process_numbers description_numbers

      more_held : (q : Did) → IsHeld s q → IsHeld more_state q
      more_held =
          still_held s who holder
          (λ x e fd q at. get-insert_kept nat_cmp_total nat_cmp-IsAntisymmetric p.fds (lowest_free p.fds) did (lowest_absent p.fds) fd q (ap (λ (y : Process). map.get y.fds fd) (some_same p x (sym is ∙ e)) ∙ at))
          s.objects descriptions s.process_numbers description_numbers

      new_held : IsHeld more_state did
      new_held = record {
        who = who;
        process = holder;
        fd = lowest_free p.fds;
        process_is = get-insert_same pid_cmp_total s.procs who holder;
        fd_is = get-insert_same nat_cmp_total p.fds (lowest_free p.fds) did;
      }

      more_processes : open_count p + 1 ≤ MAX_DESCRIPTORS → ((q : Did) → IsThere s.descriptions q → IsThere descriptions q) → IsThere descriptions did → (q : Pid) (x : Process) → map.get more_procs q ≡ Some x → IsValidProcess more_state q x
      more_processes free still there =
          let still_procs : (q : Pid) → IsThere s.procs q → IsThere more_procs q = still_there pid_cmp_total s.procs who holder in
          let own : IsValidProcess s who p = valid.procs who p is in
          each-insert pid_cmp_total pid_cmp_exact (IsValidProcess more_state) s.procs (still_valid_process more_procs descriptions description_numbers still_procs still) who holder
          (open_process_in s s.objects more_procs descriptions s.process_numbers description_numbers (itself_like s.objects) (λ label n h. h) who holder
          (record { below = own.below; drawn_already = own.drawn_already; within = own.within; umask = own.umask; few_groups = own.few_groups; cwd = own.cwd; ended = own.ended })
          (λ q e. still_procs q (own.parent q e))
          (each-insert nat_cmp_total nat_cmp-IsAntisymmetric (λ (fd : ℕ) (q : Did). (fd < MAX_DESCRIPTORS) × IsThere descriptions q) p.fds (λ fd q e. let has = own.fds fd q e in (has.0, still q has.1)) (lowest_free p.fds) did (lowest_below p free, there)))

    -- a state stays valid where a process gets a further descriptor of a description that is there
    pub valid_shared : IsThere s.descriptions did → open_count p + 1 ≤ MAX_DESCRIPTORS → IsValid (apply_change s (SetProcess who holder))
    valid_shared there free =
        valid_open s s.objects more_procs s.descriptions s.process_numbers s.description_numbers valid (itself_like s.objects) (itself_like s.objects)
        (still_valid_object more_procs s.descriptions s.process_numbers s.description_numbers (λ id none. none))
        (more_processes s.descriptions s.description_numbers free (λ q h. h) there)
        (still_valid_description more_procs s.descriptions s.process_numbers s.description_numbers (λ q d old. old.drawn_already) (more_held s.descriptions s.description_numbers))
        valid.process_numbers valid.description_numbers

  -- no description has a number after the last one that was drawn
  pub unnumbered : (did : Did) → last_drawn s.description_numbers did.label < did.n → map.get s.descriptions did ≡ None
  unnumbered did after =
      elim (map.get s.descriptions did) as (λ w. map.get s.descriptions did ≡ w → w ≡ None) [
        | None ↦ λ _. refl
        | Some d ↦ λ e. absurd (omega (arith, after, (valid.descriptions did d e).drawn_already.1))
      ] refl

  -- ---- an object is opened
  module _ (who : Pid) (p : Process) (is : map.get s.procs who ≡ Some p) (d : Description) (object : Object) (object_is : map.get s.objects d.object ≡ Some object) (no_dir : object.kind ≡ kind.Dir → ⊥) where
    abbrev new : Did
    new = next_description s p.label

    abbrev opened_descriptions : FinMap did_cmp Description
    opened_descriptions = map.insert s.descriptions new d

    abbrev more_numbers : FinMap label_cmp ℕ
    more_numbers = map.insert s.description_numbers p.label (last_drawn s.description_numbers p.label + 1)

    abbrev opened_state : State
    opened_state = more_state who p is new opened_descriptions more_numbers

    -- a state stays valid where a process gets a further descriptor, of a new description
    pub valid_opened : open_count p + 1 ≤ MAX_DESCRIPTORS → last_drawn s.description_numbers p.label + 1 ≤ MAX_DESCRIPTIONS
        → IsValid (apply_changes s (DrawDescription p.label (last_drawn s.description_numbers p.label + 1) ∷ SetDescription new d ∷ SetProcess who (with_descriptor p new) ∷ []))
    valid_opened free left =
        let absent : map.get s.descriptions new ≡ None = unnumbered new (omega arith) in
        let on : (q : Did) (x : Description) → map.get s.descriptions q ≡ Some x → IsOn opened_descriptions q x.object = set_on s.descriptions new d (λ x e. absurd (never_some (map.get s.descriptions new) x absent e)) in
        valid_open s s.objects (more_procs who p is new) opened_descriptions s.process_numbers more_numbers valid (itself_like s.objects) (itself_like s.objects)
        (still_valid_object (more_procs who p is new) opened_descriptions s.process_numbers more_numbers (λ id. open_before s opened_descriptions id on))
        (more_processes who p is new opened_descriptions more_numbers free (still_there did_cmp_total s.descriptions new d) (record { value = d; is = get-insert_same did_cmp_total s.descriptions new d }))
        (each-insert did_cmp_total did_cmp_exact (IsValidDescription opened_state) s.descriptions
        (still_valid_description (more_procs who p is new) opened_descriptions s.process_numbers more_numbers
        (λ q x old. still_drawn s.description_numbers p.label q.label q.n old.drawn_already) (more_held who p is new opened_descriptions more_numbers))
        new d (record { drawn_already = next_drawn s.description_numbers p.label; object = object; object_is = object_is; no_dir = no_dir; held = new_held who p is new opened_descriptions more_numbers }))
        valid.process_numbers
        (record {
          below = still_below s.description_numbers p.label s.top (valid.procs who p is).below valid.description_numbers.below;
          few = each_set_at label_cmp_total label_cmp_exact (λ (l : Label) (n : ℕ). n ≤ MAX_DESCRIPTIONS) 0 s.description_numbers p.label (last_drawn s.description_numbers p.label + 1) left valid.description_numbers.few;
        })
