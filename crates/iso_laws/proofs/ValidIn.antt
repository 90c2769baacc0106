-- What is valid in a state is valid in another one: objects, processes and descriptions.
use Rattle.std.specs.Prelude.{◌≡◌, ◌⊎◌, ℕ, ◌<◌, ◌≤◌, true, false, List, [], ◌∷◌, Some, refl, length}
use Rattle.std.specs.List.{AllByRecursion}
use Rattle.std.specs.FinMap as map
use Rattle.std.specs.FinMap.{FinMap}
use Rattle.std.proofs.Common.{sym, ◌∙◌, ap}
use Rattle.cap_bits.specs.CapSet.{is_within}
use Rattle.cap_bits.specs.FileCaps.{no_file_caps}
use Rattle.lab_lattice.specs.Label.{Label, dominates}
use Rattle.kern_model.specs.declared.limits.TheConstants.{MAX_DESCRIPTORS, MAX_FILE_BYTES, MAX_GROUPS, MAX_LINKS, MAX_PIPE_BYTES}
use Rattle.kern_model.specs.declared.calls.Ending.{Ending}
use Rattle.kern_model.specs.declared.numbers.Did.{Did}
use Rattle.kern_model.specs.declared.numbers.Oid.{Oid}
use Rattle.kern_model.specs.declared.numbers.Pid.{Pid}
use Rattle.kern_model.specs.declared.objects.Kind.TheVariants as kind
use Rattle.kern_model.specs.declared.objects.Object.{Object}
use Rattle.kern_model.specs.Descriptors.{any_open}
use Rattle.kern_model.specs.Entries.{is_empty, is_removed, link_count}
use Rattle.kern_model.specs.Keys.{oid_cmp}
use Rattle.kern_model.specs.Kinds.{is_dir, is_file, is_mode, is_permission, is_stream}
use Rattle.kern_model.specs.State.{State, Process, Description, last_drawn}
use Rattle.kern_model.specs.Valid.{IsThere, IsDir, IsDrawn, IsReached, IsHeld, IsValidObject, IsValidEnd, IsValidProcess, IsValidDescription}

-- the mode and the bytes of an object are within the limits of its kind
pub record HasValidContent (o : Object) : Type 0 where
  pub mode : is_mode o.attr.mode ≡ true
  pub only_files : is_file o.kind ≡ false → o.attr.caps ≡ no_file_caps
  pub dir_bytes : o.kind ≡ kind.Dir → o.bytes ≡ []
  pub file_bytes : o.kind ≡ kind.File → length o.bytes ≤ MAX_FILE_BYTES
  pub stream_bytes : is_stream o.kind ≡ true → length o.bytes ≤ MAX_PIPE_BYTES

pub content_of : (s : State) (id : Oid) (o : Object) → IsValidObject s id o → HasValidContent o
content_of s id o valid = record { mode = valid.mode; only_files = valid.only_files; dir_bytes = valid.dir_bytes; file_bytes = valid.file_bytes; stream_bytes = valid.stream_bytes }

-- what is valid of a process, but for its parent and its descriptors
pub record IsValidAlone (s : State) (who : Pid) (p : Process) : Type 0 where
  pub below : dominates s.top p.label ≡ true
  pub drawn_already : IsDrawn who.n (last_drawn s.process_numbers who.label)
  pub within : is_within p.caps.e p.caps.p ≡ true
  pub umask : is_permission p.umask ≡ true
  pub few_groups : length p.ids.groups ≤ MAX_GROUPS
  pub cwd : IsDir s.objects p.cwd
  pub ended : AllByRecursion (IsValidEnd s) p.ended

pub alone_of : (s : State) (who : Pid) (p : Process) → IsValidProcess s who p → IsValidAlone s who p
alone_of s who p valid = record {
  below = valid.below;
  drawn_already = valid.drawn_already;
  within = valid.within;
  umask = valid.umask;
  few_groups = valid.few_groups;
  cwd = valid.cwd;
  ended = valid.ended;
}

-- an object has the number, of the kind of another
pub record IsOfKind (objects : FinMap oid_cmp Object) (id : Oid) (as_before : Object) : Type 0 where
  pub object : Object
  pub is : map.get objects id ≡ Some object
  pub kind_is : object.kind ≡ as_before.kind

pub itself_of_kind : (objects : FinMap oid_cmp Object) (id : Oid) (o : Object) → map.get objects id ≡ Some o → IsOfKind objects id o
itself_of_kind objects id o is = record { object = o; is = is; kind_is = refl }

-- two states with the same highest label
module _ (s t : State) (top_is : t.top ≡ s.top) where
  -- what is held by a process that is still there as it was is still held
  pub held_in : ((who : Pid) (p : Process) → map.get s.procs who ≡ Some p → map.get t.procs who ≡ Some p) → (did : Did) → IsHeld s did → IsHeld t did
  held_in still did held =
      record { who = held.who; process = held.process; fd = held.fd; process_is = still held.who held.process held.process_is; fd_is = held.fd_is }

  -- an object is valid where its label and content are, its number was drawn, its names are few, and as a directory it is reached or is removed and empty
  pub object_in : (id : Oid) (o : Object) → dominates s.top o.label ≡ true → IsDrawn id.n (last_drawn t.object_numbers id.label) → HasValidContent o
      → (o.kind ≡ kind.Fifo → any_open t (λ d. true) id ≡ false → o.bytes ≡ []) → (is_dir o.kind ≡ false → link_count t id ≤ MAX_LINKS)
      → (o.kind ≡ kind.Dir → IsReached t id ⊎ ((is_removed t id ≡ true) × (is_empty t id ≡ true))) → IsValidObject t id o
  object_in id o below drawn_already content fifo_bytes few_names reached = record {
    below = ap (λ top. dominates top o.label) top_is ∙ below;
    drawn_already = drawn_already;
    mode = content.mode;
    only_files = content.only_files;
    dir_bytes = content.dir_bytes;
    file_bytes = content.file_bytes;
    stream_bytes = content.stream_bytes;
    fifo_bytes = fifo_bytes;
    few_names = few_names;
    reached = reached;
  }

  -- each object that was there is there with its kind
  module _ (still : (id : Oid) (o : Object) → map.get s.objects id ≡ Some o → IsOfKind t.objects id o) where
    dir_in : (id : Oid) → IsDir s.objects id → IsDir t.objects id
    dir_in id dir = let there = still id dir.object dir.is in record { object = there.object; is = there.is; dir = there.kind_is ∙ dir.dir }

    -- a description stays valid where its number was drawn, if it is held
    pub description_in : (did : Did) (d : Description) → IsValidDescription s did d → IsDrawn did.n (last_drawn t.description_numbers did.label) → IsHeld t did
        → IsValidDescription t did d
    description_in did d valid drawn_already held =
        let there = still d.object valid.object valid.object_is in
        record { drawn_already = drawn_already; object = there.object; object_is = there.is; no_dir = λ dir. valid.no_dir (sym there.kind_is ∙ dir); held = held }

    -- what was drawn of processes stays drawn
    module _ (up : (label : Label) (n : ℕ) → IsDrawn n (last_drawn s.process_numbers label) → IsDrawn n (last_drawn t.process_numbers label)) where
      ended_in : (es : List (Pid × Ending)) → AllByRecursion (IsValidEnd s) es → AllByRecursion (IsValidEnd t) es
      ended_in [] h = tt
      ended_in (e ∷ es) h =
          (record { below = ap (λ top. dominates top e.0.label) top_is ∙ h.0.below; drawn_already = up e.0.label e.0.n h.0.drawn_already }, ended_in es h.1)

      -- a process stays valid where its parent and its descriptions are there
      pub process_in : (who : Pid) (p : Process) → IsValidAlone s who p → ((q : Pid) → p.parent ≡ Some q → IsThere t.procs q)
          → ((fd : ℕ) (did : Did) → map.get p.fds fd ≡ Some did → (fd < MAX_DESCRIPTORS) × IsThere t.descriptions did) → IsValidProcess t who p
      process_in who p valid parent fds = record {
        below = ap (λ top. dominates top p.label) top_is ∙ valid.below;
        drawn_already = up who.label who.n valid.drawn_already;
        within = valid.within;
        umask = valid.umask;
        few_groups = valid.few_groups;
        cwd = dir_in p.cwd valid.cwd;
        parent = parent;
        ended = ended_in p.ended valid.ended;
        fds = fds;
      }
