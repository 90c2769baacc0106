-- What holds of every state that is reached.
use Rattle.std.specs.Prelude.{◌≡◌, ◌⊎◌, ℕ, ◌≤◌, ◌<◌, true, false, List, [], ◌∷◌, Option, Some, length}
use Rattle.std.specs.Option.{option_and_then}
use Rattle.std.specs.declared.cmp.Ordering.{Ordering}
use Rattle.std.specs.List.{AllByRecursion}
use Rattle.std.specs.FinMap as map
use Rattle.std.specs.FinMap.{FinMap}
use Rattle.cap_bits.specs.CapSet.{is_within}
use Rattle.cap_bits.specs.FileCaps.{no_file_caps}
use Rattle.fs_path.specs.Name.{Name, is_name}
use Rattle.lab_lattice.specs.Label.{Label, label_cmp, bottom, dominates}
use Rattle.kern_model.specs.declared.limits.TheConstants.{MAX_DESCRIPTIONS, MAX_DESCRIPTORS, MAX_FILE_BYTES, MAX_GROUPS, MAX_LINKS, MAX_OBJECTS, MAX_PIPE_BYTES, MAX_PROCS}
use Rattle.kern_model.specs.declared.calls.Ending.{Ending}
use Rattle.kern_model.specs.declared.numbers.Pid.{Pid}
use Rattle.kern_model.specs.declared.numbers.Oid.{Oid}
use Rattle.kern_model.specs.declared.numbers.Did.{Did}
use Rattle.kern_model.specs.declared.objects.Kind.TheVariants as kind
use Rattle.kern_model.specs.declared.objects.Object.{Object}
use Rattle.kern_model.specs.Entries.{is_empty, is_removed, link_count}
use Rattle.kern_model.specs.Keys.{oid_cmp, Spot}
use Rattle.kern_model.specs.Kinds.{is_dir, is_file, is_stream, is_mode, is_permission}
use Rattle.kern_model.specs.Descriptors.{any_open}
use Rattle.kern_model.specs.State.{State, Process, Description, last_drawn, look, root}

-- something has the key
pub record IsThere {K X : Type 0} {R : K → K → Ordering} (table : FinMap R X) (k : K) : Type 0 where
  pub value : X
  pub is : map.get table k ≡ Some value

-- an object has the number, and is a directory
pub record IsDir (objects : FinMap oid_cmp Object) (id : Oid) : Type 0 where
  pub object : Object
  pub is : map.get objects id ≡ Some object
  pub dir : object.kind ≡ kind.Dir

-- a number that was drawn: from 1 on, and at most the last one
abbrev pub IsDrawn : ℕ → ℕ → Type 0
IsDrawn n last = (1 ≤ n) × (n ≤ last)

-- numbers are drawn at labels that top dominates alone, and no more at a label than there may be
pub record AreFew (top : Label) (numbers : FinMap label_cmp ℕ) (most : ℕ) : Type 0 where
  pub below : (l : Label) → 1 ≤ last_drawn numbers l → dominates top l ≡ true
  pub few : (l : Label) → last_drawn numbers l ≤ most

-- where names lead from a directory
abbrev pub leads : State → Oid → List Name → Option Oid
leads s dir [] = Some dir
leads s dir (name ∷ names) = option_and_then (λ next. leads s next names) (look s dir name)

-- names lead to it from the root
pub record IsReached (s : State) (id : Oid) : Type 0 where
  pub names : List Name
  pub lead : leads s root names ≡ Some id

-- ---- objects

-- an object of the state
pub record IsValidObject (s : State) (id : Oid) (o : Object) : Type 0 where
  pub below : dominates s.top o.label ≡ true
  pub drawn_already : IsDrawn id.n (last_drawn s.object_numbers id.label)
  pub mode : is_mode o.attr.mode ≡ true
  -- only a file has capabilities
  pub only_files : is_file o.kind ≡ false → o.attr.caps ≡ no_file_caps
  -- a directory has entries and no bytes
  pub dir_bytes : o.kind ≡ kind.Dir → o.bytes ≡ []
  pub file_bytes : o.kind ≡ kind.File → length o.bytes ≤ MAX_FILE_BYTES
  pub stream_bytes : is_stream o.kind ≡ true → length o.bytes ≤ MAX_PIPE_BYTES
  -- a FIFO without a description is empty
  pub fifo_bytes : o.kind ≡ kind.Fifo → any_open s (λ d. true) id ≡ false → o.bytes ≡ []
  pub few_names : is_dir o.kind ≡ false → link_count s id ≤ MAX_LINKS
  -- a directory is reached from the root, or is removed and empty
  pub reached : o.kind ≡ kind.Dir → IsReached s id ⊎ ((is_removed s id ≡ true) × (is_empty s id ≡ true))

-- the root is a directory of the bottom label
pub record IsRoot (objects : FinMap oid_cmp Object) : Type 0 where
  pub object : Object
  pub is : map.get objects root ≡ Some object
  pub root_dir : object.kind ≡ kind.Dir
  pub root_label : object.label ≡ bottom

-- an entry of the state: it stands in a directory, and leads to an object but the root or a pipe, whose label dominates the directory's
pub record IsValidEntry (s : State) (spot : Spot) (id : Oid) : Type 0 where
  pub name : is_name spot.1 ≡ true
  pub dir : Object
  pub dir_is : map.get s.objects spot.0 ≡ Some dir
  pub is_dir : dir.kind ≡ kind.Dir
  pub object : Object
  pub object_is : map.get s.objects id ≡ Some object
  pub no_root : id ≡ root → ⊥
  pub no_pipe : object.kind ≡ kind.Pipe → ⊥
  pub order : dominates object.label dir.label ≡ true

-- ---- processes

-- an ended child has a number that was drawn
pub record IsValidEnd (s : State) (e : Pid × Ending) : Type 0 where
  pub below : dominates s.top e.0.label ≡ true
  pub drawn_already : IsDrawn e.0.n (last_drawn s.process_numbers e.0.label)

-- a living process of the state
pub record IsValidProcess (s : State) (who : Pid) (p : Process) : Type 0 where
  pub below : dominates s.top p.label ≡ true
  pub drawn_already : IsDrawn who.n (last_drawn s.process_numbers who.label)
  -- what is effective is permitted
  pub within : is_within p.caps.e p.caps.p ≡ true
  pub umask : is_permission p.umask ≡ true
  pub few_groups : length p.ids.groups ≤ MAX_GROUPS
  pub cwd : IsDir s.objects p.cwd
  -- a parent is living
  pub parent : (q : Pid) → p.parent ≡ Some q → IsThere s.procs q
  pub ended : AllByRecursion (IsValidEnd s) p.ended
  -- descriptors are numbers below the limit, and each stands for a description
  pub fds : (fd : ℕ) (did : Did) → map.get p.fds fd ≡ Some did → (fd < MAX_DESCRIPTORS) × IsThere s.descriptions did

-- a process has a descriptor on it
pub record IsHeld (s : State) (did : Did) : Type 0 where
  pub who : Pid
  pub process : Process
  pub fd : ℕ
  pub process_is : map.get s.procs who ≡ Some process
  pub fd_is : map.get process.fds fd ≡ Some did

-- an open description of the state: it is held by a descriptor, and is of a file, a FIFO or a pipe
pub record IsValidDescription (s : State) (did : Did) (d : Description) : Type 0 where
  pub drawn_already : IsDrawn did.n (last_drawn s.description_numbers did.label)
  pub object : Object
  pub object_is : map.get s.objects d.object ≡ Some object
  pub no_dir : object.kind ≡ kind.Dir → ⊥
  pub held : IsHeld s did

-- ---- the state

pub record IsValid (s : State) : Type 0 where
  pub root_is : IsRoot s.objects
  pub objects : (id : Oid) (o : Object) → map.get s.objects id ≡ Some o → IsValidObject s id o
  pub entries : (spot : Spot) (id : Oid) → map.get s.entries spot ≡ Some id → IsValidEntry s spot id
  -- one entry alone leads to a directory
  pub one_entry : (a b : Spot) (id : Oid) (o : Object) → map.get s.entries a ≡ Some id → map.get s.entries b ≡ Some id → map.get s.objects id ≡ Some o → o.kind ≡ kind.Dir → a ≡ b
  pub procs : (who : Pid) (p : Process) → map.get s.procs who ≡ Some p → IsValidProcess s who p
  pub descriptions : (did : Did) (d : Description) → map.get s.descriptions did ≡ Some d → IsValidDescription s did d
  pub object_numbers : AreFew s.top s.object_numbers MAX_OBJECTS
  pub process_numbers : AreFew s.top s.process_numbers MAX_PROCS
  pub description_numbers : AreFew s.top s.description_numbers MAX_DESCRIPTIONS
