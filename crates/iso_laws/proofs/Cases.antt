-- Properties of the changes of a row: one holds of each row where it holds of each kind of effect.
use Rattle.std.specs.Prelude.{◌≡◌, ◌⊎◌, ℕ, ◌+◌, ◌<◌, ◌≤◌, ◌&&◌, ◌||◌, ◌++◌, length, Bool, true, false, not, List, [], ◌∷◌, None, Some, cond}
use Rattle.std.specs.FinMap as map
use Rattle.cap_bits.specs.CapSet.{is_within}
use Rattle.cap_bits.specs.FileCaps.{no_file_caps}
use Rattle.cap_bits.specs.declared.state.CapState.{CapState}
use Rattle.fs_path.specs.Name.{Name, is_name}
use Rattle.lab_lattice.specs.Label.{Label, dominates}
use Rattle.kern_model.specs.declared.calls.Ending.{Ending}
use Rattle.kern_model.specs.declared.calls.OpenFlags.{OpenFlags}
use Rattle.kern_model.specs.declared.limits.TheConstants.{MAX_DESCRIPTIONS, MAX_DESCRIPTORS, MAX_FILE_BYTES, MAX_LINKS, MAX_PIPE_BYTES, MAX_PROCS}
use Rattle.kern_model.specs.declared.numbers.Ids.{Ids}
use Rattle.kern_model.specs.declared.numbers.Oid.{Oid}
use Rattle.kern_model.specs.declared.numbers.Pid.{Pid}
use Rattle.kern_model.specs.declared.checks.Place.{Place}
use Rattle.kern_model.specs.declared.checks.Place.TheVariants.{Handle}
use Rattle.kern_model.specs.declared.objects.Attr.{Attr}
use Rattle.kern_model.specs.declared.objects.Kind.TheVariants as kind
use Rattle.kern_model.specs.declared.objects.Object.{Object}
use Rattle.kern_model.specs.declared.records.Rec.{Rec}
use Rattle.kern_model.specs.Create.{creation, has_object_number}
use Rattle.kern_model.specs.Descriptors.{Opened, changes_of_close, open_count, with_descriptor}
use Rattle.kern_model.specs.FileRows.{open_object, description_creation, offset_change, with_bytes, pipe_creation, content_change}
use Rattle.kern_model.specs.Keys.{same_oid}
use Rattle.kern_model.specs.Entries.{is_empty, is_removed, link_count}
use Rattle.kern_model.specs.Kinds.{is_dir as dir_kind, is_file, is_fifo, is_mode, is_permission, is_stream}
use Rattle.kern_model.specs.ProcessRows.{child_of, ending_of}
use Rattle.kern_model.specs.Rules.{same_label, is_above_holders, mac_downgrade, mac_read, mac_subject, mac_upgrade, mac_write, mac_write_process}
use Rattle.kern_model.specs.State.{State, Process, Change, SetObject, SetProcess, SetEntry, DropEntry, DrawProcess, last_drawn, next_object, next_process, object_at, look, root}
use Rattle.kern_model.specs.Step.{subject}
use Rattle.kern_model.specs.Valid.{IsDir}
use Rattle.iso_laws.proofs.Rows.{Passes}
use Rattle.iso_laws.proofs.PartReads.{IsPathTarget, IsOpen}
use Rattle.iso_laws.proofs.files.Closed.{has_fd, without_fd}
use Rattle.iso_laws.proofs.tree.Changes.{IsFresh}
use Rattle.iso_laws.proofs.tree.Moves.{IsMove}

-- an object may be made, where none was, in a directory whose mac_write passed and that is not removed
pub record MayCreate (excluded : Rec → Bool) (s : State) (who : Pid) (p : Process) (ArgsValid : Type 0) (dir : Oid) (name : Name) (o : Object)
    (place : Place) : Type 0 where
  pub written : Passes excluded (subject who p) (mac_write s p dir place)
  pub is_dir : IsDir s.objects dir
  pub free : look s dir name ≡ None
  pub not_removed : is_removed s dir ≡ false
  pub fresh : IsFresh p o
  pub left : has_object_number s p.label ≡ true
  pub order : dominates p.label is_dir.object.label ≡ true
  pub named : ArgsValid → is_name name ≡ true

-- a descriptor and a number of a description are left
pub record HasRoom (s : State) (p : Process) : Type 0 where
  pub descriptor : open_count p + 1 ≤ MAX_DESCRIPTORS
  pub number : last_drawn s.description_numbers p.label + 1 ≤ MAX_DESCRIPTIONS

-- an object may be opened: it is no directory, flags ask to read or to write it, and the checks on labels passed that they ask for
pub record MayOpen (excluded : Rec → Bool) (s : State) (who : Pid) (p : Process) (id : Oid) (flags : OpenFlags) (place : Place) : Type 0 where
  pub target : IsPathTarget s id
  pub no_dir : dir_kind target.object.kind ≡ false
  pub asked : (flags.r || flags.w) ≡ true
  pub read : flags.r ≡ true → Passes excluded (subject who p) (mac_read s p id place)
  pub written : flags.w ≡ true → Passes excluded (subject who p) (mac_write s p id place)
  -- who reads a FIFO takes bytes out of it
  pub fifo : (is_fifo target.object.kind && flags.r) ≡ true → Passes excluded (subject who p) (mac_write s p id place)
  pub room : HasRoom s p

-- an object may get a label: a check allowed it, and it keeps the order of labels
pub record MayRelabel (excluded : Rec → Bool) (s : State) (who : Pid) (p : Process) (id : Oid) (o : Object) (new : Label) (place : Place) : Type 0 where
  pub allowed : Passes excluded (subject who p) (cond (dominates new o.label) (mac_upgrade s id new place) (mac_downgrade s id new place))
  pub above : is_above_holders s id new ≡ true
  pub no_root : same_oid id root ≡ false
  pub no_entries : is_empty s id ≡ true

-- a property holds of each kind of effect; where the arguments are in their ranges, so is what the effect sets
pub record EffectCases (excluded : Rec → Bool) (s : State) (who : Pid) (p : Process) (ArgsValid : Type 0) (P : List Change → Type 0) : Type 0 where
  pub none : P []
  -- the caller gets other ids, capability sets, umask or audit switch
  pub set_caller : (ids : Ids) (caps : CapState) (umask : ℕ) (audited : Bool) → ids.groups ≡ p.ids.groups → is_within caps.e caps.p ≡ true
      → (ArgsValid → is_permission umask ≡ true)
      → P (SetProcess who (record p { ids = ids; caps = caps; umask = umask; audited = audited }) ∷ [])
  -- the caller gets another label, which a check allowed
  pub label : (new : Label) → (not (same_label new p.label) ≡ true → Passes excluded (subject who p) (mac_subject who p new)) → (ArgsValid → dominates s.top new ≡ true)
      → P (SetProcess who (record p { label = new }) ∷ [])
  -- the caller gets another current directory, whose mac_read passed
  pub cwd : (id : Oid) (place : Place) → Passes excluded (subject who p) (mac_read s p id place) → IsDir s.objects id
      → P (SetProcess who (record p { cwd = id }) ∷ [])
  -- an entry is removed from a directory whose mac_write passed; what it leads to has no entries
  pub remove_entry : (dir : Oid) (name : Name) (id : Oid) (place : Place) → Passes excluded (subject who p) (mac_write s p dir place) → IsDir s.objects dir
      → look s dir name ≡ Some id → is_empty s id ≡ true → P (DropEntry (dir, name) ∷ [])
  -- an entry of a file is added, where none was, to a directory whose mac_write passed and that is not removed
  pub add_entry : (dir : Oid) (name : Name) (id : Oid) (place : Place) → Passes excluded (subject who p) (mac_write s p dir place) → (is_dir : IsDir s.objects dir)
      → look s dir name ≡ None → is_removed s dir ≡ false
      → (named : IsPathTarget s id) → not (dir_kind named.object.kind) ≡ true → link_count s id + 1 ≤ MAX_LINKS
      → dominates named.object.label is_dir.object.label ≡ true → (ArgsValid → is_name name ≡ true) → P (SetEntry (dir, name) id ∷ [])
  -- an entry moves to a spot of a directory, and the mac_write of both directories passed
  pub move : (dir : Oid) (name : Name) (id into : Oid) (new : Name) (place there_place : Place) → Passes excluded (subject who p) (mac_write s p dir place)
      → IsDir s.objects dir → Passes excluded (subject who p) (mac_write s p into there_place)
      → IsMove s dir name id into new → (ArgsValid → is_name new ≡ true) → P (DropEntry (dir, name) ∷ SetEntry (into, new) id ∷ [])
  -- an object is made
  pub create : (dir : Oid) (name : Name) (o : Object) (place : Place) → MayCreate excluded s who p ArgsValid dir name o place → P (creation s p.label dir name o)
  -- the caller gets a further descriptor, of what another one refers to
  pub duplicate : (fd : ℕ) (f : Opened) → IsOpen s p fd f → open_count p + 1 ≤ MAX_DESCRIPTORS → P (SetProcess who (with_descriptor p f.did) ∷ [])
  -- a descriptor of the caller gets another offset
  pub seek : (fd : ℕ) (f : Opened) (offset : ℕ) → IsOpen s p fd f → P (offset_change f offset ∷ [])
  -- a pipe or FIFO of a descriptor, whose mac_write passed, gets other bytes
  pub write_stream : (fd : ℕ) (f : Opened) (bytes : List ℕ) → IsOpen s p fd f → Passes excluded (subject who p) (mac_write s p f.description.object Handle)
      → is_stream (open_object s f).kind ≡ true → length bytes ≤ MAX_PIPE_BYTES → P (with_bytes s f.description.object bytes ∷ [])
  -- a file of a descriptor, whose mac_write passed, gets other bytes and attributes, and the descriptor another offset
  pub write_file : (fd : ℕ) (f : Opened) (attr : Attr) (bytes : List ℕ) (offset : ℕ) → IsOpen s p fd f
      → Passes excluded (subject who p) (mac_write s p f.description.object Handle) → (open_object s f).kind ≡ kind.File → is_mode attr.mode ≡ true
      → length bytes ≤ MAX_FILE_BYTES
      → P (content_change f.description.object (open_object s f) bytes attr ∷ offset_change f offset ∷ [])
  -- an object is opened
  pub open_existing : (id : Oid) (flags : OpenFlags) (place : Place) → MayOpen excluded s who p id flags place → P (description_creation s who p id flags)
  -- a file that may be written loses its bytes, gets other attributes, and is opened
  pub open_emptied : (id : Oid) (flags : OpenFlags) (place : Place) (attr : Attr) → (may : MayOpen excluded s who p id flags place) → flags.w ≡ true
      → may.target.object.kind ≡ kind.File → is_mode attr.mode ≡ true
      → P (content_change id (object_at s id) [] attr ∷ description_creation s who p id flags)
  -- a file is made and opened
  pub open_made : (dir : Oid) (name : Name) (o : Object) (place : Place) (flags : OpenFlags) → MayCreate excluded s who p ArgsValid dir name o place → o.kind ≡ kind.File
      → HasRoom s p → P (creation s p.label dir name o ++ description_creation s who p (next_object s p.label) flags)
  -- a pipe is made and opened at both ends
  pub pipe : has_object_number s p.label ≡ true → open_count p + 2 ≤ MAX_DESCRIPTORS → last_drawn s.description_numbers p.label + 2 ≤ MAX_DESCRIPTIONS → P (pipe_creation s who p)
  -- a descriptor of the caller closes
  pub close : (fd : ℕ) → P (SetProcess who (without_fd p fd) ∷ changes_of_close s (has_fd who fd))
  -- an object whose mac_write passed gets other attributes
  pub attributes : (id : Oid) (o : Object) (attr : Attr) (place : Place) → map.get s.objects id ≡ Some o → Passes excluded (subject who p) (mac_write s p id place)
      → (ArgsValid → is_mode attr.mode ≡ true) → (is_file o.kind ≡ false → attr.caps ≡ no_file_caps)
      → P (SetObject id (record o { attr = attr }) ∷ [])
  -- an object whose mac_write passed gets another label, which a check allowed
  pub relabel : (id : Oid) (o : Object) (new : Label) (place : Place) → map.get s.objects id ≡ Some o → Passes excluded (subject who p) (mac_write s p id place)
      → MayRelabel excluded s who p id o new place → (ArgsValid → dominates s.top new ≡ true)
      → P (SetObject id (record o { label = new }) ∷ [])
  -- the caller forks
  pub fork : last_drawn s.process_numbers p.label < MAX_PROCS
      → P (DrawProcess p.label (last_drawn s.process_numbers p.label + 1) ∷ SetProcess (next_process s p.label) (child_of who p) ∷ [])
  -- the caller has awaited the first of its children that ended
  pub await : (e : Pid × Ending) (es : List (Pid × Ending)) → p.ended ≡ e ∷ es → P (SetProcess who (record p { ended = es }) ∷ [])
  -- a process ends: the caller, or one whose mac_write passed
  pub end_process : (q : Pid) (x : Process) (how : Ending) → map.get s.procs q ≡ Some x → (q ≡ who) ⊎ Passes excluded (subject who p) (mac_write_process p q q.label)
      → P (ending_of s q x how)
