-- The kinds of checks and of effects that the rows of the call table have. A kind holds what the row says, and nothing that only a valid state says.
use Rattle.std.specs.Prelude.{◌≡◌, ◌⊎◌, ℕ, ◌+◌, ◌/◌, ◌%◌, ◌==◌, ◌≤◌, ◌&&◌, ◌||◌, ◌++◌, not, nat_le, nat_lt, Bool, true, false, List, [], ◌∷◌, length, drop, Option, Some, None}
use Rattle.std.proofs.Common.{ap, arith}
use Rattle.std.proofs.lemmas.Bool.{and_from, le-leb}
use Rattle.std.proofs.lemmas.Nat.{and_le_l, and_le_r}
use Rattle.std.specs.Int.{bit_not, w16}
use Rattle.std.specs.FinMap as map
use Rattle.cap_bits.specs.declared.state.CapState.{CapState}
use Rattle.cap_bits.specs.FileCaps.{caps_by, is_uniform, shown}
use Rattle.fs_path.specs.Name.{Name, is_name}
use Rattle.fs_path.specs.declared.values.TheConstants.{MAX_MODE, STICKY}
use Rattle.lab_lattice.specs.Label.{Label, dominates}
use Rattle.kern_model.specs.declared.calls.Call.{Call}
use Rattle.kern_model.specs.declared.calls.Ending.{Ending}
use Rattle.kern_model.specs.declared.calls.OpenFlags.{OpenFlags}
use Rattle.kern_model.specs.declared.checks.Check.{Check}
use Rattle.kern_model.specs.declared.checks.CheckName.{CheckName}
use Rattle.kern_model.specs.declared.checks.Place.{Place}
use Rattle.kern_model.specs.declared.checks.Place.TheVariants.{Handle, Target}
use Rattle.kern_model.specs.declared.limits.TheConstants.{MAX_FILE_BYTES, MAX_LINKS, MAX_PERMISSIONS, MAX_PIPE_BYTES, MAX_PROCS}
use Rattle.kern_model.specs.declared.numbers.Ids.{Ids}
use Rattle.kern_model.specs.declared.numbers.Oid.{Oid}
use Rattle.kern_model.specs.declared.numbers.Pid.{Pid}
use Rattle.kern_model.specs.declared.objects.Attr.{Attr}
use Rattle.kern_model.specs.declared.objects.Object.{Object}
use Rattle.kern_model.specs.declared.records.Rec.{Rec}
use Rattle.kern_model.specs.declared.records.Rec.TheVariants as rec
use Rattle.kern_model.specs.AttrRows.{with_attr}
use Rattle.kern_model.specs.Arguments.{are_flags, has_names, is_call}
use Rattle.kern_model.specs.Create.{creation, has_object_number}
use Rattle.kern_model.specs.Descriptors.{Opened, changes_of_close, with_descriptor}
use Rattle.kern_model.specs.Entries.{is_empty, is_removed, is_under, link_count}
use Rattle.kern_model.specs.Exec.{exec_caps, exec_ids}
use Rattle.kern_model.specs.FileRows.{open_object, description_creation, offset_change, with_bytes, content_change, pipe_creation, place_in, written_over, has_free_descriptors, has_descriptions}
use Rattle.kern_model.specs.Keys.{same_oid}
use Rattle.kern_model.specs.Kinds.{is_dir, is_file, is_fifo, is_mode, is_permission, is_stream, masked_permissions, permissions}
use Rattle.kern_model.specs.ProcessRows.{child_of, ending_of}
use Rattle.kern_model.specs.Row.{Row}
use Rattle.kern_model.specs.Rules.{created_order, on_object, on_process, on_caller, same_label, mac_read, mac_write, mac_write_process, mac_change_of, mac_subject, relabelled_order, held_order, link_dir, unlink_dir, cap_grow}
use Rattle.kern_model.specs.State.{State, Process, Change, SetObject, SetProcess, SetEntry, DropEntry, DrawProcess, last_drawn, next_object, next_process, object_at, look}
use Rattle.iso_laws.proofs.PlayableCalls.{has_flags}
use Rattle.iso_laws.proofs.Along.{Along, WalksTo, Reaches}
use Rattle.iso_laws.proofs.PartReads.{IsOpen}
use Rattle.iso_laws.proofs.files.Closed.{has_fd, without_fd}
use Rattle.iso_laws.proofs.tree.Changes.{IsFresh}

-- ---- premises
-- what may be given of the arguments of a call: they are in their ranges, what an entry may be named by is a name, and flags are as they may be
pub data Premise : Type 0 where
  InRange : Premise
  HasNames : Premise
  HasFlags : Premise

abbrev pub PremiseHolds : State → Call → Premise → Type 0
PremiseHolds s c InRange = is_call s.top c ≡ true
PremiseHolds s c HasNames = has_names c ≡ true
PremiseHolds s c HasFlags = has_flags c ≡ true

-- ---- checks
-- a label that a check gives is below the highest one
abbrev pub NewBelow : (Premise → Type 0) → State → Option Label → Type 0
NewBelow Given s new = (l : Label) → new ≡ Some l → Given InRange → dominates s.top l ≡ true

-- the checks: of an object that the caller reaches, of the caller, of a number of a process, of a living process
pub data CheckKind (Given : Premise → Type 0) (s : State) (who : Pid) (p : Process) : Check → Type 0 where
  OfObject : (name : CheckName) (holds : Bool) (new : Option Label) (id : Oid) (place : Place) → Reaches s p id → NewBelow Given s new
      → CheckKind Given s who p (on_object s name holds new id place)
  OfCaller : (name : CheckName) (holds : Bool) (new : Option Label) → NewBelow Given s new → CheckKind Given s who p (on_caller name holds new who p)
  OfNumber : (name : CheckName) (holds : Bool) (target : Pid) → (Given InRange → dominates s.top target.label ≡ true)
      → CheckKind Given s who p (on_process name holds None target target.label Target)
  OfLiving : (name : CheckName) (holds : Bool) (target : Pid) (t : Process) → map.get s.procs target ≡ Some t
      → CheckKind Given s who p (on_process name holds None target t.label Target)

-- ---- effects
-- `Known` and `Not` mean what they mean along a row, and `Given` which premises are given.
module _ (Known : Check → Type 0) (Not : Bool → Type 0) (Given : Premise → Type 0) (s : State) (who : Pid) (p : Process) where
  -- an object is made, where nothing has the name, in a directory that is written and not removed
  pub record Creates (dir : Oid) (name : Name) (o : Object) (place : Place) : Type 0 where
    pub walked : WalksTo s p dir
    pub dir_kind : Not (not (is_dir (object_at s dir).kind))
    pub free : look s dir name ≡ None
    pub written : Known (mac_write s p dir place)
    pub order : Known (created_order s p dir place)
    pub not_removed : Not (is_removed s dir)
    pub left : Not (not (has_object_number s p.label))
    pub fresh : IsFresh p o
    pub named : Given HasNames → is_name name ≡ true

  -- a descriptor and a number of a description are left
  pub record Room : Type 0 where
    pub descriptor : Not (not (has_free_descriptors p 1))
    pub number : Not (not (has_descriptions s p 1))

  -- an object is opened that a walk led to
  pub record Opens (id : Oid) (flags : OpenFlags) (place : Place) : Type 0 where
    pub walked : WalksTo s p id
    pub no_dir : Not (is_dir (object_at s id).kind)
    pub flags_are : Given HasFlags → are_flags flags ≡ true
    pub read : flags.r ≡ true → Known (mac_read s p id place)
    pub written : flags.w ≡ true → Known (mac_write s p id place)
    pub fifo : (is_fifo (object_at s id).kind && flags.r) ≡ true → Known (mac_write s p id place)
    pub room : Room

  -- an entry leaves a directory that is written
  pub record RemovesEntry (dir : Oid) (name : Name) (id : Oid) (place : Place) : Type 0 where
    pub walked : WalksTo s p dir
    pub dir_kind : Not (not (is_dir (object_at s dir).kind))
    pub at : look s dir name ≡ Some id
    pub written : Known (mac_write s p dir place)

  -- an entry of an object comes into a directory that is written and not removed
  pub record AddsEntry (into : Oid) (id : Oid) (place : Place) : Type 0 where
    pub walked : WalksTo s p into
    pub dir_kind : Not (not (is_dir (object_at s into).kind))
    pub written : Known (mac_write s p into place)
    pub order : Known (held_order s id into place)
    pub not_removed : Not (is_removed s into)

  -- an object gets another label, that it may get
  pub record Relabels (id : Oid) (new : Label) (place : Place) : Type 0 where
    pub allowed : Known (mac_change_of new id (object_at s id) place)
    pub order : Known (relabelled_order s id new place)
    pub no_entries : Not (is_dir (object_at s id).kind && not (is_empty s id))

  pub data Effect : List Change → Option Rec → Type 0 where
    -- nothing changes
    NoChange : Effect [] None
    -- a note is left
    Note : (bytes : List ℕ) → Effect [] (Some (rec.Note who bytes))
    -- the caller gets other users or groups, another umask or audit switch
    SetIds : (ids : Ids) → ids.groups ≡ p.ids.groups → Effect (SetProcess who (record p { ids = ids }) ∷ []) None
    SetUmask : (mode : ℕ) → (Given InRange → is_permission mode ≡ true) → Effect (SetProcess who (record p { umask = mode }) ∷ []) None
    SetSwitch : (on : Bool) → Effect (SetProcess who (record p { audited = on }) ∷ []) (Some (rec.Switch who on))
    -- the caller gets other capability sets, or those and the users and groups that a program gives
    SetCaps : (caps : CapState) → Known (cap_grow who p caps) → Effect (SetProcess who (record p { caps = caps }) ∷ []) (Some (rec.CapSetProc who caps))
    Execute : (id : Oid) → WalksTo s p id
        → Effect (SetProcess who (record p { ids = exec_ids p.ids (object_at s id).attr; caps = exec_caps p.caps (shown (object_at s id).attr.caps) s.bound }) ∷ [])
        (Some (rec.Exec who id (shown (object_at s id).attr.caps) (exec_caps p.caps (shown (object_at s id).attr.caps) s.bound)))
    -- the caller gets another label
    SetLabel : (new : Label) → (not (same_label new p.label) ≡ true → Known (mac_subject who p new)) → (Given InRange → dominates s.top new ≡ true)
        → Effect (SetProcess who (record p { label = new }) ∷ []) (Some (rec.MacSetProc who p.label new))
    -- the caller gets another current directory
    ChangeDir : (id : Oid) (place : Place) → WalksTo s p id → Known (mac_read s p id place) → Not (not (is_dir (object_at s id).kind))
        → Effect (SetProcess who (record p { cwd = id }) ∷ []) None
    -- an entry of a directory without entries is removed, or one of another object
    RemoveEmpty : (dir : Oid) (name : Name) (id : Oid) (place : Place) → RemovesEntry dir name id place → Not (not (is_empty s id))
        → Effect (DropEntry (dir, name) ∷ []) None
    RemoveFile : (dir : Oid) (name : Name) (id : Oid) (place last : Place) → RemovesEntry dir name id place → Known (unlink_dir s id last)
        → Effect (DropEntry (dir, name) ∷ []) None
    -- an object gets one more entry
    Link : (dir : Oid) (name : Name) (id : Oid) (place from : Place) → WalksTo s p id → AddsEntry dir id place → look s dir name ≡ None
        → Known (link_dir s id from) → Not (nat_le MAX_LINKS (link_count s id)) → (Given HasNames → is_name name ≡ true)
        → Effect (SetEntry (dir, name) id ∷ []) None
    -- an entry moves, and what stands at the target is another object without entries
    Move : (dir : Oid) (name : Name) (id into : Oid) (new : Name) (place there : Place) → RemovesEntry dir name id place → AddsEntry into id there
        → Not (is_dir (object_at s id).kind && is_under s into id)
        → ((t : Oid) → look s into new ≡ Some t → (same_oid t id ≡ false) × Not (is_dir (object_at s t).kind && not (is_empty s t)))
        → (Given HasNames → is_name new ≡ true)
        → Effect (DropEntry (dir, name) ∷ SetEntry (into, new) id ∷ []) None
    -- an object is made
    Create : (dir : Oid) (name : Name) (o : Object) (place : Place) → Creates dir name o place → Effect (creation s p.label dir name o) None
    -- a descriptor is shared, moves, or closes
    Duplicate : (fd : ℕ) (f : Opened) → IsOpen s p fd f → Not (not (has_free_descriptors p 1)) → Effect (SetProcess who (with_descriptor p f.did) ∷ []) None
    Seek : (fd : ℕ) (f : Opened) (offset : ℕ) → IsOpen s p fd f → Effect (offset_change f offset ∷ []) None
    Close : (fd : ℕ) → Effect (SetProcess who (without_fd p fd) ∷ changes_of_close s (has_fd who fd)) None
    -- bytes come out of a pipe or FIFO, or go into one
    ReadStream : (fd : ℕ) (f : Opened) (n : ℕ) → IsOpen s p fd f → Known (mac_write s p f.description.object Handle) → is_stream (open_object s f).kind ≡ true
        → Effect (with_bytes s f.description.object (drop n (open_object s f).bytes) ∷ []) None
    WriteStream : (fd : ℕ) (f : Opened) (bytes : List ℕ) → IsOpen s p fd f → Known (mac_write s p f.description.object Handle) → is_stream (open_object s f).kind ≡ true
        → Not (nat_lt MAX_PIPE_BYTES (length (open_object s f).bytes + length bytes))
        → Effect (with_bytes s f.description.object ((open_object s f).bytes ++ bytes) ∷ []) None
    -- bytes go into a file, whose mode stays one
    WriteFile : (fd : ℕ) (f : Opened) (attr : Attr) (bytes : List ℕ) (offset : ℕ) → IsOpen s p fd f → Known (mac_write s p f.description.object Handle)
        → is_stream (open_object s f).kind ≡ false
        → Not (nat_lt (length (open_object s f).bytes) (place_in (open_object s f) f))
        → Not (nat_lt MAX_FILE_BYTES (place_in (open_object s f) f + length bytes)) → (is_mode (open_object s f).attr.mode ≡ true → is_mode attr.mode ≡ true)
        → Effect
        (content_change f.description.object (open_object s f) (written_over (open_object s f).bytes (place_in (open_object s f) f) bytes) attr ∷ offset_change f offset ∷ [])
        None
    -- an object is opened, emptied and opened, or made and opened
    Open : (id : Oid) (flags : OpenFlags) (place : Place) → Opens id flags place → Effect (description_creation s who p id flags) None
    OpenEmptied : (id : Oid) (flags : OpenFlags) (place : Place) (attr : Attr) → Opens id flags place → (flags.t && is_file (object_at s id).kind) ≡ true
        → (is_mode (object_at s id).attr.mode ≡ true → is_mode attr.mode ≡ true)
        → Effect (content_change id (object_at s id) [] attr ∷ description_creation s who p id flags) None
    OpenMade : (dir : Oid) (name : Name) (o : Object) (place : Place) (flags : OpenFlags) → Creates dir name o place → is_file o.kind ≡ true → Room
        → Effect (creation s p.label dir name o ++ description_creation s who p (next_object s p.label) flags) None
    -- a pipe is made and opened at both ends
    MakePipe : Not (not (has_object_number s p.label)) → Not (not (has_free_descriptors p 2)) → Not (not (has_descriptions s p 2)) → Effect (pipe_creation s who p) None
    -- an object gets other attributes, but no other capability sets
    SetAttr : (id : Oid) (attr : Attr) (place : Place) → Reaches s p id → Known (mac_write s p id place)
        → (is_mode (object_at s id).attr.mode ≡ true → Given InRange → is_mode attr.mode ≡ true) → attr.caps ≡ (object_at s id).attr.caps
        → Effect (with_attr id (object_at s id) attr ∷ []) None
    -- a file gets capability sets
    SetFileCaps : (id : Oid) (caps : CapState) (place : Place) → Reaches s p id → Known (mac_write s p id place)
        → Not (not (is_file (object_at s id).kind) || not (is_uniform caps))
        → Effect (with_attr id (object_at s id) (record (object_at s id).attr { caps = caps_by caps }) ∷ []) (Some (rec.CapSetFile who id caps))
    -- an object gets the label that it has, or another one
    KeepLabel : (id : Oid) (new : Label) (place : Place) → Reaches s p id → Known (mac_write s p id place) → same_label new (object_at s id).label ≡ true
        → (Given InRange → dominates s.top new ≡ true)
        → Effect (SetObject id (record (object_at s id) { label = new }) ∷ []) (Some (rec.MacSetFile who id (object_at s id).label new))
    Relabel : (id : Oid) (new : Label) (place : Place) → Reaches s p id → Known (mac_write s p id place) → Relabels id new place
        → (Given InRange → dominates s.top new ≡ true)
        → Effect (SetObject id (record (object_at s id) { label = new }) ∷ []) (Some (rec.MacSetFile who id (object_at s id).label new))
    -- the caller forks, or has awaited the first of its children that ended
    MakeChild : Not (nat_le MAX_PROCS (last_drawn s.process_numbers p.label))
        → Effect (DrawProcess p.label (last_drawn s.process_numbers p.label + 1) ∷ SetProcess (next_process s p.label) (child_of who p) ∷ [])
        (Some (rec.Fork who (next_process s p.label)))
    Await : (e : Pid × Ending) (es : List (Pid × Ending)) → p.ended ≡ e ∷ es → Effect (SetProcess who (record p { ended = es }) ∷ []) None
    -- a process ends: the caller, or one that it may end
    EndProcess : (q : Pid) (x : Process) (how : Ending) → map.get s.procs q ≡ Some x → (q ≡ who) ⊎ Known (mac_write_process p q q.label)
        → Effect (ending_of s q x how) (Some (rec.Exit q how))

  -- the checks of a row, and its effects at each of its ends, are of the kinds
  abbrev pub OfKinds : Row → Type 0
  OfKinds r = Along Known Not (CheckKind Given s who p) Effect r

-- ---- what the rows share
-- a check of what is reached, or of the caller, that gives no label
module _ {Given : Premise → Type 0} {s : State} {who : Pid} {p : Process} (name : CheckName) (holds : Bool) where
  pub of_reached : (id : Oid) (place : Place) → Reaches s p id → CheckKind Given s who p (on_object s name holds None id place)
  of_reached id place reached = OfObject name holds None id place reached (λ l none. cc)

  pub of_caller : CheckKind Given s who p (on_caller name holds None who p)
  of_caller = OfCaller name holds None (λ l none. cc)

-- permission bits are a mode
pub small_is_mode : (m : ℕ) → m ≤ MAX_PERMISSIONS → is_mode m ≡ true
small_is_mode m small =
    let none : m / STICKY ≡ 0 = omega (arith, small) in
    and_from (nat_le m MAX_MODE) ((m / STICKY) % 2 == 0) (le-leb m MAX_MODE (omega (arith, small))) (ap (λ n. n % 2 == 0) none)

pub permissions_are_mode : (mode : ℕ) → is_mode (permissions mode) ≡ true
permissions_are_mode mode = small_is_mode (permissions mode) (and_le_r mode MAX_PERMISSIONS)

pub masked_is_mode : (mode umask : ℕ) → is_mode (masked_permissions mode umask) ≡ true
masked_is_mode mode umask = small_is_mode (masked_permissions mode umask) (omega (arith, and_le_l (permissions mode) (bit_not w16 umask), and_le_r mode MAX_PERMISSIONS))
