-- What each kind of effect and of check satisfies: numbers are drawn in order, labels are below the highest one, and records give the capability sets.
use Rattle.std.specs.Prelude.{◌≡◌, ⊤, ℕ, ◌+◌, ◌≤◌, Bool, true, List, [], Option, Some, None, refl}
use Rattle.std.specs.List.{AllByRecursion}
use Rattle.std.specs.Option.{option_to_list}
use Rattle.std.proofs.Common.{arith, sym, ap, inl, inr}
use Rattle.std.specs.FinMap as map
use Rattle.std.specs.FinMap.{FinMap}
use Rattle.cap_bits.specs.declared.state.CapState.{CapState}
use Rattle.cap_bits.specs.FileCaps.{shown}
use Rattle.fs_path.specs.Name.{Name}
use Rattle.lab_lattice.specs.Label.{Label, label_cmp, dominates}
use Rattle.kern_model.specs.declared.calls.Ending.{Ending}
use Rattle.kern_model.specs.declared.calls.OpenFlags.{OpenFlags}
use Rattle.kern_model.specs.declared.checks.Check.{Check}
use Rattle.kern_model.specs.declared.numbers.Oid.{Oid}
use Rattle.kern_model.specs.declared.numbers.Pid.{Pid}
use Rattle.kern_model.specs.declared.objects.Object.{Object}
use Rattle.kern_model.specs.declared.records.Rec.{Rec}
use Rattle.kern_model.specs.declared.records.Rec.TheVariants as rec
use Rattle.kern_model.specs.Create.{creation}
use Rattle.kern_model.specs.Descriptors.{Opened, changes_of_close}
use Rattle.kern_model.specs.Drawing.{IsDrawnBetween}
use Rattle.kern_model.specs.Exec.{exec_caps, exec_ids}
use Rattle.kern_model.specs.FileRows.{description_creation}
use Rattle.kern_model.specs.Lineage.{caps_after}
use Rattle.kern_model.specs.ProcessRows.{child_of, ending_of}
use Rattle.kern_model.specs.State.{State, Process, Change, SetObject, DrawProcess, apply_change, apply_changes, last_drawn, object_at, next_object, next_process}
use Rattle.kern_model.specs.Valid.{IsValid, IsThere}
use Rattle.kern_model.proofs.KeyLaws.{oid_cmp_total}
use Rattle.kern_model.proofs.MapLemmas.{get-insert_same}
use Rattle.iso_laws.proofs.Along.{WalksTo, ToRoot, ToCurrent, ToEntry, Reaches, ByWalk, ByDescriptor}
use Rattle.iso_laws.proofs.BelowRows.{CheckBelow, OwnBelow, NumberBelow, leads_below, object_below, process_below}
use Rattle.iso_laws.proofs.CapsLemmas.{HaveCaps, have_same, have_set, LeavesCaps, have_over_all}
use Rattle.iso_laws.proofs.ClosingLemmas.{each_closing, each_ending}
use Rattle.iso_laws.proofs.DrawingLemmas.{LeadsTo, IsPresent, AreNumbered, IsNumberedAnywhere, entries_from-append, numbered_anywhere, drawn_since}
use Rattle.iso_laws.proofs.Effects.{Premise, InRange, CheckKind, OfObject, OfCaller, OfNumber, OfLiving, Effect, NoChange, Note, SetIds, SetUmask, SetSwitch, SetCaps, Execute, SetLabel, ChangeDir, RemoveEmpty, RemoveFile, Link, Move, Create, Duplicate, Seek, Close, ReadStream, WriteStream, WriteFile, Open, OpenEmptied, OpenMade, MakePipe, SetAttr, SetFileCaps, KeepLabel, Relabel, MakeChild, Await, EndProcess}
use Rattle.iso_laws.proofs.PartReads.{IsPathTarget, IsOpen, entry_target, dir_target}

-- ---- what is reached
module _ (There : Oid → Type 0) (s : State) (leads : LeadsTo There s) (who : Pid) (p : Process) (is : map.get s.procs who ≡ Some p) where
  -- what a walk leads to is in the set
  walks_there : (id : Oid) → WalksTo s p id → There id
  walks_there id ToRoot = leads.root_there
  walks_there id ToCurrent = leads.procs who p is
  walks_there id (ToEntry spot to e) = leads.entries spot to e

  -- and so is what is reached
  pub reaches_there : (id : Oid) → Reaches s p id → There id
  reaches_there id (ByWalk to walked) = walks_there to walked
  reaches_there id (ByDescriptor fd f open_is) = leads.descriptions f.did f.description open_is.is

-- what a walk leads to is there, and is no pipe
pub walk_target : (s : State) → IsValid s → (who : Pid) (p : Process) → map.get s.procs who ≡ Some p → (id : Oid) → WalksTo s p id → IsPathTarget s id
walk_target s valid who p is id ToRoot = let r = valid.root_is in dir_target s _ (record { object = r.object; is = r.is; dir = r.root_dir })
walk_target s valid who p is id ToCurrent = dir_target s p.cwd (valid.procs who p is).cwd
walk_target s valid who p is id (ToEntry spot to e) = entry_target s valid spot.0 spot.1 to e

-- ---- numbers are drawn in order, and the own record is of the caller
-- the own record of a call: none of a start, and of the caller where it is of fork, exec or `cap_set_proc`
abbrev pub IsOwnRecord : Pid → Rec → Type 0
IsOwnRecord who (rec.Boot q label caps) = ⊥
IsOwnRecord who (rec.Fork q child) = q ≡ who
IsOwnRecord who (rec.Exec q id file new) = q ≡ who
IsOwnRecord who (rec.CapSetProc q caps) = q ≡ who
IsOwnRecord who _ = ⊤

-- the own record of a call, if it leaves one
abbrev pub ReportsOwn : Pid → Option Rec → Type 0
ReportsOwn who None = ⊤
ReportsOwn who (Some r) = IsOwnRecord who r

-- a child is born where the own record names it
abbrev IsForkedBy : Pid → Option Rec → Pid → Type 0
IsForkedBy who own q = own ≡ Some (rec.Fork who q)

-- the changes are numbered in order, from a state on in which the objects of a set are there, and the own record is of the process
abbrev pub NumberedByCaller : (Oid → Type 0) → State → Pid → List Change → Option Rec → Type 0
NumberedByCaller There s who cs own = AreNumbered There (IsForkedBy who own) s s cs × ReportsOwn who own

-- one number is drawn, or two at once
module _ (m : FinMap label_cmp ℕ) (l : Label) where
  next_is_above : last_drawn m l ≤ last_drawn m l + 1
  next_is_above = omega arith

  next_drawn : IsDrawnBetween m (map.insert m l (last_drawn m l + 1)) l (last_drawn m l + 1)
  next_drawn = drawn_since m m l (last_drawn m l + 1) (last_drawn m l + 1) (omega arith) (omega arith)

  second_is_above : last_drawn m l ≤ last_drawn m l + 2
  second_is_above = omega arith

  first_of_two : IsDrawnBetween m (map.insert m l (last_drawn m l + 2)) l (last_drawn m l + 1)
  first_of_two = drawn_since m m l (last_drawn m l + 1) (last_drawn m l + 2) (omega arith) (omega arith)

  second_of_two : IsDrawnBetween m (map.insert m l (last_drawn m l + 2)) l (last_drawn m l + 2)
  second_of_two = drawn_since m m l (last_drawn m l + 2) (last_drawn m l + 2) (omega arith) (omega arith)

module _ (There : Oid → Type 0) (s : State) (leads : LeadsTo There s) (who : Pid) (p : Process) (is : map.get s.procs who ≡ Some p) where
  -- changes are numbered in order from a state on, and no child is born
  abbrev AreNumberedFrom : State → List Change → Type 0
  AreNumberedFrom t cs = AreNumbered There (IsForkedBy who None) s t cs

  caller_there : IsThere s.procs who
  caller_there = record { value = p; is = is }

  -- the caller's current directory is in the set
  cwd_there : There p.cwd
  cwd_there = leads.procs who p is

  walked_there : (id : Oid) → WalksTo s p id → There id
  walked_there = walks_there There s leads who p is

  reached_there : (id : Oid) → Reaches s p id → There id
  reached_there = reaches_there There s leads who p is

  -- a descriptor has a description, which leads to an object of the set
  description_there : (fd : ℕ) (f : Opened) → IsOpen s p fd f → IsThere s.descriptions f.did
  description_there fd f open_is = record { value = f.description; is = open_is.is }

  object_there : (fd : ℕ) (f : Opened) → IsOpen s p fd f → There f.description.object
  object_there fd f open_is = leads.descriptions f.did f.description open_is.is

  -- an object that is made is there
  made_there : (o : Object) → IsThere (map.insert s.objects (next_object s p.label) o) (next_object s p.label)
  made_there o = record { value = o; is = get-insert_same oid_cmp_total s.objects (next_object s p.label) o }

  made_numbered : (dir : Oid) (name : Name) (o : Object) → AreNumberedFrom s (creation s p.label dir name o)
  made_numbered dir name o = (next_is_above s.object_numbers p.label, (inr (next_drawn s.object_numbers p.label), (inr (made_there o), tt)))

  -- what opens an object is numbered in order where the object is present
  opening_numbered : (t : State) (id : Oid) (flags : OpenFlags) → t.description_numbers ≡ s.description_numbers → IsPresent There (IsForkedBy who None) s t id
      → AreNumberedFrom t (description_creation s who p id flags)
  opening_numbered t id flags same known =
      let up : last_drawn t.description_numbers p.label ≤ last_drawn s.description_numbers p.label + 1 = omega (arith, ap (λ m. last_drawn m p.label) same) in
      let n : ℕ = last_drawn s.description_numbers p.label + 1 in
      let new : IsDrawnBetween s.description_numbers (map.insert t.description_numbers p.label n) p.label n =
      drawn_since s.description_numbers t.description_numbers p.label n n (omega arith) (omega arith) in
      (up, ((inr new, known), ((inl caller_there, inl cwd_there), tt)))

  -- what is left of a process that ends is numbered in order
  ending_numbered : (own : Option Rec) (target : Pid) (t : Process) (how : Ending) → AreNumbered There (IsForkedBy who own) s s (ending_of s target t how)
  ending_numbered own target t how =
      numbered_anywhere There (IsForkedBy who own) s (ending_of s target t how) s
      (each_ending s (IsNumberedAnywhere There (IsForkedBy who own) s) (λ did t. tt) (λ did d e t. inl (leads.descriptions did d e)) target t how (λ t. tt)
      (λ q x e t. (inl (record { value = x; is = e }), inl (leads.procs q x e))))

  module _ (Known : Check → Type 0) (Not : Bool → Type 0) (Given : Premise → Type 0) where
    pub numbered_effect : (cs : List Change) (own : Option Rec) → Effect Known Not Given s who p cs own → NumberedByCaller There s who cs own
    numbered_effect cs own NoChange = (tt, tt)
    numbered_effect cs own (Note bytes) = (tt, tt)
    numbered_effect cs own (SetIds ids groups) = (((inl caller_there, inl cwd_there), tt), tt)
    numbered_effect cs own (SetUmask mode args) = (((inl caller_there, inl cwd_there), tt), tt)
    numbered_effect cs own (SetSwitch on) = (((inl caller_there, inl cwd_there), tt), tt)
    numbered_effect cs own (SetCaps caps grow) = (((inl caller_there, inl cwd_there), tt), refl)
    numbered_effect cs own (Execute id walked) = (((inl caller_there, inl cwd_there), tt), refl)
    numbered_effect cs own (SetLabel new allowed args) = (((inl caller_there, inl cwd_there), tt), tt)
    numbered_effect cs own (ChangeDir id place walked read dir) = (((inl caller_there, inl (walked_there id walked)), tt), tt)
    numbered_effect cs own (RemoveEmpty dir name id place leave empty) = ((tt, tt), tt)
    numbered_effect cs own (RemoveFile dir name id place last leave no_dir) = ((tt, tt), tt)
    numbered_effect cs own (Link dir name id place from walked enter free no_dir few args) = ((inl (walked_there id walked), tt), tt)
    numbered_effect cs own (Move dir name id into new place there leave enter apart way args) = ((tt, (inl (leads.entries (dir, name) id leave.at), tt)), tt)
    numbered_effect cs own (Create dir name o place making) = (made_numbered dir name o, tt)
    numbered_effect cs own (Duplicate fd f open_is free) = (((inl caller_there, inl cwd_there), tt), tt)
    numbered_effect cs own (Seek fd f offset open_is) = (((inl (description_there fd f open_is), inl (object_there fd f open_is)), tt), tt)
    numbered_effect cs own (Close fd) = (
      (
        (inl caller_there, inl cwd_there),
        numbered_anywhere There (IsForkedBy who None) s (changes_of_close s _) _
            (each_closing s (IsNumberedAnywhere There (IsForkedBy who None) s) (λ did t. tt) (λ did d e t. inl (leads.descriptions did d e)) _),
      ),
      tt,
    )
    numbered_effect cs own (ReadStream fd f n open_is written stream) = ((inl (object_there fd f open_is), tt), tt)
    numbered_effect cs own (WriteStream fd f bytes open_is written stream fits) = ((inl (object_there fd f open_is), tt), tt)
    numbered_effect cs own (WriteFile fd f attr bytes offset open_is written file inside fits mode) =
        ((inl (object_there fd f open_is), ((inl (description_there fd f open_is), inl (object_there fd f open_is)), tt)), tt)
    numbered_effect cs own (Open id flags place may) = (opening_numbered s id flags refl (inl (walked_there id may.walked)), tt)
    numbered_effect cs own (OpenEmptied id flags place attr may empties mode) =
        let there : There id = walked_there id may.walked in
        ((inl there, opening_numbered (apply_change s (SetObject id (record (object_at s id) { attr = attr; bytes = [] }))) id flags refl (inl there)), tt)
    numbered_effect cs own (OpenMade dir name o place flags making file room) =
        let before : List Change = creation s p.label dir name o in (
          entries_from-append There (IsForkedBy who None) s before (description_creation s who p (next_object s p.label) flags) s (made_numbered dir name o)
              (opening_numbered (apply_changes s before) (next_object s p.label) flags refl (inr (made_there o))),
          tt,
        )
    numbered_effect cs own (MakePipe left full none) = (
      (
        next_is_above s.object_numbers p.label,
        (
          inr (next_drawn s.object_numbers p.label),
          (
            second_is_above s.description_numbers p.label,
            (
              (inr (first_of_two s.description_numbers p.label), inr (made_there _)),
              ((inr (second_of_two s.description_numbers p.label), inr (made_there _)), ((inl caller_there, inl cwd_there), tt)),
            ),
          ),
        ),
      ),
      tt,
    )
    numbered_effect cs own (SetAttr id attr place reaches written mode caps) = ((inl (reached_there id reaches), tt), tt)
    numbered_effect cs own (SetFileCaps id caps place reaches written file) = ((inl (reached_there id reaches), tt), tt)
    numbered_effect cs own (KeepLabel id new place reaches written equal args) = ((inl (reached_there id reaches), tt), tt)
    numbered_effect cs own (Relabel id new place reaches written relabel args) = ((inl (reached_there id reaches), tt), tt)
    numbered_effect cs own (MakeChild few) =
        ((next_is_above s.process_numbers p.label, ((inr (next_drawn s.process_numbers p.label, refl), inl cwd_there), tt)), refl)
    numbered_effect cs own (Await e es ended) = (((inl caller_there, inl cwd_there), tt), tt)
    numbered_effect cs own (EndProcess q x how at may) = (ending_numbered _ q x how, tt)

-- ---- labels are below the highest one
module _ (s : State) (valid : IsValid s) (who : Pid) (p : Process) (is : map.get s.procs who ≡ Some p) (Given : Premise → Type 0) (range : Given InRange) where
  number : dominates s.top who.label ≡ true
  number = process_below s valid who p is

  label : dominates s.top p.label ≡ true
  label = (valid.procs who p is).below

  reached_below : (id : Oid) → Reaches s p id → NumberBelow s valid id
  reached_below = reaches_there (NumberBelow s valid) s (leads_below s valid) who p is

  pub check_below : (c : Check) → CheckKind Given s who p c → CheckBelow s.top c
  check_below c (OfObject name holds None id place reaches new_below) = (reached_below id reaches, (object_below s valid id, tt))
  check_below c (OfObject name holds (Some l) id place reaches new_below) = (reached_below id reaches, (object_below s valid id, (new_below l refl range, tt)))
  check_below c (OfCaller name holds None new_below) = (number, (label, tt))
  check_below c (OfCaller name holds (Some l) new_below) = (number, (label, (new_below l refl range, tt)))
  check_below c (OfNumber name holds target below) = (below range, (below range, tt))
  check_below c (OfLiving name holds target t at) = (process_below s valid target t at, ((valid.procs target t at).below, tt))

  module _ (Known : Check → Type 0) (Not : Bool → Type 0) where
    pub own_below_effect : (cs : List Change) (own : Option Rec) → Effect Known Not Given s who p cs own → OwnBelow s.top own
    own_below_effect cs own (Note bytes) = (number, tt)
    own_below_effect cs own (SetSwitch on) = (number, tt)
    own_below_effect cs own (SetCaps caps grow) = (number, tt)
    own_below_effect cs own (Execute id walked) = (number, (reached_below id (ByWalk id walked), tt))
    own_below_effect cs own (SetLabel new allowed args) = (number, (label, (args range, tt)))
    own_below_effect cs own (SetFileCaps id caps place reaches written file) = (number, (reached_below id reaches, tt))
    own_below_effect cs own (KeepLabel id new place reaches written equal args) = (number, (reached_below id reaches, (object_below s valid id, (args range, tt))))
    own_below_effect cs own (Relabel id new place reaches written relabel args) = (number, (reached_below id reaches, (object_below s valid id, (args range, tt))))
    own_below_effect cs own (MakeChild few) = (number, (label, tt))
    own_below_effect cs own (EndProcess q x how at may) = (process_below s valid q x at, tt)
    own_below_effect cs own e = tt

-- ---- records give the capability sets
-- after the changes each living process has the sets that the own record gives
abbrev pub MatchesRecord : State → (Pid → CapState) → List Change → Option Rec → Type 0
MatchesRecord s f cs own = HaveCaps (apply_changes s cs) (caps_after s.bound f (option_to_list own))

-- the changes leave each process its sets, and so does the own record
abbrev AllLeaveCaps : State → (Pid → CapState) → List Change → Option Rec → Type 0
AllLeaveCaps s f cs own = AllByRecursion (LeavesCaps f) cs × ((q : Pid) → caps_after s.bound f (option_to_list own) q ≡ f q)

module _ (s : State) (f : Pid → CapState) (has : HaveCaps s f) where
  -- where neither the changes nor the own record change the sets
  all_leave_match : (cs : List Change) (own : Option Rec) → AllLeaveCaps s f cs own → MatchesRecord s f cs own
  all_leave_match cs own calm = have_same (apply_changes s cs) f (caps_after s.bound f (option_to_list own)) (λ q. sym (calm.1 q)) (have_over_all cs s f has calm.0)

  module _ (who : Pid) (p : Process) (is : map.get s.procs who ≡ Some p) (Known : Check → Type 0) (Not : Bool → Type 0) (Given : Premise → Type 0) where
    own_caps : p.caps ≡ f who
    own_caps = has who p is

    pub reports_effect : (cs : List Change) (own : Option Rec) → Effect Known Not Given s who p cs own → MatchesRecord s f cs own
    reports_effect cs own (SetCaps caps grow) = have_set s f (λ q. caps) has who (record p { caps = caps }) refl
    reports_effect cs own (Execute id walked) =
        let o : Object = object_at s id in
        have_set s f (λ q. exec_caps (f q) (shown o.attr.caps) s.bound) has who (record p { ids = exec_ids p.ids o.attr; caps = exec_caps p.caps (shown o.attr.caps) s.bound })
        (ap (λ c. exec_caps c (shown o.attr.caps) s.bound) own_caps)
    reports_effect cs own (MakeChild few) =
        have_set (apply_change s (DrawProcess p.label (last_drawn s.process_numbers p.label + 1))) f (λ q. f who) has (next_process s p.label) (child_of who p) own_caps
    reports_effect cs own NoChange = all_leave_match cs own (tt, λ q. refl)
    reports_effect cs own (Note bytes) = all_leave_match cs own (tt, λ q. refl)
    -- the caller is set
    reports_effect cs own (SetIds ids groups) = all_leave_match cs own ((own_caps, tt), λ q. refl)
    reports_effect cs own (SetUmask mode args) = all_leave_match cs own ((own_caps, tt), λ q. refl)
    reports_effect cs own (SetSwitch on) = all_leave_match cs own ((own_caps, tt), λ q. refl)
    reports_effect cs own (SetLabel new allowed args) = all_leave_match cs own ((own_caps, tt), λ q. refl)
    reports_effect cs own (ChangeDir id place walked read dir) = all_leave_match cs own ((own_caps, tt), λ q. refl)
    reports_effect cs own (Duplicate fd d open_is free) = all_leave_match cs own ((own_caps, tt), λ q. refl)
    reports_effect cs own (Await e es ended) = all_leave_match cs own ((own_caps, tt), λ q. refl)
    -- several changes
    reports_effect cs own (Move dir name id into new place there leave enter apart way args) = all_leave_match cs own ((tt, (tt, tt)), λ q. refl)
    reports_effect cs own (Create dir name o place making) = all_leave_match cs own ((tt, (tt, (tt, tt))), λ q. refl)
    reports_effect cs own (Close fd) = all_leave_match cs own ((own_caps, each_closing s (LeavesCaps f) (λ did. tt) (λ did d e. tt) _), λ q. refl)
    reports_effect cs own (WriteFile fd d attr bytes offset open_is written file inside fits mode) = all_leave_match cs own ((tt, (tt, tt)), λ q. refl)
    reports_effect cs own (Open id flags place may) = all_leave_match cs own ((tt, (tt, (own_caps, tt))), λ q. refl)
    reports_effect cs own (OpenEmptied id flags place attr may empties mode) = all_leave_match cs own ((tt, (tt, (tt, (own_caps, tt)))), λ q. refl)
    reports_effect cs own (OpenMade dir name o place flags making file room) = all_leave_match cs own ((tt, (tt, (tt, (tt, (tt, (own_caps, tt)))))), λ q. refl)
    reports_effect cs own (MakePipe left full none) = all_leave_match cs own ((tt, (tt, (tt, (tt, (tt, (own_caps, tt)))))), λ q. refl)
    reports_effect cs own (EndProcess q x how at may) = all_leave_match cs own (each_ending s (LeavesCaps f) (λ did. tt) (λ did d e. tt) q x how tt has, λ q. refl)
    -- an object or entry is set, or a description
    reports_effect cs own e = all_leave_match cs own ((tt, tt), λ q. refl)
