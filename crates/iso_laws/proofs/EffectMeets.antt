-- A property of changes holds of each kind of effect where it holds in each of the cases.
use Rattle.std.specs.Prelude.{◌≡◌, ℕ, ◌+◌, ◌≤◌, ◌&&◌, ◌||◌, not, length, take, Bool, true, false, List, [], ◌∷◌, ◌++◌, drop, Option, Some, refl, cond}
use Rattle.std.proofs.Common.{sym, ◌∙◌, ap, subst, arith, inl, inr}
use Rattle.std.proofs.lemmas.Bool.{and_parts, and_cases, or_parts, leb-true, leb-false, ltb-false, not-false, not-true, true≢false}
use Rattle.std.proofs.lemmas.List.{length-append, length-drop, length-take}
use Rattle.std.specs.FinMap as map
use Rattle.cap_bits.specs.CapSet as set
use Rattle.cap_bits.specs.CapSet.{CapSet, is_within, no_caps}
use Rattle.cap_bits.specs.declared.state.CapState.{CapState}
use Rattle.cap_bits.specs.FileCaps.{caps_by, shown}
use Rattle.cap_bits.specs.Laws.{has-within}
use Rattle.cap_bits.proofs.CapSets.{has-no_caps}
use Rattle.fs_path.specs.Name.{Name}
use Rattle.lab_lattice.specs.Label.{Label, dominates}
use Rattle.lab_lattice.proofs.Labels.{dominates_both}
use Rattle.kern_model.specs.declared.calls.OpenFlags.{OpenFlags}
use Rattle.kern_model.specs.declared.checks.Check.{Check}
use Rattle.kern_model.specs.declared.checks.Place.{Place}
use Rattle.kern_model.specs.declared.limits.TheConstants.{MAX_DESCRIPTIONS, MAX_DESCRIPTORS, MAX_FILE_BYTES, MAX_LINKS, MAX_PIPE_BYTES, MAX_PROCS}
use Rattle.kern_model.specs.declared.numbers.Oid.{Oid}
use Rattle.kern_model.specs.declared.numbers.Pid.{Pid}
use Rattle.kern_model.specs.declared.objects.Kind.TheVariants as kind
use Rattle.kern_model.specs.declared.objects.Object.{Object}
use Rattle.kern_model.specs.declared.records.Rec.{Rec}
use Rattle.kern_model.specs.Arguments.{are_flags}
use Rattle.kern_model.specs.Descriptors.{Opened}
use Rattle.kern_model.specs.Entries.{is_empty, link_count}
use Rattle.kern_model.specs.Exec.{exec_caps, exec_permitted}
use Rattle.kern_model.specs.FileRows.{open_object, place_in, written_over}
use Rattle.kern_model.specs.Kinds.{is_dir, is_file, is_fifo, is_mode}
use Rattle.kern_model.specs.Rules.{cap_grow, created_order, held_order, link_dir, relabelled_order, unlink_dir}
use Rattle.kern_model.specs.State.{State, Process, Change, SetObject, last_drawn, object_at, stub_object}
use Rattle.kern_model.specs.Step.{subject}
use Rattle.kern_model.specs.Valid.{IsValid, IsThere, IsDir, IsValidObject, IsValidProcess}
use Rattle.kern_model.proofs.KindLemmas.{file_kind, other_kind}
use Rattle.kern_model.proofs.MapLemmas.{get_or-found}
use Rattle.kern_model.proofs.StateLemmas.{dir_there}
use Rattle.iso_laws.proofs.Along.{Reaches, ByDescriptor}
use Rattle.iso_laws.proofs.Cases.{EffectCases, MayCreate, HasRoom, MayOpen}
use Rattle.iso_laws.proofs.DrawingLemmas.{leads_where}
use Rattle.iso_laws.proofs.EffectLaws.{reaches_there, walk_target}
use Rattle.iso_laws.proofs.Effects.{Premise, InRange, HasNames, HasFlags, Creates, Room, Opens, Effect, NoChange, Note, SetIds, SetUmask, SetSwitch, SetCaps, Execute, SetLabel, ChangeDir, RemoveEmpty, RemoveFile, Link, Move, Create, Duplicate, Seek, Close, ReadStream, WriteStream, WriteFile, Open, OpenEmptied, OpenMade, MakePipe, SetAttr, SetFileCaps, KeepLabel, Relabel, MakeChild, Await, EndProcess}
use Rattle.iso_laws.proofs.Rows.{Passes}
use Rattle.iso_laws.proofs.PartReads.{IsPathTarget, IsOpen, rule_holds, open_no_dir}
use Rattle.iso_laws.proofs.files.Opening.{flags_ask}
use Rattle.iso_laws.proofs.tree.Changes.{no_entries}
use Rattle.iso_laws.proofs.tree.Holders.{never_leads}

-- ---- what a valid state says
-- an object that is there
abbrev IsThereAt : State → Oid → Type 0
IsThereAt s id = map.get s.objects id ≡ Some (object_at s id)

-- an object that is there is what is read
reads_as : (s : State) (id : Oid) (o : Object) → map.get s.objects id ≡ Some o → object_at s id ≡ o
reads_as s id o is = get_or-found s.objects id (stub_object s.top) o is

at_there : (s : State) (id : Oid) → IsThere s.objects id → IsThereAt s id
at_there s id there = there.is ∙ ap (λ (o : Object). Some o) (sym (reads_as s id there.value there.is))

-- what may give way has no entries, be it a directory or not
has_no_entries : (s : State) → IsValid s → (t : Oid) → (is_dir (object_at s t).kind && not (is_empty s t)) ≡ false → is_empty s t ≡ true
has_no_entries s valid t h =
    elim (and_cases (is_dir (object_at s t).kind) (not (is_empty s t)) h) as (λ w. is_empty s t ≡ true) [
      | inl no_dir ↦ no_entries s valid t no_dir
      | inr empty ↦ not-false _ empty
    ]

-- a piece that is written over bytes ends at the end of the bytes, or where it ends itself
written_length : (old : List ℕ) (at : ℕ) (bytes : List ℕ) (most : ℕ) → at ≤ length old → at + length bytes ≤ most → length old ≤ most
    → length (written_over old at bytes) ≤ most
written_length old at bytes most within ends few =
    let after : List ℕ = drop (at + length bytes) old in
    omega (arith, length-append (take at old) (bytes ++ after), length-append bytes after, length-take at old, length-drop (at + length bytes) old)

-- no capability, or all of a set, is within the set
none_or_all_within : (b : Bool) (a : CapSet) → is_within (cond b no_caps a) a ≡ true
none_or_all_within true a = has-within no_caps a (λ q h. absurd (true≢false (sym h ∙ has-no_caps q)))
none_or_all_within false a = has-within a a (λ q h. h)

-- what is effective is permitted after exec
exec_within : (old file : CapState) (bound : CapSet) → is_within (exec_caps old file bound).e (exec_caps old file bound).p ≡ true
exec_within old file bound = none_or_all_within (set.is_empty file.e) (exec_permitted old file bound)

-- flags as a call may have them empty a file only where they ask to write
flags_write : (f : OpenFlags) → are_flags f ≡ true → f.t ≡ true → f.w ≡ true
flags_write f h t = ap (λ b. not b || f.w) (sym t) ∙ (and_parts _ _ (and_parts _ _ h).0).1

-- ---- the cases
module _ (excluded : Rec → Bool) (s : State) (valid : IsValid s) (who : Pid) (p : Process) (is : map.get s.procs who ≡ Some p) (Given : Premise → Type 0)
    (ArgsValid : Type 0) (P : List Change → Type 0) (cases : EffectCases excluded s who p ArgsValid P)
    (ranges : ArgsValid → Given InRange) (names : ArgsValid → Given HasNames) (flags_given : Given HasFlags) where
  -- what is known after a check, and after a refusal
  abbrev Known : Check → Type 0
  Known c = Passes excluded (subject who p) c

  abbrev Not : Bool → Type 0
  Not b = b ≡ false

  own_valid : IsValidProcess s who p
  own_valid = valid.procs who p is

  -- what is reached is there, and is valid
  there : (id : Oid) → Reaches s p id → IsThereAt s id
  there = reaches_there (IsThereAt s) s (leads_where (IsThereAt s) s valid (at_there s)) who p is

  reached_valid : (id : Oid) → Reaches s p id → IsValidObject s id (object_at s id)
  reached_valid id reaches = valid.objects id (object_at s id) (there id reaches)

  -- the content of an open object is within its limits
  content : (fd : ℕ) (f : Opened) → IsOpen s p fd f → IsValidObject s f.description.object (open_object s f)
  content fd f open_is = reached_valid f.description.object (ByDescriptor fd f open_is)

  -- what is no non-directory is a directory
  dir_of : (id : Oid) → not (is_dir (object_at s id).kind) ≡ false → IsDir s.objects id
  dir_of id h = dir_there s id (not-false _ h)

  -- what the rows say of what is made, of room and of what is opened says what the cases ask for
  may_create : (dir : Oid) (name : Name) (o : Object) (place : Place) → Creates Known Not Given s who p dir name o place
      → MayCreate excluded s who p ArgsValid dir name o place
  may_create dir name o place m =
      let dir_is : IsDir s.objects dir = dir_of dir m.dir_kind in
      record {
        written = m.written;
        is_dir = dir_is;
        free = m.free;
        not_removed = m.not_removed;
        fresh = m.fresh;
        left = not-false _ m.left;
        order =
            ap (λ (d : Object). dominates p.label d.label) (sym (reads_as s dir dir_is.object dir_is.is))
            ∙ rule_holds excluded (subject who p) (created_order s p dir place) refl m.order;
        named = λ f. m.named (names f);
      }

  has_room : Room Known Not Given s who p → HasRoom s p
  has_room r = record { descriptor = leb-true _ MAX_DESCRIPTORS (not-false _ r.descriptor); number = leb-true _ MAX_DESCRIPTIONS (not-false _ r.number) }

  may_open : (id : Oid) (flags : OpenFlags) (place : Place) → Opens Known Not Given s who p id flags place → MayOpen excluded s who p id flags place
  may_open id flags place may =
      let named : IsPathTarget s id = walk_target s valid who p is id may.walked in
      let at : object_at s id ≡ named.object = reads_as s id named.object named.is in
      record {
        target = named;
        no_dir = ap (λ (o : Object). is_dir o.kind) (sym at) ∙ may.no_dir;
        asked = flags_ask flags (may.flags_are flags_given);
        read = may.read;
        written = may.written;
        fifo = λ t. may.fifo (ap (λ (o : Object). is_fifo o.kind && flags.r) at ∙ t);
        room = has_room may.room;
      }

  pub effect_satisfies : (cs : List Change) (own : Option Rec) → Effect Known Not Given s who p cs own → P cs
  effect_satisfies cs own NoChange = cases.none
  effect_satisfies cs own (Note bytes) = cases.none
  -- the caller is set
  effect_satisfies cs own (SetIds ids groups) = cases.set_caller ids p.caps p.umask p.audited groups own_valid.within (λ _. own_valid.umask)
  effect_satisfies cs own (SetUmask mode args) = cases.set_caller p.ids p.caps mode p.audited refl own_valid.within (λ f. args (ranges f))
  effect_satisfies cs own (SetSwitch on) = cases.set_caller p.ids p.caps p.umask on refl own_valid.within (λ _. own_valid.umask)
  effect_satisfies cs own (SetCaps caps passes) =
      let grow = rule_holds excluded (subject who p) (cap_grow who p caps) refl passes in
      cases.set_caller p.ids caps p.umask p.audited refl (and_parts _ _ (and_parts _ _ grow).0).1 (λ _. own_valid.umask)
  effect_satisfies cs own (Execute id walked) =
      let file : CapState = shown (object_at s id).attr.caps in
      cases.set_caller _ (exec_caps p.caps file s.bound) p.umask p.audited refl (exec_within p.caps file s.bound) (λ _. own_valid.umask)
  effect_satisfies cs own (SetLabel new allowed args) = cases.label new allowed (λ f. args (ranges f))
  effect_satisfies cs own (ChangeDir id place walked read dir) = cases.cwd id place read (dir_of id dir)
  -- entries
  effect_satisfies cs own (RemoveEmpty dir name id place leave empty) =
      cases.remove_entry dir name id place leave.written (dir_of dir leave.dir_kind) leave.at (not-false _ empty)
  effect_satisfies cs own (RemoveFile dir name id place last leave passes) =
      cases.remove_entry dir name id place leave.written (dir_of dir leave.dir_kind) leave.at
      (no_entries s valid id (not-true _ (rule_holds excluded (subject who p) (unlink_dir s id last) refl passes)))
  effect_satisfies cs own (Link dir name id place from walked enter free passes few args) =
      let named : IsPathTarget s id = walk_target s valid who p is id walked in
      let at : object_at s id ≡ named.object = reads_as s id named.object named.is in
      let into : IsDir s.objects dir = dir_of dir enter.dir_kind in
      let into_at : object_at s dir ≡ into.object = reads_as s dir into.object into.is in
      cases.add_entry dir name id place enter.written into free enter.not_removed named
      (ap (λ (o : Object). not (is_dir o.kind)) (sym at) ∙ rule_holds excluded (subject who p) (link_dir s id from) refl passes)
      (omega (arith, leb-false MAX_LINKS (link_count s id) few))
      ((λ i. dominates (sym at i).label (sym into_at i).label) ∙ rule_holds excluded (subject who p) (held_order s id dir place) refl enter.order)
      (λ f. args (names f))
  effect_satisfies cs own (Move dir name id into new place there_place leave enter outside way args) =
      let into_is : IsDir s.objects into = dir_of into enter.dir_kind in
      cases.move dir name id into new place there_place leave.written (dir_of dir leave.dir_kind) enter.written
      (record {
        at = leave.at;
        into_is = into_is;
        not_removed = enter.not_removed;
        apart = λ ns lead. never_leads s valid id into into_is outside ns lead;
        gives_way = λ t e. let gives = way t e in (gives.0, has_no_entries s valid t gives.1);
        order = rule_holds excluded (subject who p) (held_order s id into there_place) refl enter.order;
      })
      (λ f. args (names f))
  effect_satisfies cs own (Create dir name o place making) = cases.create dir name o place (may_create dir name o place making)
  -- descriptors
  effect_satisfies cs own (Duplicate fd f open_is full) = cases.duplicate fd f open_is (leb-true _ MAX_DESCRIPTORS (not-false _ full))
  effect_satisfies cs own (Seek fd f offset open_is) = cases.seek fd f offset open_is
  effect_satisfies cs own (Close fd) = cases.close fd
  effect_satisfies cs own (ReadStream fd f n open_is written stream) =
      cases.write_stream fd f (drop n (open_object s f).bytes) open_is written stream
      (omega (arith, length-drop n (open_object s f).bytes, (content fd f open_is).stream_bytes stream))
  effect_satisfies cs own (WriteStream fd f bytes open_is written stream fits) =
      cases.write_stream fd f ((open_object s f).bytes ++ bytes) open_is written stream
      (omega (arith, length-append (open_object s f).bytes bytes, ltb-false MAX_PIPE_BYTES _ fits))
  effect_satisfies cs own (WriteFile fd f attr bytes offset open_is written no_stream inside fits mode) =
      let o : Object = open_object s f in
      let file : o.kind ≡ kind.File = other_kind o.kind (open_no_dir s valid p fd f open_is) no_stream in
      cases.write_file fd f attr _ offset open_is written file (mode (content fd f open_is).mode)
      (written_length o.bytes (place_in o f) bytes MAX_FILE_BYTES (omega (arith, ltb-false _ _ inside)) (omega (arith, ltb-false _ _ fits))
      ((content fd f open_is).file_bytes file))
  effect_satisfies cs own (Open id flags place may) = cases.open_existing id flags place (may_open id flags place may)
  effect_satisfies cs own (OpenEmptied id flags place attr may empties mode) =
      let opens : MayOpen excluded s who p id flags place = may_open id flags place may in
      let named : IsPathTarget s id = opens.target in
      let at : object_at s id ≡ named.object = reads_as s id named.object named.is in
      let parts = and_parts _ _ empties in
      cases.open_emptied id flags place attr opens (flags_write flags (may.flags_are flags_given) parts.0)
      (file_kind named.object.kind (ap (λ (o : Object). is_file o.kind) (sym at) ∙ parts.1))
      (mode (ap (λ (o : Object). is_mode o.attr.mode) at ∙ (valid.objects id named.object named.is).mode))
  effect_satisfies cs own (OpenMade dir name o place flags making file room) =
      cases.open_made dir name o place flags (may_create dir name o place making) (file_kind o.kind file) (has_room room)
  effect_satisfies cs own (MakePipe left full none) =
      cases.pipe (not-false _ left) (leb-true _ MAX_DESCRIPTORS (not-false _ full)) (leb-true _ MAX_DESCRIPTIONS (not-false _ none))
  -- attributes
  effect_satisfies cs own (SetAttr id attr place reaches written mode caps) =
      let old = reached_valid id reaches in
      cases.attributes id (object_at s id) attr place (there id reaches) written (λ f. mode old.mode (ranges f)) (λ other. caps ∙ old.only_files other)
  effect_satisfies cs own (SetFileCaps id caps place reaches written file) =
      let old = reached_valid id reaches in
      cases.attributes id (object_at s id) (record (object_at s id).attr { caps = caps_by caps }) place (there id reaches) written (λ _. old.mode)
      (λ other. absurd (true≢false (sym (not-false _ (or_parts _ _ file).0) ∙ other)))
  effect_satisfies cs own (KeepLabel id new place reaches written equal args) =
      let o : Object = object_at s id in
      let old = reached_valid id reaches in
      let parts = and_parts _ _ equal in
      subst (λ (x : Label). P (SetObject id (record o { label = x }) ∷ [])) (sym (dominates_both new o.label parts.0 parts.1))
      (cases.attributes id o o.attr place (there id reaches) written (λ _. old.mode) old.only_files)
  effect_satisfies cs own (Relabel id new place reaches written relabel args) =
      let keeps = and_parts _ _ (rule_holds excluded (subject who p) (relabelled_order s id new place) refl relabel.order) in
      cases.relabel id (object_at s id) new place (there id reaches) written
      (record { allowed = relabel.allowed; above = keeps.0; no_root = not-true _ keeps.1; no_entries = has_no_entries s valid id relabel.no_entries })
      (λ f. args (ranges f))
  -- processes
  effect_satisfies cs own (MakeChild left) = cases.fork (omega (arith, leb-false MAX_PROCS (last_drawn s.process_numbers p.label) left))
  effect_satisfies cs own (Await e es ended) = cases.await e es ended
  effect_satisfies cs own (EndProcess q x how at may) = cases.end_process q x how at may
