-- A kept state stays kept, by each kind of effect.
use Rattle.std.specs.Prelude.{◌≡◌, ℕ, ◌+◌, ◌++◌, true, false, not, List, [], ◌∷◌, None, Some, refl, cond}
use Rattle.std.proofs.Common.{sym, ◌∙◌, ap, subst, inl, inr}
use Rattle.std.proofs.lemmas.Bool.{true≢false, and_from, or_cases}
use Rattle.std.specs.Cmp.{nat_cmp_total}
use Rattle.std.specs.Ordering.{nat_cmp}
use Rattle.std.specs.List.{AllByRecursion}
use Rattle.std.specs.FinMap as map
use Rattle.std.specs.FinMap.{FinMap, nat_cmp-IsAntisymmetric}
use Rattle.cap_bits.specs.declared.cap.Cap.TheVariants as cap
use Rattle.fs_path.specs.Name.{Name}
use Rattle.lab_lattice.specs.Label.{Label, dominates}
use Rattle.kern_model.specs.declared.calls.Ending.{Ending}
use Rattle.kern_model.specs.declared.calls.OpenFlags.{OpenFlags}
use Rattle.kern_model.specs.declared.numbers.Did.{Did}
use Rattle.kern_model.specs.declared.numbers.Oid.{Oid}
use Rattle.kern_model.specs.declared.numbers.Pid.{Pid}
use Rattle.kern_model.specs.declared.checks.Place.{Place}
use Rattle.kern_model.specs.declared.objects.Attr.{Attr}
use Rattle.kern_model.specs.declared.objects.Kind.TheVariants as kind
use Rattle.kern_model.specs.declared.objects.Object.{Object}
use Rattle.kern_model.specs.Create.{object_addition, creation}
use Rattle.kern_model.specs.Descriptors.{Opened, lowest_free, with_descriptor}
use Rattle.kern_model.specs.FileRows.{open_object, description_creation, offset_change, new_pipe, on_pipe, second_description, pipe_creation}
use Rattle.kern_model.specs.Keys.{did_cmp}
use Rattle.kern_model.specs.Kinds.{is_fifo, is_stream}
use Rattle.kern_model.specs.ProcessRows.{child_of}
use Rattle.kern_model.specs.Rules.{same_label, mac_downgrade, mac_subject, mac_upgrade}
use Rattle.kern_model.specs.State.{State, Process, Description, SetObject, SetProcess, SetDescription, DrawProcess, DrawDescription, apply_change, apply_changes, last_drawn, next_object, next_description, next_process, object_at, stub_object}
use Rattle.kern_model.specs.Step.{subject}
use Rattle.kern_model.specs.Isolation.{low, crosses, Kept}
use Rattle.kern_model.specs.Valid.{IsValid, IsThere}
use Rattle.kern_model.proofs.MapLemmas.{some_same, never_some, get-insert_same, get_or-found, each-insert, each-remove}
use Rattle.kern_model.proofs.KeyLaws.{oid_cmp_total}
use Rattle.kern_model.proofs.KindLemmas.{stream_fifo}
use Rattle.iso_laws.proofs.Rows.{Passes}
use Rattle.iso_laws.proofs.PartReads.{IsOpen, open_object_is, same_side, new_side, read_low, write_side}
use Rattle.iso_laws.proofs.Changes.{KeptProcess, kept_of, kept_process, kept_object, kept_description, kept_with}
use Rattle.iso_laws.proofs.files.Closing.{kept_closed}
use Rattle.iso_laws.proofs.files.Closed.{has_fd, without_fd}
use Rattle.iso_laws.proofs.processes.Ending.{kept_ended}
use Rattle.kern_model.proofs.StateLemmas.{next_absent}
use Rattle.iso_laws.proofs.Cases.{EffectCases, MayCreate, MayOpen, MayRelabel}

-- a label that a check allowed the caller is on the same side as its own
given_side : (l : Label) (who : Pid) (p : Process) (new : Label) → (not (same_label new p.label) ≡ true → Passes (crosses l) (subject who p) (mac_subject who p new)) → low l p.label ≡ low l new
given_side l who p new passes =
    elim (same_label new p.label) as (λ b. same_label new p.label ≡ b → low l p.label ≡ low l new) [
      | true ↦ λ same. sym (same_side l new p.label same)
      | false ↦ λ other. new_side l (subject who p) (mac_subject who p new) cap.MacRelabelSubj new refl refl refl refl (passes (ap not other))
    ] refl

-- a label that a check allowed for an object is on the side of the process
label_side : (l : Label) (s : State) (who : Pid) (p : Process) (id : Oid) (o : Object) (new : Label) (place : Place) → MayRelabel (crosses l) s who p id o new place → low l p.label ≡ low l new
label_side l s who p id o new place relabelling =
    elim (dominates new o.label) as (λ b. Passes (crosses l) (subject who p) (cond b (mac_upgrade s id new place) (mac_downgrade s id new place)) → low l p.label ≡ low l new) [
      | true ↦ new_side l (subject who p) (mac_upgrade s id new place) cap.MacUpgrade new refl refl refl refl
      | false ↦ new_side l (subject who p) (mac_downgrade s id new place) cap.MacDowngrade new refl refl refl refl
    ] relabelling.allowed

-- what a Low process opens is Low
opening_low : (l : Label) (s : State) → Kept l s → (who : Pid) (p : Process) (id : Oid) (flags : OpenFlags) (place : Place) → MayOpen (crosses l) s who p id flags place → low l p.label ≡ true → low l id.label ≡ true
opening_low l s kept who p id flags place may is_low =
    let there : IsThere s.objects id = record { value = may.target.object; is = may.target.is } in
    elim (or_cases flags.r flags.w may.asked) as (λ w. low l id.label ≡ true) [
      | inl reads ↦ read_low l s kept who p is_low id there place (may.read reads)
      | inr writes ↦ sym (write_side l s kept who p id there place (may.written writes)) ∙ is_low
    ]

-- a FIFO that a process opens is on its side
opening_side : (l : Label) (s : State) → Kept l s → (who : Pid) (p : Process) (id : Oid) (flags : OpenFlags) (place : Place) → (may : MayOpen (crosses l) s who p id flags place) → (o : Object) → may.target.object ≡ o → is_stream o.kind ≡ true → low l p.label ≡ low l id.label
opening_side l s kept who p id flags place may o same stream =
    let there : IsThere s.objects id = record { value = may.target.object; is = may.target.is } in
    let is_one : is_fifo may.target.object.kind ≡ true = stream_fifo may.target.object.kind (ap (λ (x : Object). is_stream x.kind) same ∙ stream) may.target.no_pipe in
    elim (or_cases flags.r flags.w may.asked) as (λ w. low l p.label ≡ low l id.label) [
      | inl reads ↦ write_side l s kept who p id there place (may.fifo (and_from _ _ is_one reads))
      | inr writes ↦ write_side l s kept who p id there place (may.written writes)
    ]

module _ (l : Label) (s : State) (kept : Kept l s) (valid : IsValid s) (who : Pid) (p : Process) (is : map.get s.procs who ≡ Some p) where
  own : KeptProcess l who p
  own = kept_of l s kept who p is

  -- descriptors of the caller's side
  abbrev AreBeside : FinMap nat_cmp Did → Type 0
  AreBeside fds = (fd : ℕ) (did : Did) → map.get fds fd ≡ Some did → low l did.label ≡ low l who.label

  one_beside : (fds : FinMap nat_cmp Did) → AreBeside fds → (did : Did) → low l did.label ≡ low l who.label → AreBeside (map.insert fds (lowest_free fds) did)
  one_beside fds each did side = each-insert nat_cmp_total nat_cmp-IsAntisymmetric (λ (fd : ℕ) (q : Did). low l q.label ≡ low l who.label) fds each (lowest_free fds) did side

  -- the caller gets other descriptors
  kept_fds : (t : State) → Kept l t → (fds : FinMap nat_cmp Did) → AreBeside fds → Kept l (apply_change t (SetProcess who (record p { fds = fds })))
  kept_fds t kept_t fds each = kept_process l t kept_t who _ (record { label = own.label; parent = own.parent; ended = own.ended; fds = each; cwd = own.cwd })

  -- an object is set whose number was free
  kept_new : (new : Oid) (o : Object) → low l new.label ≡ low l o.label → map.get s.objects new ≡ None → Kept l (apply_change s (SetObject new o))
  kept_new new o side absent = kept_object l s kept new o side (λ did d e at _.
      let described = valid.descriptions did d e in
      absurd (never_some (map.get s.objects new) described.object absent (ap (map.get s.objects) (sym at) ∙ described.object_is)))

  -- an object is set to one of the same kind
  kept_same : (id : Oid) (o new : Object) → map.get s.objects id ≡ Some o → new.kind ≡ o.kind → low l id.label ≡ low l new.label → Kept l (apply_change s (SetObject id new))
  kept_same id o new at same side = kept_object l s kept id new side (λ did d e on stream. kept.streams did d o e (ap (map.get s.objects) on ∙ at) (ap is_stream (sym same) ∙ stream))

  kept_made : (ArgsValid : Type 0) (dir : Oid) (name : Name) (o : Object) (place : Place) → MayCreate (crosses l) s who p ArgsValid dir name o place → Kept l (apply_changes s (creation s p.label dir name o))
  kept_made ArgsValid dir name o place making =
      let new : Oid = next_object s p.label in
      kept_with l (apply_change s (SetObject new o)) (kept_new new o (ap (low l) (sym making.fresh.label)) (next_absent s valid p.label)) _ _ s.process_numbers s.description_numbers

  -- an object is opened
  kept_opened : (t : State) → Kept l t → (id : Oid) (flags : OpenFlags) → (low l p.label ≡ true → low l id.label ≡ true) → ((o : Object) → map.get t.objects id ≡ Some o → is_stream o.kind ≡ true → low l p.label ≡ low l id.label) → Kept l (apply_changes t (description_creation s who p id flags))
  kept_opened t kept_t id flags side stream =
      let new : Did = next_description s p.label in
      let drawn_t : State = apply_change t (DrawDescription p.label (last_drawn s.description_numbers p.label + 1)) in
      let d : Description = record { object = id; reads = flags.r; writes = flags.w; appends = flags.a; offset = 0 } in
      kept_fds (apply_change drawn_t (SetDescription new d)) (kept_description l drawn_t (kept_with l t kept_t t.entries t.object_numbers t.process_numbers _) new d side stream) _ (one_beside p.fds own.fds new (sym own.label))

  -- a descriptor gets another offset
  kept_moved : (t : State) → Kept l t → t.descriptions ≡ s.descriptions → (fd : ℕ) (f : Opened) (offset : ℕ) → IsOpen s p fd f → Kept l (apply_change t (offset_change f offset))
  kept_moved t kept_t same fd f offset open_is =
      let there : map.get t.descriptions f.did ≡ Some f.description = ap (λ (m : FinMap did_cmp Description). map.get m f.did) same ∙ open_is.is in
      kept_description l t kept_t f.did (record f.description { offset = offset }) (kept_t.descriptions f.did f.description there) (λ o. kept_t.streams f.did f.description o there)

  -- what a descriptor refers to gets other bytes and attributes
  kept_rewritten : (fd : ℕ) (f : Opened) (attr : Attr) (bytes : List ℕ) → IsOpen s p fd f → Kept l (apply_change s (SetObject f.description.object (record (open_object s f) { attr = attr; bytes = bytes })))
  kept_rewritten fd f attr bytes open_is =
      let there = open_object_is s valid p fd f open_is in
      kept_same f.description.object (open_object s f) _ there refl (kept.objects f.description.object (open_object s f) there)

  kept_emptied : (id : Oid) (flags : OpenFlags) (place : Place) (attr : Attr) (may : MayOpen (crosses l) s who p id flags place) → may.target.object.kind ≡ kind.File → Kept l (apply_changes s (SetObject id (record (object_at s id) { attr = attr; bytes = [] }) ∷ description_creation s who p id flags))
  kept_emptied id flags place attr may file =
      let old : Object = may.target.object in
      let new : Object = record (object_at s id) { attr = attr; bytes = [] } in
      let at : object_at s id ≡ old = get_or-found s.objects id (stub_object s.top) old may.target.is in
      let no_stream : is_stream new.kind ≡ false = ap (λ (o : Object). is_stream o.kind) at ∙ ap is_stream file in
      kept_opened (apply_change s (SetObject id new)) (kept_same id old new may.target.is (ap (λ (o : Object). o.kind) at) (kept.objects id old may.target.is ∙ ap (λ (o : Object). low l o.label) (sym at)))
      id flags (opening_low l s kept who p id flags place may)
      (λ o e stream. absurd (true≢false (sym stream ∙ ap (λ (x : Object). is_stream x.kind) (some_same o new (sym e ∙ get-insert_same oid_cmp_total s.objects id new)) ∙ no_stream)))

  kept_piped : Kept l (apply_changes s (pipe_creation s who p))
  kept_piped =
      let o : Object = new_pipe p in
      let new : Oid = next_object s p.label in
      let first : Did = next_description s p.label in
      let second : Did = second_description s p in
      let made_t : State = apply_changes s (object_addition s p.label o ++ DrawDescription p.label (last_drawn s.description_numbers p.label + 2) ∷ []) in
      let made_is : Kept l made_t = kept_with l (apply_change s (SetObject new o)) (kept_new new o refl (next_absent s valid p.label)) s.entries _ s.process_numbers _ in
      let half_is : Kept l (apply_change made_t (SetDescription first (on_pipe (next_object s p.label) true))) = kept_description l made_t made_is first (on_pipe (next_object s p.label) true) (λ h. h) (λ x e stream. refl) in
      let whole_is : Kept l (apply_change (apply_change made_t (SetDescription first (on_pipe (next_object s p.label) true))) (SetDescription second (on_pipe (next_object s p.label) false))) = kept_description l _ half_is second (on_pipe (next_object s p.label) false) (λ h. h) (λ x e stream. refl) in
      kept_fds _ whole_is _ (one_beside (with_descriptor p first).fds (one_beside p.fds own.fds first (sym own.label)) second (sym own.label))

  kept_forked : Kept l (apply_changes s (DrawProcess p.label (last_drawn s.process_numbers p.label + 1) ∷ SetProcess (next_process s p.label) (child_of who p) ∷ []))
  kept_forked =
      kept_process l (apply_change s (DrawProcess p.label (last_drawn s.process_numbers p.label + 1))) (kept_with l s kept s.entries s.object_numbers _ s.description_numbers) (next_process s p.label) (child_of who p)
      (record {
        label = refl;
        parent = λ q e. ap (λ (z : Pid). low l z.label) (some_same q who (sym e)) ∙ own.label;
        ended = tt;
        fds = λ fd did e. own.fds fd did e ∙ own.label;
        cwd = own.cwd;
      })

  -- a kept state stays kept
  pub kept_cases : (ArgsValid : Type 0) → EffectCases (crosses l) s who p ArgsValid (λ cs. Kept l (apply_changes s cs))
  kept_cases ArgsValid = record {
    none = kept;
    set_caller = λ ids caps umask audited groups within args. kept_process l s kept who _ (record { label = own.label; parent = own.parent; ended = own.ended; fds = own.fds; cwd = own.cwd });
    label = λ new passes args.
        let side = given_side l who p new passes in
        kept_process l s kept who _ (record { label = own.label ∙ side; parent = own.parent; ended = own.ended; fds = own.fds; cwd = λ is_low. own.cwd (side ∙ is_low) });
    cwd = λ id place read dir.
        kept_process l s kept who _ (record {
          label = own.label;
          parent = own.parent;
          ended = own.ended;
          fds = own.fds;
          cwd = λ is_low. read_low l s kept who p is_low id (record { value = dir.object; is = dir.is }) place read;
        });
    remove_entry = λ dir name id place written is_dir at empty. kept_with l s kept _ s.object_numbers s.process_numbers s.description_numbers;
    add_entry = λ dir name id place written is_dir free not_removed named no_dir few order args. kept_with l s kept _ s.object_numbers s.process_numbers s.description_numbers;
    move = λ dir name id into new place there_place written is_dir written_there move args. kept_with l s kept _ s.object_numbers s.process_numbers s.description_numbers;
    create = kept_made ArgsValid;
    duplicate = λ fd f open_is free. kept_fds s kept _ (one_beside p.fds own.fds f.did (own.fds fd f.did open_is.fd_is));
    seek = kept_moved s kept refl;
    write_stream = λ fd f bytes open_is written stream few. kept_rewritten fd f (open_object s f).attr bytes open_is;
    write_file = λ fd f attr bytes offset open_is written file mode few. kept_moved _ (kept_rewritten fd f attr bytes open_is) refl fd f offset open_is;
    open_existing = λ id flags place may.
        kept_opened s kept id flags (opening_low l s kept who p id flags place may) (λ o e. opening_side l s kept who p id flags place may o (some_same may.target.object o (sym may.target.is ∙ e)));
    open_emptied = λ id flags place attr may writes file mode. kept_emptied id flags place attr may file;
    open_made = λ dir name o place flags making file room. kept_opened (apply_changes s (creation s p.label dir name o)) (kept_made ArgsValid dir name o place making) (next_object s p.label) flags (λ h. h) (λ x e stream. refl);
    pipe = λ left free numbers. kept_piped;
    close = λ fd.
        kept_closed l s kept valid (has_fd who fd) (apply_change s (SetProcess who (without_fd p fd)))
        (kept_fds s kept _ (each-remove nat_cmp_total nat_cmp-IsAntisymmetric (λ (n : ℕ) (did : Did). low l did.label ≡ low l who.label) p.fds own.fds fd)) refl;
    attributes = λ id o attr place at written mode caps. kept_same id o (record o { attr = attr }) at refl (kept.objects id o at);
    relabel = λ id o new place at written relabelling args.
        kept_same id o (record o { label = new }) at refl (sym (write_side l s kept who p id (record { value = o; is = at }) place written) ∙ label_side l s who p id o new place relabelling);
    fork = λ left. kept_forked;
    await = λ e es first. kept_process l s kept who _ (record { label = own.label; parent = own.parent; ended = (subst (AllByRecursion (λ (x : Pid × Ending). low l x.0.label ≡ low l who.label)) first own.ended).1; fds = own.fds; cwd = own.cwd });
    end_process = λ q x how at _. kept_ended l s kept valid q x how at;
  }
