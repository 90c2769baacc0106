-- The state once descriptors closed: a valid state stays valid.
use Rattle.std.specs.Prelude.{◌≡◌, ◌⊎◌, ℕ, ◌==◌, ◌&&◌, not, Bool, true, false, List, [], ◌∷◌, Some, None, refl, cond}
use Rattle.std.specs.List.{flat_map}
use Rattle.std.specs.Ordering.{nat_cmp, eq_by_cmp}
use Rattle.std.specs.Cmp.{nat_cmp_total}
use Rattle.std.specs.FinMap as table
use Rattle.std.specs.FinMap.{FinMap, nat_cmp-IsAntisymmetric, find, get-insert, get-remove, get-entries}
use Rattle.std.proofs.Common.{sym, ◌∙◌, ap, subst, arith, inl, inr}
use Rattle.std.proofs.lemmas.Bool.{and_parts, and_from, true≢false, eqb-true, eqb-false, false_from_ne_true}
use Rattle.lab_lattice.specs.Label.{dominates}
use Rattle.kern_model.specs.declared.numbers.Did.{Did}
use Rattle.kern_model.specs.declared.numbers.Oid.{Oid}
use Rattle.kern_model.specs.declared.numbers.Pid.{Pid}
use Rattle.kern_model.specs.declared.objects.Kind.TheVariants as kind
use Rattle.kern_model.specs.declared.objects.Object.{Object}
use Rattle.kern_model.specs.Descriptors.{Descriptor, changes_of_close, let_go, is_let_go, is_drained, truncation, any_open}
use Rattle.kern_model.specs.Keys.{pid_cmp, did_cmp, same_oid, same_pid}
use Rattle.kern_model.specs.Kinds.{is_fifo}
use Rattle.kern_model.specs.State.{State, Process, Description, Change, SetObject, SetProcess, DropDescription, apply_change, apply_changes, object_at, stub_object}
use Rattle.kern_model.specs.Valid.{IsValid, IsThere, IsValidObject, IsValidProcess}
use Rattle.kern_model.proofs.KeyLaws.{oid_cmp_total, oid_cmp_exact, pid_cmp_total, pid_cmp_exact, did_cmp_total, did_cmp_exact}
use Rattle.kern_model.proofs.MapLemmas.{each-insert, get-insert_same, get_or-found, never_some, same_key, some_same}
use Rattle.iso_laws.proofs.AllLemmas.{all_each, all_always}
use Rattle.iso_laws.proofs.ClosingLemmas.{let_go_each, each_closing}
use Rattle.kern_model.proofs.Selections.{none_pass, none_passes, some_passes, get-remove_same, get-remove_other, get-remove_none}
use Rattle.iso_laws.proofs.files.Changes.{IsLike, with_open, open_object_in, open_process_in, valid_open}
use Rattle.iso_laws.proofs.files.Closing.{IsDescriptorOf, Preserves, preserved_over, stays_there, staying_descriptor}
use Rattle.iso_laws.proofs.KeyLemmas.{still_there}
use Rattle.std.proofs.lemmas.Cmp.{eq_by_cmp_equiv}
use Rattle.iso_laws.proofs.ValidIn.{HasValidContent, content_of, IsValidAlone, alone_of}
use Rattle.kern_model.proofs.StateLemmas.{apply_changes-append}

-- ---- the descriptions and objects that are left
module _ (s : State) (goes : Descriptor → Bool) where
  abbrev going : List (Did × Description) → List Change
  going = flat_map (let_go s goes)

  -- one description goes, with the bytes of an object or without
  dropped : (did : Did) (id : Oid) (b : Bool) (t : State) → (apply_changes t (DropDescription did ∷ cond b (truncation s id ∷ []) [])).descriptions ≡ table.remove t.descriptions did
  dropped did id true t = refl
  dropped did id false t = refl

  -- other descriptions stay
  one_stays : (did : Did) (e : Did × Description) → (is_let_go s goes e.0 ≡ true → eq_by_cmp did_cmp did e.0 ≡ false) → (t : State) → table.get (apply_changes t (let_go s goes e)).descriptions did ≡ table.get t.descriptions did
  one_stays did e other t =
      elim (is_let_go s goes e.0) as (λ b. is_let_go s goes e.0 ≡ b → table.get (apply_changes t (cond b (DropDescription e.0 ∷ cond (is_drained s goes e.1.object) (truncation s e.1.object ∷ []) []) [])).descriptions did ≡ table.get t.descriptions did) [
        | true ↦ λ gone. ap (λ m. table.get m did) (dropped e.0 e.1.object (is_drained s goes e.1.object) t) ∙ get-remove_other did_cmp_total t.descriptions e.0 did (other gone)
        | false ↦ λ _. refl
      ] refl

  -- a description that is not let go is left
  listed_stays : (did : Did) → is_let_go s goes did ≡ false → (es : List (Did × Description)) (t : State) → table.get (apply_changes t (going es)).descriptions did ≡ table.get t.descriptions did
  listed_stays did stays [] t = refl
  listed_stays did stays (e ∷ es) t =
      ap (λ (u : State). table.get u.descriptions did) (apply_changes-append t (let_go s goes e) (going es))
      ∙ listed_stays did stays es (apply_changes t (let_go s goes e))
      ∙ one_stays did e (λ gone. false_from_ne_true _ (λ same. true≢false (sym gone ∙ ap (is_let_go s goes) (sym (same_key did_cmp_exact did e.0 same)) ∙ stays))) t

  -- what the changes of closing carry holds after those of any list of descriptions
  going_preserves : (Of : State → Type 0) → ((did : Did) → Preserves Of (DropDescription did)) → ((id : Oid) → Preserves Of (truncation s id)) → (es : List (Did × Description)) (t : State) → Of t → Of (apply_changes t (going es))
  going_preserves Of drop empty es =
      preserved_over Of (going es)
      (all_each (λ (e : Did × Description). Unit {0}) (Preserves Of) (let_go s goes) (λ e _. let_go_each s (Preserves Of) goes e (λ _. (drop e.0, λ _. empty e.1.object))) es (all_always (λ (e : Did × Description). Unit {0}) (λ e. tt) es))

  -- a description that is let go is gone
  listed_goes : (did : Did) → is_let_go s goes did ≡ true → (es : List (Did × Description)) (t : State) → table.get t.descriptions did ≡ find did_cmp did es → table.get (apply_changes t (going es)).descriptions did ≡ None
  listed_goes did gone [] t at = at
  listed_goes did gone (e ∷ es) t at =
      let after : State = apply_changes t (let_go s goes e) in
      ap (λ (u : State). table.get u.descriptions did) (apply_changes-append t (let_go s goes e) (going es))
      ∙ elim (eq_by_cmp did_cmp did e.0) as (λ b. eq_by_cmp did_cmp did e.0 ≡ b → table.get t.descriptions did ≡ cond b (Some e.1) (find did_cmp did es) → table.get (apply_changes after (going es)).descriptions did ≡ None) [
        | true ↦ λ same _.
            let on : did ≡ e.0 = same_key did_cmp_exact did e.0 same in
            let none : table.get after.descriptions did ≡ None =
            ap (λ b. table.get (apply_changes t (cond b (DropDescription e.0 ∷ cond (is_drained s goes e.1.object) (truncation s e.1.object ∷ []) []) [])).descriptions did) (ap (is_let_go s goes) (sym on) ∙ gone)
            ∙ ap (λ m. table.get m did) (dropped e.0 e.1.object (is_drained s goes e.1.object) t) ∙ ap (table.get (table.remove t.descriptions e.0)) on ∙ get-remove_same did_cmp_total t.descriptions e.0 in
            going_preserves (λ u. table.get u.descriptions did ≡ None) (λ q u none_u. get-remove_none did_cmp_total u.descriptions q did none_u) (λ id u none_u. none_u) es after none
        | false ↦ λ other at_es. listed_goes did gone es after (one_stays did e (λ _. other) t ∙ at_es)
      ] refl at

  -- what has the number has no bytes
  abbrev IsEmptyAt : Oid → State → Type 0
  IsEmptyAt id t = (o : Object) → table.get t.objects id ≡ Some o → o.bytes ≡ []

  set_empty : (id at : Oid) → Preserves (IsEmptyAt id) (truncation s at)
  set_empty id at t h o e =
      each-insert oid_cmp_total oid_cmp_exact (λ (k : Oid) (x : Object). k ≡ id → x.bytes ≡ []) t.objects (λ k x is on. h x (ap (table.get t.objects) (sym on) ∙ is)) at (record (object_at s at) { bytes = [] }) (λ _. refl) id o e refl

  now_empty : (id : Oid) (t : State) → IsEmptyAt id (apply_change t (truncation s id))
  now_empty id t o e = ap (λ (x : Object). x.bytes) (some_same o (record (object_at s id) { bytes = [] }) (sym e ∙ get-insert_same oid_cmp_total t.objects id (record (object_at s id) { bytes = [] })))

  -- an object that is drained is empty once a description of it is let go
  listed_drains : (did : Did) (d : Description) → is_let_go s goes did ≡ true → is_drained s goes d.object ≡ true → (es : List (Did × Description)) (t : State) → find did_cmp did es ≡ Some d → IsEmptyAt d.object (apply_changes t (going es))
  listed_drains did d gone drained [] t at = absurd (never_some None d refl at)
  listed_drains did d gone drained (e ∷ es) t at =
      subst (IsEmptyAt d.object) (sym (apply_changes-append t (let_go s goes e) (going es)))
      (elim (eq_by_cmp did_cmp did e.0) as (λ b. eq_by_cmp did_cmp did e.0 ≡ b → cond b (Some e.1) (find did_cmp did es) ≡ Some d → IsEmptyAt d.object (apply_changes (apply_changes t (let_go s goes e)) (going es))) [
        | true ↦ λ same at_e.
            let first : let_go s goes e ≡ DropDescription did ∷ truncation s d.object ∷ [] =
            (λ i. let_go s goes (sym (same_key did_cmp_exact did e.0 same) i, some_same e.1 d at_e i))
            ∙ (λ i. cond (gone i) (DropDescription did ∷ cond (drained i) (truncation s d.object ∷ []) []) []) in
            going_preserves (IsEmptyAt d.object) (λ q u h. h) (set_empty d.object) es (apply_changes t (let_go s goes e)) (subst (λ cs. IsEmptyAt d.object (apply_changes t cs)) (sym first) (now_empty d.object (apply_change t (DropDescription did))))
        | false ↦ λ _ at_es. listed_drains did d gone drained es (apply_changes t (let_go s goes e)) at_es
      ] refl at)

-- an object is one of the state, with its bytes or without
record IsLeft (s : State) (id : Oid) (o : Object) : Type 0 where
  pub old : Object
  pub is : table.get s.objects id ≡ Some old
  pub same_but : o ≡ record old { bytes = o.bytes }
  pub bytes : (o.bytes ≡ old.bytes) ⊎ (o.bytes ≡ [])

-- content stays valid without its bytes
content_left : (old : Object) (bytes : List ℕ) → HasValidContent old → (bytes ≡ old.bytes) ⊎ (bytes ≡ []) → HasValidContent (record old { bytes = bytes })
content_left old bytes content (inl same) = subst (λ (bs : List ℕ). HasValidContent (record old { bytes = bs })) (sym same) content
content_left old bytes content (inr none) =
    subst (λ (bs : List ℕ). HasValidContent (record old { bytes = bs })) (sym none)
    (record { mode = content.mode; only_files = content.only_files; dir_bytes = λ _. refl; file_bytes = λ _. omega arith; stream_bytes = λ _. omega arith })

module _ (s : State) (valid : IsValid s) (goes : Descriptor → Bool) (procs : FinMap pid_cmp Process) where
  -- the state once descriptors closed, with other processes
  abbrev start : State
  start = record s { procs = procs }

  abbrev pub after_closing : State
  after_closing = apply_changes start (changes_of_close s goes)

  -- what no closing alters
  unaltered : {X : Type 0} (of : State → X) → ((t : State) (did : Did) → of (apply_change t (DropDescription did)) ≡ of t) → ((t : State) (id : Oid) (o : Object) → of (apply_change t (SetObject id o)) ≡ of t) → of after_closing ≡ of start
  unaltered of drop set =
      preserved_over (λ t. of t ≡ of start) (changes_of_close s goes) (each_closing s (Preserves (λ t. of t ≡ of start)) (λ did t h. drop t did ∙ h) (λ did d _ t h. set t d.object _ ∙ h) goes) start refl

  -- the state once descriptors closed has other objects and descriptions
  pub closed_is : after_closing ≡ with_open s after_closing.objects procs after_closing.descriptions s.process_numbers s.description_numbers
  closed_is =
      let entries = unaltered (λ t. t.entries) (λ t did. refl) (λ t id o. refl) in
      let living = unaltered (λ t. t.procs) (λ t did. refl) (λ t id o. refl) in
      let object_numbers = unaltered (λ t. t.object_numbers) (λ t did. refl) (λ t id o. refl) in
      let process_numbers = unaltered (λ t. t.process_numbers) (λ t did. refl) (λ t id o. refl) in
      let description_numbers = unaltered (λ t. t.description_numbers) (λ t did. refl) (λ t id o. refl) in
      let bound = unaltered (λ t. t.bound) (λ t did. refl) (λ t id o. refl) in
      let top = unaltered (λ t. t.top) (λ t did. refl) (λ t id o. refl) in
      λ i. record after_closing { entries = entries i; procs = living i; object_numbers = object_numbers i; process_numbers = process_numbers i; description_numbers = description_numbers i; bound = bound i; top = top i }

  -- each description that is left was there, and is not let go
  was_there : (did : Did) (d : Description) → table.get after_closing.descriptions did ≡ Some d → (table.get s.descriptions did ≡ Some d) × (is_let_go s goes did ≡ false)
  unfolding changes_of_close
  was_there did d e =
      elim (is_let_go s goes did) as (λ b. is_let_go s goes did ≡ b → (table.get s.descriptions did ≡ Some d) × (b ≡ false)) [
        | true ↦ λ gone. absurd (never_some (table.get after_closing.descriptions did) d (listed_goes s goes did gone (table.entries s.descriptions) start (get-entries s.descriptions did)) e)
        | false ↦ λ stays. (sym (listed_stays s goes did stays (table.entries s.descriptions) start) ∙ e, refl)
      ] refl

  same_there : (did : Did) → is_let_go s goes did ≡ false → table.get after_closing.descriptions did ≡ table.get s.descriptions did
  unfolding changes_of_close
  same_there did stays = listed_stays s goes did stays (table.entries s.descriptions) start

  drains : (did : Did) (d : Description) → table.get s.descriptions did ≡ Some d → is_let_go s goes did ≡ true → is_drained s goes d.object ≡ true → IsEmptyAt s goes d.object after_closing
  unfolding changes_of_close
  drains did d e gone drained = listed_drains s goes did d gone drained (table.entries s.descriptions) start (sym (get-entries s.descriptions did) ∙ e)

  abbrev AreLeft : State → Type 0
  AreLeft t = ((id : Oid) (o : Object) → table.get t.objects id ≡ Some o → IsLeft s id o) × ((id : Oid) → IsThere s.objects id → IsThere t.objects id)

  -- each object that is left is one of the state, and each one of the state is left
  are_left : AreLeft after_closing
  are_left = preserved_over AreLeft (changes_of_close s goes) (each_closing s (Preserves AreLeft) (λ did t h. h) (λ did d e t h.
      let described = valid.descriptions did d e in
      let at : object_at s d.object ≡ described.object = get_or-found s.objects d.object (stub_object s.top) described.object described.object_is in (
        each-insert oid_cmp_total oid_cmp_exact (IsLeft s) t.objects h.0 d.object (record (object_at s d.object) { bytes = [] }) (record { old = described.object; is = described.object_is; same_but = λ i. record (at i) { bytes = [] }; bytes = inr refl }),
        λ id there. still_there oid_cmp_total t.objects d.object _ id (h.1 id there),
      )) goes)
      start (λ id o e. record { old = o; is = e; same_but = refl; bytes = inl refl }, λ id there. there)

  left_like : (id : Oid) (o : Object) → table.get after_closing.objects id ≡ Some o → IsLike s.objects id o
  left_like id o e =
      let left : IsLeft s id o = are_left.0 id o e in
      record { object = left.old; is = left.is; kind_is = ap (λ (x : Object). x.kind) (sym left.same_but); label_is = ap (λ (x : Object). x.label) (sym left.same_but) }

  still_like : (id : Oid) (o : Object) → table.get s.objects id ≡ Some o → IsLike after_closing.objects id o
  still_like id o e =
      let there = are_left.1 id (record { value = o; is = e }) in
      let was : IsLike s.objects id there.value = left_like id there.value there.is in
      let same : was.object ≡ o = some_same was.object o (sym was.is ∙ e) in
      record { object = there.value; is = there.is; kind_is = sym was.kind_is ∙ ap (λ (x : Object). x.kind) same; label_is = sym was.label_is ∙ ap (λ (x : Object). x.label) same }

  abbrev pub closed_state : State
  closed_state = with_open s after_closing.objects procs after_closing.descriptions s.process_numbers s.description_numbers

  -- a FIFO of which no description is left is empty
  fifo_empty : (id : Oid) (o : Object) → table.get after_closing.objects id ≡ Some o → o.kind ≡ kind.Fifo → any_open closed_state (λ d. true) id ≡ false → o.bytes ≡ []
  fifo_empty id o e fifo none =
      let left : IsLeft s id o = are_left.0 id o e in
      let on : Did → Description → Bool = λ did d. same_oid d.object id && true in
      let old_fifo : left.old.kind ≡ kind.Fifo = ap (λ (x : Object). x.kind) (sym left.same_but) ∙ fifo in
      let goes_too : (did : Did) (d : Description) → table.get s.descriptions did ≡ Some d → on did d ≡ true → is_let_go s goes did ≡ true = λ did d e_d t.
      elim (is_let_go s goes did) as (λ b. is_let_go s goes did ≡ b → b ≡ true) [
        | true ↦ λ _. refl
        | false ↦ λ stays. absurd (true≢false (sym t ∙ none_passes did_cmp_total did_cmp_exact on after_closing.descriptions none did d (same_there did stays ∙ e_d)))
      ] refl in
      elim (any_open s (λ d. true) id) as (λ b. any_open s (λ d. true) id ≡ b → o.bytes ≡ []) [
        | true ↦ λ some.
            let found = some_passes did_cmp_total did_cmp_exact on s.descriptions some in
            let at : found.value.object ≡ id = same_key oid_cmp_exact found.value.object id (and_parts _ _ found.passes).0 in
            let is_fifo_at : is_fifo (object_at s id).kind ≡ true = ap (λ (x : Object). is_fifo x.kind) (get_or-found s.objects id (stub_object s.top) left.old left.is) ∙ ap is_fifo old_fifo in
            let drained : is_drained s goes id ≡ true =
            and_from _ _ is_fifo_at (ap not (none_pass did_cmp_total did_cmp_exact (λ (did : Did) (d : Description). same_oid d.object id && not (is_let_go s goes did)) s.descriptions (λ did d e_d.
            elim (same_oid d.object id) as (λ b. same_oid d.object id ≡ b → (b && not (is_let_go s goes did)) ≡ false) [ true ↦ λ t. ap not (goes_too did d e_d (and_from _ _ t refl)) | false ↦ λ _. refl ] refl))) in
            drains found.key found.value found.is (goes_too found.key found.value found.is found.passes) (ap (is_drained s goes) at ∙ drained) o (ap (table.get after_closing.objects) at ∙ e)
        | false ↦ λ unopened. elim left.bytes as (λ w. o.bytes ≡ []) [ inl same_bytes ↦ same_bytes ∙ (valid.objects id left.old left.is).fifo_bytes old_fifo unopened | inr empty ↦ empty ]
      ] refl

  closed_object : (id : Oid) (o : Object) → table.get after_closing.objects id ≡ Some o → IsValidObject closed_state id o
  closed_object id o e =
      let left : IsLeft s id o = are_left.0 id o e in
      let old = valid.objects id left.old left.is in
      open_object_in s after_closing.objects procs after_closing.descriptions s.process_numbers s.description_numbers id left.old o old (ap (λ (x : Object). x.kind) left.same_but) (ap (λ (x : Object). dominates s.top x.label) left.same_but ∙ old.below)
      (subst HasValidContent (sym left.same_but) (content_left left.old o.bytes (content_of s id left.old old) left.bytes)) (fifo_empty id o e)

  -- a state is valid once descriptors closed, where each process is valid, and has what it had but for the descriptors that close
  pub valid_closed : ((who : Pid) (p : Process) → table.get procs who ≡ Some p → IsValidAlone s who p)
      → ((who : Pid) (p : Process) → table.get procs who ≡ Some p → (q : Pid) → p.parent ≡ Some q → IsThere procs q)
      → ((d : Descriptor) → IsDescriptorOf start d → IsDescriptorOf s d × (goes d ≡ false))
      → ((d : Descriptor) → IsDescriptorOf s d → goes d ≡ false → IsDescriptorOf start d)
      → IsValid after_closing
  valid_closed alone parents stayed stay =
      subst IsValid (sym closed_is)
      (valid_open s after_closing.objects procs after_closing.descriptions s.process_numbers s.description_numbers valid still_like left_like closed_object
      (λ who p e. open_process_in s after_closing.objects procs after_closing.descriptions s.process_numbers s.description_numbers still_like (λ label n h. h) who p (alone who p e) (parents who p e) (λ fd did e_fd.
      let d : Descriptor = record { who = who; fd = fd; did = did } in
      let was = stayed d (record { process = p; process_is = e; fd_is = e_fd }) in
      let has = (valid.procs who was.0.process was.0.process_is).fds fd did was.0.fd_is in
      (has.0, record { value = has.1.value; is = same_there did (stays_there s valid goes d was.0 was.1) ∙ has.1.is })))
      (λ did d e.
      let was = was_there did d e in
      let described = valid.descriptions did d was.0 in
      let object : IsLike after_closing.objects d.object described.object = still_like d.object described.object described.object_is in
      let holder = staying_descriptor s valid goes did d was.0 was.1 in
      let holds : IsDescriptorOf start holder.descriptor = stay holder.descriptor holder.is holder.stays in
      record {
        drawn_already = described.drawn_already;
        object = object.object;
        object_is = object.is;
        no_dir = λ dir. described.no_dir (sym object.kind_is ∙ dir);
        held = record { who = holder.descriptor.who; process = holds.process; fd = holder.descriptor.fd; process_is = holds.process_is; fd_is = holds.fd_is ∙ ap (λ (q : Did). Some q) holder.same_number };
      })
      valid.process_numbers valid.description_numbers)

-- ---- one descriptor of a process closes
-- whether it is the descriptor of the process that has a number
abbrev pub has_fd : Pid → ℕ → Descriptor → Bool
has_fd who fd d = same_pid d.who who && d.fd == fd

-- a process without the descriptor of a number
abbrev pub without_fd : Process → ℕ → Process
without_fd p fd = record p { fds = table.remove p.fds fd }

module _ (s : State) (who : Pid) (p : Process) (is : table.get s.procs who ≡ Some p) (fd : ℕ) where
  abbrev without : Process
  without = without_fd p fd

  abbrev procs_without : FinMap pid_cmp Process
  procs_without = table.insert s.procs who without

  other_fd : (n : ℕ) → (n == fd) ≡ false → eq_by_cmp nat_cmp n fd ≡ false
  other_fd n other = false_from_ne_true _ (λ t. eqb-false n fd other (same_key nat_cmp-IsAntisymmetric n fd t))

  fd_itself : (n : ℕ) → eq_by_cmp nat_cmp n fd ≡ false → (n == fd) ≡ false
  fd_itself n other = false_from_ne_true _ (λ t. true≢false (sym ((eq_by_cmp_equiv nat_cmp_total).refl n) ∙ ap (eq_by_cmp nat_cmp n) (eqb-true n fd t) ∙ other))

  -- what is open then was open, and does not close
  was_open : (d : Descriptor) → IsDescriptorOf (record s { procs = procs_without }) d → IsDescriptorOf s d × (has_fd who fd d ≡ false)
  was_open d of =
      elim (eq_by_cmp pid_cmp d.who who) as (λ b. eq_by_cmp pid_cmp d.who who ≡ b → cond b (Some without) (table.get s.procs d.who) ≡ Some of.process → IsDescriptorOf s d × ((b && d.fd == fd) ≡ false)) [
        | true ↦ λ t e.
            let mine : without ≡ of.process = some_same without of.process e in
            let left : cond (eq_by_cmp nat_cmp d.fd fd) None (table.get p.fds d.fd) ≡ Some d.did = sym (get-remove nat_cmp_total p.fds fd d.fd) ∙ ap (λ (x : Process). table.get x.fds d.fd) mine ∙ of.fd_is in
            elim (eq_by_cmp nat_cmp d.fd fd) as (λ b. eq_by_cmp nat_cmp d.fd fd ≡ b → cond b None (table.get p.fds d.fd) ≡ Some d.did → IsDescriptorOf s d × ((d.fd == fd) ≡ false)) [
              | true ↦ λ _ none. absurd (never_some None d.did refl none)
              | false ↦ λ other fd_is. (record { process = p; process_is = ap (table.get s.procs) (same_key pid_cmp_exact d.who who t) ∙ is; fd_is = fd_is }, fd_itself d.fd other)
            ] refl left
        | false ↦ λ _ e. (record { process = of.process; process_is = e; fd_is = of.fd_is }, refl)
      ] refl (sym (get-insert pid_cmp_total s.procs who without d.who) ∙ of.process_is)

  -- what was open and does not close is open still
  stays_open : (d : Descriptor) → IsDescriptorOf s d → has_fd who fd d ≡ false → IsDescriptorOf (record s { procs = procs_without }) d
  stays_open d of stays =
      elim (eq_by_cmp pid_cmp d.who who) as (λ b. eq_by_cmp pid_cmp d.who who ≡ b → (b && d.fd == fd) ≡ false → IsDescriptorOf (record s { procs = procs_without }) d) [
        | true ↦ λ t other.
            let mine : of.process ≡ p = some_same of.process p (sym of.process_is ∙ ap (table.get s.procs) (same_key pid_cmp_exact d.who who t) ∙ is) in
            record {
              process = without;
              process_is = get-insert pid_cmp_total s.procs who without d.who ∙ ap (λ b. cond b (Some without) (table.get s.procs d.who)) t;
              fd_is = get-remove_other nat_cmp_total p.fds fd d.fd (other_fd d.fd other) ∙ ap (λ (x : Process). table.get x.fds d.fd) (sym mine) ∙ of.fd_is;
            }
        | false ↦ λ t _. record { process = of.process; process_is = get-insert pid_cmp_total s.procs who without d.who ∙ ap (λ b. cond b (Some without) (table.get s.procs d.who)) t ∙ of.process_is; fd_is = of.fd_is }
      ] refl stays

  -- a valid state stays valid
  pub valid_close : IsValid s → IsValid (apply_changes s (SetProcess who without ∷ changes_of_close s (has_fd who fd)))
  valid_close valid =
      let own : IsValidProcess s who p = valid.procs who p is in
      let still : (q : Pid) → IsThere s.procs q → IsThere procs_without q = still_there pid_cmp_total s.procs who without in
      valid_closed s valid (has_fd who fd) procs_without
      (each-insert pid_cmp_total pid_cmp_exact (IsValidAlone s) s.procs (λ q x e. alone_of s q x (valid.procs q x e)) who without
      (record { below = own.below; drawn_already = own.drawn_already; within = own.within; umask = own.umask; few_groups = own.few_groups; cwd = own.cwd; ended = own.ended }))
      (each-insert pid_cmp_total pid_cmp_exact (λ (q : Pid) (x : Process). (r : Pid) → x.parent ≡ Some r → IsThere procs_without r) s.procs (λ q x e r at. still r ((valid.procs q x e).parent r at)) who without (λ r at. still r (own.parent r at)))
      was_open stays_open
