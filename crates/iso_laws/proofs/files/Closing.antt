-- Descriptors that close: what is let go, in a state and in its part, and a kept state stays kept.
use Rattle.std.specs.Prelude.{◌≡◌, ℕ, ◌&&◌, ◌||◌, not, Bool, true, false, List, [], ◌∷◌, ◌++◌, Some, None, refl, cond, map}
use Rattle.std.specs.List.{AllByRecursion, flat_map, list_any}
use Rattle.std.specs.Cmp.{nat_cmp_total}
use Rattle.std.specs.FinMap as table
use Rattle.std.specs.FinMap.{FinMap, nat_cmp-IsAntisymmetric}
use Rattle.std.proofs.Common.{sym, ◌∙◌, ap}
use Rattle.std.proofs.lemmas.Bool.{and_parts, and_from, true≢false, not-false, false_from_ne_true}
use Rattle.std.proofs.lemmas.List.Folds.{list_any-append}
use Rattle.lab_lattice.specs.Label.{Label}
use Rattle.kern_model.specs.declared.numbers.Did.{Did}
use Rattle.kern_model.specs.declared.numbers.Oid.{Oid}
use Rattle.kern_model.specs.declared.numbers.Pid.{Pid}
use Rattle.kern_model.specs.declared.objects.Object.{Object}
use Rattle.kern_model.specs.Descriptors.{Descriptor, descriptors, changes_of_close, let_go, is_let_go, is_drained, truncation}
use Rattle.kern_model.specs.Isolation.{low, Kept}
use Rattle.kern_model.specs.Keys.{did_cmp, same_oid, same_did}
use Rattle.kern_model.specs.Kinds.{is_fifo, is_stream}
use Rattle.kern_model.specs.Maps.{any_entry, where_key}
use Rattle.kern_model.specs.State.{State, Process, Description, Change, SetObject, DropDescription, apply_change, apply_changes, object_at, stub_object}
use Rattle.kern_model.specs.Valid.{IsValid}
use Rattle.kern_model.proofs.KeyLaws.{oid_cmp_exact, pid_cmp_total, pid_cmp_exact, did_cmp_total, did_cmp_exact}
use Rattle.kern_model.proofs.MapLemmas.{each-remove, get_or-found, same_key}
use Rattle.iso_laws.proofs.Changes.{kept_object, kept_dropped}
use Rattle.iso_laws.proofs.ClosingLemmas.{let_go_each, each_let_go, each_closing}
use Rattle.kern_model.proofs.KindLemmas.{fifo_stream}
use Rattle.iso_laws.proofs.Part.{part_by_number, low_did, low_pid, as_is, part_changes, part_changes-append, part_of_low, part_of_high, change_label, shown_change}
use Rattle.kern_model.proofs.Selections.{test_after, list_after, any_entry-select, flat_map-select, none_pass, one_passes, some_passes}
use Rattle.iso_laws.proofs.PartReads.{object_low}
use Rattle.iso_laws.proofs.files.Descriptors.{on_stream_low}
use Rattle.std.proofs.lemmas.Cmp.{eq_by_cmp_equiv}

-- ---- tests on the descriptors of a state
any-map : {X Y : Type 0} (p : Y → Bool) (f : X → Y) (xs : List X) → list_any p (map f xs) ≡ list_any (λ x. p (f x)) xs
any-map p f [] = refl
any-map p f (x ∷ xs) = ap (λ b. p (f x) || b) (any-map p f xs)

any-flat_map : {X Y : Type 0} (p : Y → Bool) (f : X → List Y) (xs : List X) → list_any p (flat_map f xs) ≡ list_any (λ x. list_any p (f x)) xs
any-flat_map p f [] = refl
any-flat_map p f (x ∷ xs) = list_any-append p (f x) (flat_map f xs) ∙ ap (λ b. list_any p (f x) || b) (any-flat_map p f xs)

-- whether a descriptor of a process passes a test
abbrev any_of : (Descriptor → Bool) → Pid → Process → Bool
any_of p who x = any_entry (λ (fd : ℕ) (did : Did). p (record { who = who; fd = fd; did = did })) x.fds

any_descriptor : (p : Descriptor → Bool) (s : State) → list_any p (descriptors s) ≡ any_entry (any_of p) s.procs
unfolding descriptors any_entry
any_descriptor p s =
    any-flat_map p (λ (e : Pid × Process). map (λ (f : ℕ × Did). record { who = e.0; fd = f.0; did = f.1 }) (table.entries e.1.fds)) (table.entries s.procs)
    ∙ (λ i. list_any (λ (e : Pid × Process). any-map p (λ (f : ℕ × Did). record { who = e.0; fd = f.0; did = f.1 }) (table.entries e.1.fds) i) (table.entries s.procs))

-- a descriptor of a state
pub record IsDescriptorOf (s : State) (d : Descriptor) : Type 0 where
  pub process : Process
  pub process_is : table.get s.procs d.who ≡ Some process
  pub fd_is : table.get process.fds d.fd ≡ Some d.did

-- a descriptor that passes a test
record PassingDescriptor (p : Descriptor → Bool) (s : State) : Type 0 where
  pub descriptor : Descriptor
  pub is : IsDescriptorOf s descriptor
  pub passes : p descriptor ≡ true

passing_descriptor : (p : Descriptor → Bool) (s : State) → list_any p (descriptors s) ≡ true → PassingDescriptor p s
passing_descriptor p s h =
    let holder = some_passes pid_cmp_total pid_cmp_exact (any_of p) s.procs (sym (any_descriptor p s) ∙ h) in
    let held = some_passes nat_cmp_total nat_cmp-IsAntisymmetric (λ (fd : ℕ) (did : Did). p (record { who = holder.key; fd = fd; did = did })) holder.value.fds holder.passes in
    record {
      descriptor = record { who = holder.key; fd = held.key; did = held.value };
      is = record { process = holder.value; process_is = holder.is; fd_is = held.is };
      passes = held.passes;
    }

any_descriptor_passes : (p : Descriptor → Bool) (s : State) (d : Descriptor) → IsDescriptorOf s d → p d ≡ true → list_any p (descriptors s) ≡ true
any_descriptor_passes p s d is passes =
    any_descriptor p s
    ∙ one_passes pid_cmp_total pid_cmp_exact (any_of p) s.procs d.who is.process is.process_is
    (one_passes nat_cmp_total nat_cmp-IsAntisymmetric (λ (fd : ℕ) (did : Did). p (record { who = d.who; fd = fd; did = did })) is.process.fds d.fd d.did is.fd_is passes)

both_false : (a b : Bool) → b ≡ true → (a && not b) ≡ false
both_false true b h = ap not h
both_false false b h = refl

not_both : (a b : Bool) → a ≡ true → (a && not b) ≡ false → b ≡ true
not_both true b h e = not-false b e
not_both false b h e = absurd (true≢false (sym h))

module _ (s : State) (valid : IsValid s) (goes : Descriptor → Bool) where
  abbrev pub goes_with : Did → Descriptor → Bool
  goes_with did f = goes f && same_did f.did did

  abbrev pub stays_with : Did → Descriptor → Bool
  stays_with did f = not (goes f) && same_did f.did did

  -- what a descriptor that stays refers to is not let go
  pub stays_there : (d : Descriptor) → IsDescriptorOf s d → goes d ≡ false → is_let_go s goes d.did ≡ false
  stays_there d is stays = both_false _ _ (any_descriptor_passes (stays_with d.did) s d is (and_from _ _ (ap not stays) ((eq_by_cmp_equiv did_cmp_total).refl d.did)))

  -- a description that is not let go has a descriptor that stays
  pub record StayingDescriptor (did : Did) : Type 0 where
    pub descriptor : Descriptor
    pub is : IsDescriptorOf s descriptor
    pub stays : goes descriptor ≡ false
    pub same_number : descriptor.did ≡ did

  pub staying_descriptor : (did : Did) (d : Description) → table.get s.descriptions did ≡ Some d → is_let_go s goes did ≡ false → StayingDescriptor did
  staying_descriptor did d e stays =
      let held = (valid.descriptions did d e).held in
      let first : Descriptor = record { who = held.who; fd = held.fd; did = did } in
      let first_is : IsDescriptorOf s first = record { process = held.process; process_is = held.process_is; fd_is = held.fd_is } in
      elim (goes first) as (λ b. goes first ≡ b → StayingDescriptor did) [
        | true ↦ λ gone.
            let some : list_any (goes_with did) (descriptors s) ≡ true = any_descriptor_passes (goes_with did) s first first_is (and_from _ _ gone ((eq_by_cmp_equiv did_cmp_total).refl did)) in
            let found = passing_descriptor (stays_with did) s (not_both _ _ some stays) in
            let parts = and_parts _ _ found.passes in
            record { descriptor = found.descriptor; is = found.is; stays = false_from_ne_true _ (λ t. true≢false (sym parts.0 ∙ ap not t)); same_number = same_key did_cmp_exact found.descriptor.did did parts.1 }
        | false ↦ λ stays. record { descriptor = first; is = first_is; stays = stays; same_number = refl }
      ] refl

-- a change carries a property of states
abbrev pub Preserves : (State → Type 0) → Change → Type 0
Preserves Of c = (t : State) → Of t → Of (apply_change t c)

-- what each change carries holds after all of them
pub preserved_over : (Of : State → Type 0) (cs : List Change) → AllByRecursion (Preserves Of) cs → (t : State) → Of t → Of (apply_changes t cs)
preserved_over Of [] h t of = of
preserved_over Of (c ∷ cs) h t of = preserved_over Of cs h.1 (apply_change t c) (h.0 t of)

-- ---- closing in the part
pub part_changes-flat_map : {X : Type 0} (l top : Label) (f : X → List Change) (xs : List X) → part_changes l top (flat_map f xs) ≡ flat_map (λ x. part_changes l top (f x)) xs
part_changes-flat_map l top f [] = refl
part_changes-flat_map l top f (x ∷ xs) = part_changes-append l top (f x) (flat_map f xs) ∙ ap (λ cs. part_changes l top (f x) ++ cs) (part_changes-flat_map l top f xs)

module _ (l : Label) (s : State) (kept : Kept l s) (valid : IsValid s) (goes : Descriptor → Bool) where
  abbrev part_s : State
  part_s = part_by_number l s

  -- a test that descriptors of a Low description alone pass is passed in the part where it is in the state
  any_low : (p : Descriptor → Bool) (did : Did) → low l did.label ≡ true → ((f : Descriptor) → p f ≡ true → f.did ≡ did) → list_any p (descriptors part_s) ≡ list_any p (descriptors s)
  unfolding part_by_number
  any_low p did is_low only =
      any_descriptor p part_s
      ∙ any_entry-select pid_cmp_total pid_cmp_exact (where_key (low_pid l) (as_is {X = Process})) (any_of p) (any_of p) s.procs (λ who x is.
      elim (low l who.label) as (λ b. low l who.label ≡ b → test_after (any_of p) who (cond b (Some x) None) ≡ any_of p who x) [
        | true ↦ λ _. refl
        | false ↦ λ high. sym (none_pass nat_cmp_total nat_cmp-IsAntisymmetric (λ (fd : ℕ) (q : Did). p (record { who = who; fd = fd; did = q })) x.fds (λ fd q e. false_from_ne_true _ (λ t.
            let on : q ≡ did = only (record { who = who; fd = fd; did = q }) t in
            true≢false (sym (sym (kept.fds who x fd q is e) ∙ ap (λ (z : Did). low l z.label) on ∙ is_low) ∙ high))))
      ] refl)
      ∙ sym (any_descriptor p s)

  let_go_low : (did : Did) → low l did.label ≡ true → is_let_go part_s goes did ≡ is_let_go s goes did
  let_go_low did is_low = λ i.
      any_low (λ f. goes f && same_did f.did did) did is_low (λ f t. same_key did_cmp_exact f.did did (and_parts _ _ t).1) i
      && not (any_low (λ f. not (goes f) && same_did f.did did) did is_low (λ f t. same_key did_cmp_exact f.did did (and_parts _ _ t).1) i)

  drained_low : (id : Oid) → low l id.label ≡ true → is_drained part_s goes id ≡ is_drained s goes id
  unfolding part_by_number
  drained_low id is_low =
      let p : Did → Description → Bool = λ did d. same_oid d.object id && not (is_let_go s goes did) in
      let p' : Did → Description → Bool = λ did d. same_oid d.object id && not (is_let_go part_s goes did) in
      ap (λ (o : Object). is_fifo o.kind && not (any_entry p' part_s.descriptions)) (object_low l s id is_low)
      ∙ elim (is_fifo (object_at s id).kind) as (λ b. is_fifo (object_at s id).kind ≡ b → (b && not (any_entry p' part_s.descriptions)) ≡ (b && not (any_entry p s.descriptions))) [
        | true ↦ λ fifo. ap not (any_entry-select did_cmp_total did_cmp_exact (where_key (low_did l) (as_is {X = Description})) p p' s.descriptions (λ did d is.
            elim (low l did.label) as (λ b. low l did.label ≡ b → test_after p' did (cond b (Some d) None) ≡ p did d) [
              | true ↦ λ h. ap (λ b. same_oid d.object id && not b) (let_go_low did h)
              | false ↦ λ high. sym (false_from_ne_true (p did d) (λ t.
                  true≢false (sym (on_stream_low l s kept valid id is_low (fifo_stream _ fifo) did d is (same_key oid_cmp_exact d.object id (and_parts _ _ t).0)) ∙ high)))
            ] refl))
        | false ↦ λ _. refl
      ] refl

  -- a description is on the side of an object that is drained
  drained_side : (did : Did) (d : Description) → table.get s.descriptions did ≡ Some d → is_drained s goes d.object ≡ true → low l did.label ≡ low l d.object.label
  drained_side did d e drained =
      let described = valid.descriptions did d e in
      let fifo : is_fifo described.object.kind ≡ true = ap (λ (o : Object). is_fifo o.kind) (sym (get_or-found s.objects d.object (stub_object s.top) described.object described.object_is)) ∙ (and_parts _ _ drained).0 in
      kept.streams did d described.object e described.object_is (fifo_stream described.object.kind fifo)

  shown_same : (e : Did × Description) → map (shown_change l s.top) (let_go s goes e) ≡ let_go s goes e
  shown_same e =
      elim (is_let_go s goes e.0) as (λ b. map (shown_change l s.top) (cond b (DropDescription e.0 ∷ cond (is_drained s goes e.1.object) (truncation s e.1.object ∷ []) []) []) ≡ cond b (DropDescription e.0 ∷ cond (is_drained s goes e.1.object) (truncation s e.1.object ∷ []) []) []) [
        | true ↦ elim (is_drained s goes e.1.object) as (λ c. map (shown_change l s.top) (DropDescription e.0 ∷ cond c (truncation s e.1.object ∷ []) []) ≡ DropDescription e.0 ∷ cond c (truncation s e.1.object ∷ []) []) [ true ↦ refl | false ↦ refl ]
        | false ↦ refl
      ]

  -- a description with a Low number is let go in the part as in the state
  let_go_seen : (did : Did) (d : Description) → table.get s.descriptions did ≡ Some d → low l did.label ≡ true → let_go part_s goes (did, d) ≡ part_changes l s.top (let_go s goes (did, d))
  let_go_seen did d e is_low =
      let id_low : low l d.object.label ≡ true = kept.descriptions did d e is_low in
      (λ i. cond (let_go_low did is_low i) (DropDescription did ∷ cond (drained_low d.object id_low i) (SetObject d.object (record (object_low l s d.object id_low i) { bytes = [] }) ∷ []) []) [])
      ∙ sym (shown_same (did, d))
      ∙ sym (part_of_low l s.top (let_go s goes (did, d)) (let_go_each s (λ c. low l (change_label c) ≡ true) goes (did, d) (λ _. (is_low, λ _. id_low))))

  -- the part does not see that another description is let go
  let_go_hidden : (did : Did) (d : Description) → table.get s.descriptions did ≡ Some d → low l did.label ≡ false → part_changes l s.top (let_go s goes (did, d)) ≡ []
  let_go_hidden did d e high = part_of_high l s.top (let_go s goes (did, d)) (let_go_each s (λ c. low l (change_label c) ≡ false) goes (did, d) (λ _. (high, λ drained. sym (drained_side did d e drained) ∙ high)))

  -- what closes in the part is the part of what closes in the state
  pub closing_low : changes_of_close part_s goes ≡ part_changes l s.top (changes_of_close s goes)
  unfolding changes_of_close part_by_number
  closing_low =
      let seen : Did → Description → List Change = λ did d. part_changes l s.top (let_go s goes (did, d)) in
      let in_part : Did → Description → List Change = λ did d. let_go part_s goes (did, d) in
      flat_map-select did_cmp_total did_cmp_exact (where_key (low_did l) (as_is {X = Description})) seen in_part s.descriptions (λ did d e.
      elim (low l did.label) as (λ b. low l did.label ≡ b → list_after in_part did (cond b (Some d) None) ≡ seen did d) [
        | true ↦ λ is_low. let_go_seen did d e is_low
        | false ↦ λ high. sym (let_go_hidden did d e high)
      ] refl)
      ∙ sym (part_changes-flat_map l s.top (let_go s goes) (table.entries s.descriptions))

  -- the part sees nothing where only descriptors of processes that are not Low close
  pub closing_hidden : ((d : Descriptor) → IsDescriptorOf s d → goes d ≡ true → low l d.who.label ≡ false) → part_changes l s.top (changes_of_close s goes) ≡ []
  closing_hidden hidden = part_of_high l s.top (changes_of_close s goes) (each_let_go s (λ c. low l (change_label c) ≡ false) goes (λ did d e gone.
      let found = passing_descriptor (goes_with s valid goes did) s (and_parts _ _ gone).0 in
      let f : Descriptor = found.descriptor in
      let parts = and_parts _ _ found.passes in
      let high : low l did.label ≡ false =
      ap (λ (q : Did). low l q.label) (sym (same_key did_cmp_exact f.did did parts.1)) ∙ kept.fds f.who found.is.process f.fd f.did found.is.process_is found.is.fd_is ∙ hidden f found.is parts.0 in
      (high, λ drained. sym (drained_side did d e drained) ∙ high)))

  -- a state that is kept and has the descriptions of s
  abbrev KeptWith : State → Type 0
  KeptWith t = Kept l t × ((did : Did) (d : Description) → table.get t.descriptions did ≡ Some d → table.get s.descriptions did ≡ Some d)

  -- a kept state stays kept
  pub kept_closed : (t : State) → Kept l t → t.descriptions ≡ s.descriptions → Kept l (apply_changes t (changes_of_close s goes))
  kept_closed t kept_t same_descriptions =
      (preserved_over KeptWith (changes_of_close s goes) (each_closing s (Preserves KeptWith)
      (λ did u h. (kept_dropped l u h.0 did, each-remove did_cmp_total did_cmp_exact (λ (q : Did) (x : Description). table.get s.descriptions q ≡ Some x) u.descriptions h.1 did))
      (λ did d e u h.
      let described = valid.descriptions did d e in
      let at : object_at s d.object ≡ described.object = get_or-found s.objects d.object (stub_object s.top) described.object described.object_is in (
        kept_object l u h.0 d.object (record (object_at s d.object) { bytes = [] }) (kept.objects d.object described.object described.object_is ∙ ap (λ (o : Object). low l o.label) (sym at))
            (λ q x e_u on stream. kept.streams q x described.object (h.1 q x e_u) (ap (table.get s.objects) on ∙ described.object_is) (ap (λ (o : Object). is_stream o.kind) (sym at) ∙ stream)),
        h.1,
      ))
      goes)
      t (kept_t, λ did d e. ap (λ (m : FinMap did_cmp Description). table.get m did) (sym same_descriptions) ∙ e)).0
