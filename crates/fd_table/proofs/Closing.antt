-- What `close` and `drop_process` leave, as the changes that the rows make.
use Rattle.std.specs.Prelude.{◌≡◌, ◌||◌, ◌&&◌, ◌==◌, not, ℕ, Bool, true, false, List, [], ◌∷◌, ◌++◌, Option, Some, None, cond, refl}
use Rattle.std.specs.Prelude as list
use Rattle.std.specs.Ordering.{nat_cmp}
use Rattle.std.specs.Option.{option_map}
use Rattle.std.specs.List.{flat_map, list_any}
use Rattle.std.specs.Cmp.{eq_by_cmp_equiv, nat_cmp_total, unsigned_tied}
use Rattle.std.specs.FinMap as map
use Rattle.std.specs.FinMap.{FinMap, get-empty, get-insert, get-remove, nat_cmp-IsAntisymmetric, same_map}
use Rattle.std.proofs.Common.{ap, sym, ◌∙◌}
use Rattle.std.proofs.lemmas.Bool.{true≢false}
use Rattle.std.proofs.lemmas.List.Folds.{list_any-append}
use Rattle.kern_model.specs.declared.calls.Ending.{Ending}
use Rattle.kern_model.specs.declared.numbers.Did.{Did}
use Rattle.kern_model.specs.declared.numbers.Oid.{Oid}
use Rattle.kern_model.specs.declared.numbers.Pid.{Pid}
use Rattle.kern_model.specs.declared.objects.Object.{Object}
use Rattle.kern_model.specs.Descriptors.{Descriptor, changes_of_close, descriptors, truncation, is_drained, is_let_go, let_go}
use Rattle.kern_model.specs.Keys.{did_cmp, oid_cmp, pid_cmp, same_did, same_oid, same_pid}
use Rattle.kern_model.specs.Kinds.{is_fifo}
use Rattle.kern_model.specs.Maps.{any_entry}
use Rattle.kern_model.specs.ProcessRows.{ending_of, changes_after_end}
use Rattle.kern_model.specs.State.{State, Process, Description, DropDescription, DropProcess, SetProcess, apply_change, apply_changes, object_at, stub_object}
use Rattle.kern_model.specs.Valid.{IsHeld, IsThere}
use Rattle.kern_model.proofs.KeyLaws.{did_cmp_total, did_cmp_exact, oid_cmp_total, oid_cmp_exact, pid_cmp_total, pid_cmp_exact}
use Rattle.kern_model.proofs.MapLemmas.{get_or-absent, get_or-found, get_or-same, never_some, same_key}
use Rattle.kern_model.proofs.Selections.{none_pass, none_passes}
use Rattle.kern_model.proofs.SortedEntries.{same_itself}
use Rattle.fd_table.specs.Files.{OpenFiles, objects_after_close, emptied_if, is_held, is_open, is_unused, left_with}
use Rattle.fd_table.specs.Fds.{AllFds, Fds, fds_of}
use Rattle.fd_table.proofs.Dropping.{get-gone, get-kept, held_by}
use Rattle.fd_table.proofs.Leaving.{get-drained}
use Rattle.kern_model.proofs.StateLemmas.{apply_changes-append}

-- a table that has the descriptors of the processes of a state, and its descriptions, each of which some process holds
pub record Shows (s : State) (t : OpenFiles) : Type 0 where
  pub descriptions : s.descriptions ≡ t.descriptions
  pub fds : (who : Pid) (p : Process) → map.get s.procs who ≡ Some p → p.fds ≡ fds_of t.processes who
  pub living : (who : Pid) (fd : ℕ) (did : Did) → map.get (fds_of t.processes who) fd ≡ Some did → IsThere s.procs who
  pub held : (did : Did) (d : Description) → map.get s.descriptions did ≡ Some d → IsHeld s did

-- ---- tests
pub same_tests : (b c : Bool) → (b ≡ false → c ≡ false) → (c ≡ false → b ≡ false) → b ≡ c
same_tests true true f g = refl
same_tests false false f g = refl
same_tests true false f g = g refl
same_tests false true f g = sym (f refl)

both_false : (a b : Bool) → b ≡ false → (a && b) ≡ false
both_false true b e = e
both_false false b e = refl

turned : (a b : Oid) → same_oid a b ≡ same_oid b a
turned a b = (eq_by_cmp_equiv oid_cmp_total).symm a b

-- ---- the descriptors of all processes
abbrev descriptor : Pid → ℕ × Did → Descriptor
descriptor who f = record { who = who; fd = f.0; did = f.1 }

any_mapped : {A B : Type 0} (p : B → Bool) (f : A → B) (xs : List A) → list_any p (list.map f xs) ≡ list_any (λ x. p (f x)) xs
any_mapped p f [] = refl
any_mapped p f (x ∷ xs) = ap (λ b. p (f x) || b) (any_mapped p f xs)

any_joined : {A B : Type 0} (p : B → Bool) (f : A → List B) (xs : List A) → list_any p (flat_map f xs) ≡ list_any (λ x. list_any p (f x)) xs
any_joined p f [] = refl
any_joined p f (x ∷ xs) = list_any-append p (f x) (flat_map f xs) ∙ ap (λ b. list_any p (f x) || b) (any_joined p f xs)

module _ (s : State) (p : Descriptor → Bool) where
  abbrev in_process : Pid → Process → Bool
  in_process who q = any_entry (λ (fd : ℕ) (did : Did). p (record { who = who; fd = fd; did = did })) q.fds

  by_process : list_any p (descriptors s) ≡ any_entry in_process s.procs
  unfolding descriptors any_entry
  by_process =
      any_joined p (λ (e : Pid × Process). list.map (descriptor e.0) (map.entries e.1.fds)) (map.entries s.procs)
      ∙ ap (λ (test : Pid × Process → Bool). list_any test (map.entries s.procs)) (λ i e. any_mapped p (descriptor e.0) (map.entries e.1.fds) i)

  -- where no descriptor passes, that of a process does not
  none_at : list_any p (descriptors s) ≡ false → (who : Pid) (q : Process) → map.get s.procs who ≡ Some q → (fd : ℕ) (did : Did) → map.get q.fds fd ≡ Some did → p (record { who = who; fd = fd; did = did }) ≡ false
  none_at never who q is fd did at =
      none_passes nat_cmp_total nat_cmp-IsAntisymmetric (λ (fd : ℕ) (did : Did). p (record { who = who; fd = fd; did = did })) q.fds
      (none_passes pid_cmp_total pid_cmp_exact in_process s.procs (sym by_process ∙ never) who q is) fd did at

  -- and where each does not, none passes
  none_all : ((who : Pid) (q : Process) → map.get s.procs who ≡ Some q → (fd : ℕ) (did : Did) → map.get q.fds fd ≡ Some did → p (record { who = who; fd = fd; did = did }) ≡ false) → list_any p (descriptors s) ≡ false
  none_all h = by_process ∙ none_pass pid_cmp_total pid_cmp_exact in_process s.procs (λ who q is.
      none_pass nat_cmp_total nat_cmp-IsAntisymmetric (λ (fd : ℕ) (did : Did). p (record { who = who; fd = fd; did = did })) q.fds (h who q is))

-- ---- whether a description is held
module _ (processes : AllFds) (q : Did) where
  abbrev on_it : ℕ → Did → Bool
  on_it fd did = same_did did q

  abbrev in_fds : Pid → Fds → Bool
  in_fds who fds = any_entry on_it fds

  -- no descriptor refers to what is not held
  not_held : is_held processes q ≡ false → (who : Pid) (fd : ℕ) (did : Did) → map.get (fds_of processes who) fd ≡ Some did → same_did did q ≡ false
  unfolding is_held
  not_held never who fd did at = elim (map.get processes who) as (λ w. map.get processes who ≡ w → same_did did q ≡ false) [
    | None ↦ λ none. absurd (never_some (map.get (fds_of processes who) fd) did (ap (λ (fds : Fds). map.get fds fd) (get_or-absent processes who map.empty none) ∙ get-empty nat_cmp fd) at)
    | Some fds ↦ λ there.
        none_passes nat_cmp_total nat_cmp-IsAntisymmetric on_it fds (none_passes pid_cmp_total pid_cmp_exact in_fds processes never who fds there) fd did
        (ap (λ (m : Fds). map.get m fd) (sym (get_or-found processes who map.empty fds there)) ∙ at)
  ] refl

  none_hold : ((who : Pid) (fd : ℕ) (did : Did) → map.get (fds_of processes who) fd ≡ Some did → same_did did q ≡ false) → is_held processes q ≡ false
  unfolding is_held
  none_hold h = none_pass pid_cmp_total pid_cmp_exact in_fds processes (λ who fds there.
      none_pass nat_cmp_total nat_cmp-IsAntisymmetric on_it fds (λ fd did at. h who fd did (ap (λ (m : Fds). map.get m fd) (get_or-found processes who map.empty fds there) ∙ at)))

module _ (s : State) (goes : Descriptor → Bool) where
  abbrev without_bytes : Oid → Object
  without_bytes id = record (object_at s id) { bytes = [] }

  -- the descriptions without those of a list that are let go
  abbrev without : List (Did × Description) → FinMap did_cmp Description → FinMap did_cmp Description
  without [] ds = ds
  without (e ∷ es) ds = without es (cond (is_let_go s goes e.0) (map.remove ds e.0) ds)

  abbrev empties : Did × Description → Bool
  empties e = is_let_go s goes e.0 && is_drained s goes e.1.object

  -- the objects, of which those that lose their last description in a list are empty
  abbrev emptied_by : List (Did × Description) → FinMap oid_cmp Object → FinMap oid_cmp Object
  emptied_by [] objects = objects
  emptied_by (e ∷ es) objects = emptied_by es (cond (empties e) (map.insert objects e.1.object (without_bytes e.1.object)) objects)

  one_let_go : (r : State) (e : Did × Description) (a b : Bool) → apply_changes r (cond a (DropDescription e.0 ∷ cond b (truncation s e.1.object ∷ []) []) [])
      ≡ record r { descriptions = cond a (map.remove r.descriptions e.0) r.descriptions; objects = cond (a && b) (map.insert r.objects e.1.object (without_bytes e.1.object)) r.objects }
  one_let_go r e true true = refl
  one_let_go r e true false = refl
  one_let_go r e false b = refl

  all_let_go : (es : List (Did × Description)) (r : State) → apply_changes r (flat_map (let_go s goes) es) ≡ record r { descriptions = without es r.descriptions; objects = emptied_by es r.objects }
  all_let_go [] r = refl
  all_let_go (e ∷ es) r =
      apply_changes-append r (let_go s goes e) (flat_map (let_go s goes) es)
      ∙ ap (λ (x : State). apply_changes x (flat_map (let_go s goes) es)) (one_let_go r e (is_let_go s goes e.0) (is_drained s goes e.1.object))
      ∙ all_let_go es (record r { descriptions = cond (is_let_go s goes e.0) (map.remove r.descriptions e.0) r.descriptions; objects = cond (empties e) (map.insert r.objects e.1.object (without_bytes e.1.object)) r.objects })

  -- what is left at a key
  in_turn : {X : Type 0} (new w : Option X) (a b : Bool) → cond b new (cond a new w) ≡ cond (a || b) new w
  in_turn new w true true = refl
  in_turn new w true false = refl
  in_turn new w false b = refl

  get-without : (es : List (Did × Description)) (ds : FinMap did_cmp Description) (q : Did) → map.get (without es ds) q ≡ cond (list_any (λ (e : Did × Description). is_let_go s goes e.0 && same_did q e.0) es) None (map.get ds q)
  get-without [] ds q = refl
  get-without (e ∷ es) ds q =
      get-without es (cond (is_let_go s goes e.0) (map.remove ds e.0) ds) q
      ∙ ap (cond later None) (step (is_let_go s goes e.0))
      ∙ in_turn None (map.get ds q) (is_let_go s goes e.0 && same_did q e.0) later
    where
      later : Bool
      later = list_any (λ (e : Did × Description). is_let_go s goes e.0 && same_did q e.0) es

      step : (a : Bool) → map.get (cond a (map.remove ds e.0) ds) q ≡ cond (a && same_did q e.0) None (map.get ds q)
      step true = get-remove did_cmp_total ds e.0 q
      step false = refl

  get-emptied_by : (es : List (Did × Description)) (objects : FinMap oid_cmp Object) (q : Oid) → map.get (emptied_by es objects) q ≡ cond (list_any (λ (e : Did × Description). empties e && same_oid q e.1.object) es) (Some (without_bytes q)) (map.get objects q)
  get-emptied_by [] objects q = refl
  get-emptied_by (e ∷ es) objects q =
      get-emptied_by es (cond (empties e) (map.insert objects e.1.object (without_bytes e.1.object)) objects) q
      ∙ ap (cond later (Some (without_bytes q))) (step (empties e))
      ∙ in_turn (Some (without_bytes q)) (map.get objects q) (empties e && same_oid q e.1.object) later
    where
      later : Bool
      later = list_any (λ (e : Did × Description). empties e && same_oid q e.1.object) es

      step : (a : Bool) → map.get (cond a (map.insert objects e.1.object (without_bytes e.1.object)) objects) q ≡ cond (a && same_oid q e.1.object) (Some (without_bytes q)) (map.get objects q)
      step false = refl
      step true = get-insert oid_cmp_total objects e.1.object (without_bytes e.1.object) q
          ∙ elim (same_oid q e.1.object) as (λ b. same_oid q e.1.object ≡ b → cond b (Some (without_bytes e.1.object)) (map.get objects q) ≡ cond b (Some (without_bytes q)) (map.get objects q)) [
            | true ↦ λ same. ap (λ (id : Oid). Some (without_bytes id)) (sym (same_key oid_cmp_exact q e.1.object same))
            | false ↦ λ _. refl
          ] refl

-- ---- descriptors that close

-- a descriptor of a process, which does not close
record StaysOpen (s : State) (goes : Descriptor → Bool) (who : Pid) (fd : ℕ) (did : Did) : Type 0 where
  process : Process
  process_is : map.get s.procs who ≡ Some process
  fd_is : map.get process.fds fd ≡ Some did
  stays : goes (record { who = who; fd = fd; did = did }) ≡ false

-- processes with the descriptors that do not close
record Leaves (s : State) (goes : Descriptor → Bool) (processes : AllFds) : Type 0 where
  kept : (who : Pid) (p : Process) → map.get s.procs who ≡ Some p → (fd : ℕ) (did : Did) → map.get p.fds fd ≡ Some did → goes (record { who = who; fd = fd; did = did }) ≡ false → map.get (fds_of processes who) fd ≡ Some did
  only : (who : Pid) (fd : ℕ) (did : Did) → map.get (fds_of processes who) fd ≡ Some did → StaysOpen s goes who fd did

module _ (s : State) (t : OpenFiles) (shows : Shows s t) (goes : Descriptor → Bool) (processes : AllFds) (leaves : Leaves s goes processes) where
  -- what stays held
  stay_held : (q : Did) → list_any (λ (f : Descriptor). not (goes f) && same_did f.did q) (descriptors s) ≡ is_held processes q
  stay_held q = same_tests _ _
      (λ never. none_hold processes q (λ who fd did at.
      let stays = leaves.only who fd did at in
      ap (λ b. not b && same_did did q) (sym stays.stays) ∙ none_at s (λ (f : Descriptor). not (goes f) && same_did f.did q) never who stays.process stays.process_is fd did stays.fd_is))
      (λ never. none_all s (λ (f : Descriptor). not (goes f) && same_did f.did q) (λ who p is fd did at.
      elim (goes (record { who = who; fd = fd; did = did })) as (λ b. goes (record { who = who; fd = fd; did = did }) ≡ b → (not b && same_did did q) ≡ false) [
        | true ↦ λ _. refl
        | false ↦ λ stays. not_held processes q never who fd did (leaves.kept who p is fd did at stays)
      ] refl))

  -- a description goes where none holds it any more
  let_go_is : (q : Did) (d : Description) → map.get s.descriptions q ≡ Some d → is_let_go s goes q ≡ not (is_held processes q)
  let_go_is q d at = alone _ _ some ∙ ap not (stay_held q)
    where
      alone : (a b : Bool) → (a ≡ false → b ≡ false → ⊥) → (a && not b) ≡ not b
      alone true b h = refl
      alone false true h = refl
      alone false false h = absurd (h refl refl)

      neither : (a b : Bool) → b ≡ true → (a && b) ≡ false → (not a && b) ≡ false → ⊥
      neither true b t e f = true≢false (sym t ∙ e)
      neither false b t e f = true≢false (sym t ∙ f)

      some : list_any (λ (f : Descriptor). goes f && same_did f.did q) (descriptors s) ≡ false → list_any (λ (f : Descriptor). not (goes f) && same_did f.did q) (descriptors s) ≡ false → ⊥
      some never none =
          let h = shows.held q d at in
          neither (goes (record { who = h.who; fd = h.fd; did = q })) (same_did q q) (same_itself did_cmp_total q)
          (none_at s (λ (f : Descriptor). goes f && same_did f.did q) never h.who h.process h.process_is h.fd q h.fd_is)
          (none_at s (λ (f : Descriptor). not (goes f) && same_did f.did q) none h.who h.process h.process_is h.fd q h.fd_is)

  -- ---- descriptions
  abbrev left : FinMap did_cmp Description
  left = held_by processes s.descriptions

  abbrev goes_at : Did → Did → Description → Bool
  goes_at q did d = is_let_go s goes did && same_did q did

  goes_itself : (q : Did) (d : Description) → map.get s.descriptions q ≡ Some d → any_entry (goes_at q) s.descriptions ≡ is_let_go s goes q
  goes_itself q d at = same_tests _ _
      (λ never. first (is_let_go s goes q) (none_passes did_cmp_total did_cmp_exact (goes_at q) s.descriptions never q d at))
      (λ stays. none_pass did_cmp_total did_cmp_exact (goes_at q) s.descriptions (λ k x _.
      elim (same_did q k) as (λ b. same_did q k ≡ b → (is_let_go s goes k && b) ≡ false) [
        | true ↦ λ same. ap (λ (k : Did). is_let_go s goes k && true) (sym (same_key did_cmp_exact q k same)) ∙ ap (λ b. b && true) stays
        | false ↦ λ _. both_false (is_let_go s goes k) false refl
      ] refl))
    where
      first : (a : Bool) → (a && same_did q q) ≡ false → a ≡ false
      first true e = absurd (true≢false (sym (same_itself did_cmp_total q) ∙ e))
      first false e = refl

  get-left : (q : Did) → map.get left q ≡ cond (is_held processes q) (map.get s.descriptions q) None
  get-left q = elim (is_held processes q) as (λ b. is_held processes q ≡ b → map.get left q ≡ cond b (map.get s.descriptions q) None) [
    | true ↦ get-kept processes s.descriptions q
    | false ↦ get-gone processes s.descriptions q
  ] refl

  without_is : without s goes (map.entries s.descriptions) s.descriptions ≡ left
  unfolding any_entry
  without_is = same_map did_cmp_total did_cmp_exact _ _ (λ q. get-without s goes (map.entries s.descriptions) s.descriptions q ∙ at q (map.get s.descriptions q) refl ∙ sym (get-left q))
    where
      nothing : (a b : Bool) → ◌≡◌ {A = Option Description} (cond a None None) (cond b None None)
      nothing true true = refl
      nothing true false = refl
      nothing false true = refl
      nothing false false = refl

      opposite : (b : Bool) (d : Description) → cond (not b) None (Some d) ≡ cond b (Some d) None
      opposite true d = refl
      opposite false d = refl

      at : (q : Did) (w : Option Description) → map.get s.descriptions q ≡ w → cond (any_entry (goes_at q) s.descriptions) None (map.get s.descriptions q) ≡ cond (is_held processes q) (map.get s.descriptions q) None
      at q None e = ap (cond (any_entry (goes_at q) s.descriptions) None) e ∙ nothing (any_entry (goes_at q) s.descriptions) (is_held processes q) ∙ ap (λ (w : Option Description). cond (is_held processes q) w None) (sym e)
      at q (Some d) e =
          ap (cond (any_entry (goes_at q) s.descriptions) None) e ∙ ap (λ b. cond b None (Some d)) (goes_itself q d e ∙ let_go_is q d e)
          ∙ opposite (is_held processes q) d ∙ ap (λ (w : Option Description). cond (is_held processes q) w None) (sym e)

  -- ---- objects
  module _ (q : Oid) where
    abbrev on_object : Did → Description → Bool
    on_object did d = same_oid d.object q

    abbrev stays_on : Did → Description → Bool
    stays_on did d = same_oid d.object q && not (is_let_go s goes did)

    abbrev empties_it : Did → Description → Bool
    empties_it did d = empties s goes (did, d) && same_oid q d.object

    abbrev is_fifo_there : Bool
    is_fifo_there = is_fifo (object_at s q).kind

    abbrev stays_open : Bool
    stays_open = any_entry stays_on s.descriptions

    still_open : stays_open ≡ is_open left q
    still_open = same_tests _ _
        (λ never. none_pass did_cmp_total did_cmp_exact on_object left (λ k d e.
        elim (is_held processes k) as (λ b. is_held processes k ≡ b → same_oid d.object q ≡ false) [
          | true ↦ λ held.
              let at : map.get s.descriptions k ≡ Some d = sym (get-kept processes s.descriptions k held) ∙ e in
              first (same_oid d.object q) (ap (λ b. same_oid d.object q && not b) (sym (let_go_is k d at ∙ ap not held)) ∙ none_passes did_cmp_total did_cmp_exact stays_on s.descriptions never k d at)
          | false ↦ λ gone. absurd (never_some (map.get left k) d (get-gone processes s.descriptions k gone) e)
        ] refl))
        (λ never. none_pass did_cmp_total did_cmp_exact stays_on s.descriptions (λ k d at.
        elim (is_held processes k) as (λ b. is_held processes k ≡ b → (same_oid d.object q && not (is_let_go s goes k)) ≡ false) [
          | true ↦ λ held. ap (λ b. b && not (is_let_go s goes k)) (none_passes did_cmp_total did_cmp_exact on_object left never k d (get-kept processes s.descriptions k held ∙ at))
          | false ↦ λ gone. both_false (same_oid d.object q) (not (is_let_go s goes k)) (ap not (let_go_is k d at ∙ ap not gone))
        ] refl))
      where
        first : (a : Bool) → (a && true) ≡ false → a ≡ false
        first true e = e
        first false e = refl

    -- a FIFO is emptied where it has a description and none stays
    emptied_where : any_entry empties_it s.descriptions ≡ (is_fifo_there && (is_open s.descriptions q && not stays_open))
    emptied_where = same_tests _ _
        (λ never. at_last is_fifo_there stays_open refl refl never)
        (λ never. none_pass did_cmp_total did_cmp_exact empties_it s.descriptions (λ k d at.
        elim (same_oid q d.object) as (λ b. same_oid q d.object ≡ b → (empties s goes (k, d) && b) ≡ false) [
          | true ↦ λ same.
              let is : q ≡ d.object = same_key oid_cmp_exact q d.object same in
              let has : is_open s.descriptions q ≡ true = open_there k d at (turned d.object q ∙ same) in
              ap (λ (id : Oid). (is_let_go s goes k && is_drained s goes id) && true) (sym is)
              ∙ ap (λ b. (is_let_go s goes k && b) && true) (ap (λ b. is_fifo_there && (b && not stays_open)) (sym has) ∙ never)
              ∙ ap (λ b. b && true) (both_false (is_let_go s goes k) false refl)
          | false ↦ λ _. both_false (empties s goes (k, d)) false refl
        ] refl))
      where
        open_there : (k : Did) (d : Description) → map.get s.descriptions k ≡ Some d → same_oid d.object q ≡ true → is_open s.descriptions q ≡ true
        open_there k d at same = elim (is_open s.descriptions q) as (λ b. is_open s.descriptions q ≡ b → b ≡ true) [
          | true ↦ λ _. refl
          | false ↦ λ never. sym (none_passes did_cmp_total did_cmp_exact on_object s.descriptions never k d at) ∙ same
        ] refl

        contrary : (a b e : Bool) → a ≡ true → (a && not b) ≡ false → e ≡ true → ((b && (true && true)) && e) ≡ false → ⊥
        contrary true true true x y z f = true≢false f
        contrary true true false x y z f = true≢false (sym z)
        contrary true false e x y z f = true≢false y
        contrary false b e x y z f = true≢false (sym x)

        at_last : (f o : Bool) → is_fifo_there ≡ f → stays_open ≡ o → any_entry empties_it s.descriptions ≡ false → (is_fifo_there && (is_open s.descriptions q && not stays_open)) ≡ false
        at_last false o fifo stays never = ap (λ b. b && (is_open s.descriptions q && not stays_open)) fifo
        at_last true true fifo stays never = both_false is_fifo_there (is_open s.descriptions q && not stays_open) (both_false (is_open s.descriptions q) (not stays_open) (ap not stays))
        at_last true false fifo stays never = both_false is_fifo_there (is_open s.descriptions q && not stays_open) (ap (λ b. b && not stays_open) none)
          where
            none : is_open s.descriptions q ≡ false
            none = none_pass did_cmp_total did_cmp_exact on_object s.descriptions (λ k d at.
                elim (same_oid d.object q) as (λ b. same_oid d.object q ≡ b → b ≡ false) [
                  | true ↦ λ same.
                      let is : q ≡ d.object = sym (same_key oid_cmp_exact d.object q same) in
                      absurd (contrary (same_oid d.object q) (is_let_go s goes k) (same_oid q d.object) same
                      (none_passes did_cmp_total did_cmp_exact stays_on s.descriptions stays k d at)
                      (turned q d.object ∙ same)
                      ((λ i. (is_let_go s goes k && (sym fifo i && not (sym stays i))) && same_oid q d.object)
                      ∙ ap (λ (id : Oid). (is_let_go s goes k && is_drained s goes id) && same_oid q d.object) is
                      ∙ none_passes did_cmp_total did_cmp_exact empties_it s.descriptions never k d at))
                  | false ↦ λ _. refl
                ] refl)

    get-emptied : map.get (emptied_by s goes (map.entries s.descriptions) s.objects) q ≡ map.get (objects_after_close s.descriptions left s.objects) q
    unfolding any_entry
    get-emptied =
        get-emptied_by s goes (map.entries s.descriptions) s.objects q
        ∙ ap (λ b. cond b (Some (without_bytes s goes q)) (map.get s.objects q)) (emptied_where ∙ ap (λ b. is_fifo_there && (is_open s.descriptions q && not b)) still_open)
        ∙ one (is_unused s.descriptions left q) (map.get s.objects q) refl ∙ sym (get-drained s.descriptions left s.objects q)
      where
        chosen : (b : Bool) (o : Object) → cond b (Some (record o { bytes = [] })) (Some o) ≡ Some (emptied_if b o)
        chosen true o = refl
        chosen false o = refl

        one : (b : Bool) (w : Option Object) → map.get s.objects q ≡ w → cond (is_fifo (object_at s q).kind && b) (Some (without_bytes s goes q)) (map.get s.objects q) ≡ option_map (λ (o : Object). emptied_if (is_fifo o.kind && b) o) (map.get s.objects q)
        one b None e =
            ap (λ (o : Object). cond (is_fifo o.kind && b) (Some (record o { bytes = [] })) (map.get s.objects q)) (get_or-absent s.objects q (stub_object s.top) e)
            ∙ e ∙ ap (option_map (λ (o : Object). emptied_if (is_fifo o.kind && b) o)) (sym e)
        one b (Some x) e =
            ap (λ (o : Object). cond (is_fifo o.kind && b) (Some (record o { bytes = [] })) (map.get s.objects q)) (get_or-found s.objects q (stub_object s.top) x e)
            ∙ ap (λ (w : Option Object). cond (is_fifo x.kind && b) (Some (record x { bytes = [] })) w) e
            ∙ chosen (is_fifo x.kind && b) x ∙ ap (option_map (λ (o : Object). emptied_if (is_fifo o.kind && b) o)) (sym e)

  emptied_is : emptied_by s goes (map.entries s.descriptions) s.objects ≡ objects_after_close s.descriptions left s.objects
  emptied_is = same_map oid_cmp_total oid_cmp_exact _ _ get-emptied

  -- what is left where these descriptors close
  closing_is : (procs : FinMap pid_cmp Process) → apply_changes (record s { procs = procs }) (changes_of_close s goes)
      ≡ record s { procs = procs; descriptions = (left_with t processes).descriptions; objects = objects_after_close s.descriptions (left_with t processes).descriptions s.objects }
  unfolding changes_of_close
  closing_is procs =
      all_let_go s goes (map.entries s.descriptions) (record s { procs = procs })
      ∙ (λ i. record s { procs = procs; descriptions = without_is i; objects = emptied_is i })
      ∙ ap (λ (ds : FinMap did_cmp Description). record s { procs = procs; descriptions = held_by processes ds; objects = objects_after_close s.descriptions (held_by processes ds) s.objects }) shows.descriptions

-- ---- the processes of a table, of which one is set or goes
module _ (processes : AllFds) (who q : Pid) where
  fds_of-insert : (fds : Fds) → fds_of (map.insert processes who fds) q ≡ cond (same_pid q who) fds (fds_of processes q)
  fds_of-insert fds = elim (same_pid q who) as (λ b. same_pid q who ≡ b → fds_of (map.insert processes who fds) q ≡ cond b fds (fds_of processes q)) [
    | true ↦ λ same. get_or-found (map.insert processes who fds) q map.empty fds (get-insert pid_cmp_total processes who fds q ∙ ap (λ b. cond b (Some fds) (map.get processes q)) same)
    | false ↦ λ other. get_or-same (map.insert processes who fds) processes q map.empty (get-insert pid_cmp_total processes who fds q ∙ ap (λ b. cond b (Some fds) (map.get processes q)) other)
  ] refl

  fds_of-remove : fds_of (map.remove processes who) q ≡ cond (same_pid q who) map.empty (fds_of processes q)
  fds_of-remove = elim (same_pid q who) as (λ b. same_pid q who ≡ b → fds_of (map.remove processes who) q ≡ cond b map.empty (fds_of processes q)) [
    | true ↦ λ same. get_or-absent (map.remove processes who) q map.empty (get-remove pid_cmp_total processes who q ∙ ap (λ b. cond b None (map.get processes q)) same)
    | false ↦ λ other. get_or-same (map.remove processes who) processes q map.empty (get-remove pid_cmp_total processes who q ∙ ap (λ b. cond b None (map.get processes q)) other)
  ] refl

-- ---- the rows of the calls
module _ (s : State) (t : OpenFiles) (shows : Shows s t) (who : Pid) where
  open_in : (goes : Descriptor → Bool) (q : Pid) (f : ℕ) (did : Did) → map.get (fds_of t.processes q) f ≡ Some did → goes (record { who = q; fd = f; did = did }) ≡ false → StaysOpen s goes q f did
  open_in goes q f did at stays =
      let there = shows.living q f did at in
      record { process = there.value; process_is = there.is; fd_is = ap (λ (m : Fds). map.get m f) (shows.fds q there.value there.is) ∙ at; stays = stays }

  shown : (q : Pid) (p : Process) → map.get s.procs q ≡ Some p → (f : ℕ) (did : Did) → map.get p.fds f ≡ Some did → map.get (fds_of t.processes q) f ≡ Some did
  shown q p is f did at = ap (λ (m : Fds). map.get m f) (sym (shows.fds q p is)) ∙ at

  -- one descriptor closes
  module _ (fd : ℕ) where
    abbrev closes : Descriptor → Bool
    closes d = same_pid d.who who && d.fd == fd

    abbrev one_less : Fds
    one_less = map.remove (fds_of t.processes who) fd

    get-one_less : (f : ℕ) → map.get one_less f ≡ cond (f == fd) None (map.get (fds_of t.processes who) f)
    get-one_less f = get-remove nat_cmp_total (fds_of t.processes who) fd f ∙ ap (λ b. cond b None (map.get (fds_of t.processes who) f)) (unsigned_tied f fd)

    leaves_others : Leaves s closes (map.insert t.processes who one_less)
    leaves_others = record {
      kept = λ q p is f did at stays.
          ap (λ (m : Fds). map.get m f) (fds_of-insert t.processes who q one_less)
          ∙ elim (same_pid q who) as (λ b. same_pid q who ≡ b → (b && (f == fd)) ≡ false → map.get (cond b one_less (fds_of t.processes q)) f ≡ Some did) [
            | true ↦ λ same other.
                get-one_less f ∙ ap (λ b. cond b None (map.get (fds_of t.processes who) f)) other
                ∙ ap (λ (w : Pid). map.get (fds_of t.processes w) f) (sym (same_key pid_cmp_exact q who same)) ∙ shown q p is f did at
            | false ↦ λ _ _. shown q p is f did at
          ] refl stays;
      only = λ q f did at.
          elim (same_pid q who) as (λ b. same_pid q who ≡ b → map.get (cond b one_less (fds_of t.processes q)) f ≡ Some did → StaysOpen s closes q f did) [
            | true ↦ λ same here.
                elim (f == fd) as (λ b. (f == fd) ≡ b → cond b None (map.get (fds_of t.processes who) f) ≡ Some did → StaysOpen s closes q f did) [
                  | true ↦ λ _ e. absurd (never_some None did refl e)
                  | false ↦ λ other e. open_in closes q f did (ap (λ (w : Pid). map.get (fds_of t.processes w) f) (same_key pid_cmp_exact q who same) ∙ e) (both_false (same_pid q who) (f == fd) other)
                ] refl (sym (get-one_less f) ∙ here)
            | false ↦ λ other here. open_in closes q f did here (ap (λ b. b && (f == fd)) other)
          ] refl (sym (ap (λ (m : Fds). map.get m f) (fds_of-insert t.processes who q one_less)) ∙ at);
    }

    -- `close` makes the changes of its row
    pub close_changes : (p : Process) → (
        let t' : OpenFiles = left_with t (map.insert t.processes who (map.remove (fds_of t.processes who) fd)) in
        apply_changes s (SetProcess who (record p { fds = map.remove p.fds fd }) ∷ changes_of_close s (λ (d : Descriptor). same_pid d.who who && d.fd == fd))
        ≡ record s { procs = map.insert s.procs who (record p { fds = map.remove p.fds fd }); descriptions = t'.descriptions; objects = objects_after_close s.descriptions t'.descriptions s.objects })
    close_changes p = closing_is s t shows closes (map.insert t.processes who one_less) leaves_others (map.insert s.procs who (record p { fds = map.remove p.fds fd }))

  -- all descriptors of a process close
  abbrev is_of : Descriptor → Bool
  is_of d = same_pid d.who who

  leaves_rest : Leaves s is_of (map.remove t.processes who)
  leaves_rest = record {
    kept = λ q p is f did at stays.
        ap (λ (m : Fds). map.get m f) (fds_of-remove t.processes who q ∙ ap (λ b. cond b map.empty (fds_of t.processes q)) stays) ∙ shown q p is f did at;
    only = λ q f did at.
        elim (same_pid q who) as (λ b. same_pid q who ≡ b → map.get (cond b map.empty (fds_of t.processes q)) f ≡ Some did → StaysOpen s is_of q f did) [
          | true ↦ λ _ here. absurd (never_some (map.get map.empty f) did (get-empty nat_cmp f) here)
          | false ↦ λ other here. open_in is_of q f did here other
        ] refl (sym (ap (λ (m : Fds). map.get m f) (fds_of-remove t.processes who q)) ∙ at);
  }

  -- `drop_process` makes the changes of a process that goes
  pub drop_changes : (
      let t' : OpenFiles = left_with t (map.remove t.processes who) in
      apply_changes s (DropProcess who ∷ changes_of_close s (λ (d : Descriptor). same_pid d.who who))
      ≡ record s { procs = map.remove s.procs who; descriptions = t'.descriptions; objects = objects_after_close s.descriptions t'.descriptions s.objects })
  drop_changes = closing_is s t shows is_of (map.remove t.processes who) leaves_rest (map.remove s.procs who)

  -- and with the changes of the other processes, those of one that ends
  pub ending_changes : (p : Process) (how : Ending) → (
      let t' : OpenFiles = left_with t (map.remove t.processes who) in
      apply_changes s (ending_of s who p how)
      ≡ apply_changes (record s { procs = map.remove s.procs who; descriptions = t'.descriptions; objects = objects_after_close s.descriptions t'.descriptions s.objects }) (flat_map (changes_after_end who p how) (map.entries s.procs)))
  unfolding ending_of
  ending_changes p how =
      apply_changes-append (apply_change s (DropProcess who)) (changes_of_close s is_of) (flat_map (changes_after_end who p how) (map.entries s.procs))
      ∙ ap (λ (r : State). apply_changes r (flat_map (changes_after_end who p how) (map.entries s.procs))) drop_changes
