-- A valid state stays valid where a pipe is made and opened at both ends.
use Rattle.std.specs.Prelude.{◌≡◌, ℕ, ◌+◌, ◌≤◌, true, false, [], ◌∷◌, Some, refl, cond}
use Rattle.std.specs.Cmp.{nat_cmp_total}
use Rattle.std.specs.FinMap as map
use Rattle.std.specs.FinMap.{FinMap, len-insert, len-entries}
use Rattle.std.proofs.Common.{sym, ◌∙◌, ap, subst, arith, inl, inr}
use Rattle.std.proofs.lemmas.Bool.{ltb-true}
use Rattle.lab_lattice.specs.Label.{Label, dominates, label_cmp}
use Rattle.lab_lattice.proofs.Labels.{label_cmp_total, label_cmp_exact}
use Rattle.kern_model.specs.declared.limits.TheConstants.{MAX_DESCRIPTIONS, MAX_DESCRIPTORS, MAX_OBJECTS}
use Rattle.kern_model.specs.declared.numbers.Did.{Did}
use Rattle.kern_model.specs.declared.numbers.Oid.{Oid}
use Rattle.kern_model.specs.declared.numbers.Pid.{Pid}
use Rattle.kern_model.specs.declared.objects.Kind.TheVariants as kind
use Rattle.kern_model.specs.declared.objects.Object.{Object}
use Rattle.kern_model.specs.Create.{object_addition, has_object_number}
use Rattle.kern_model.specs.Descriptors.{open_count, lowest_free, with_descriptor}
use Rattle.kern_model.specs.Entries.{link_count}
use Rattle.kern_model.specs.FileRows.{new_pipe, on_pipe, second_description, pipe_creation}
use Rattle.kern_model.specs.Keys.{Spot, oid_cmp, same_oid}
use Rattle.kern_model.specs.State.{State, Process, SetProcess, SetDescription, DrawDescription, apply_changes, last_drawn, next_description, next_object, root}
use Rattle.kern_model.specs.Valid.{IsValid, IsReached, IsValidObject}
use Rattle.kern_model.proofs.KeyLaws.{oid_cmp_total, oid_cmp_exact, pid_cmp_total, pid_cmp_exact, spot_cmp_total, spot_cmp_exact}
use Rattle.kern_model.proofs.MapLemmas.{each-insert, get-insert_same, get-insert_kept, get_or-found, never_some, count_entries-none}
use Rattle.kern_model.proofs.TableLemmas.{each_set_at}
use Rattle.iso_laws.proofs.PathLemmas.{leads_still}
use Rattle.kern_model.proofs.Selections.{insert-insert}
use Rattle.iso_laws.proofs.ValidLemmas.{still_drawn, next_drawn, still_below}
use Rattle.iso_laws.proofs.files.Changes.{valid_opened}
use Rattle.kern_model.proofs.StateLemmas.{next_absent}
use Rattle.iso_laws.proofs.tree.Changes.{tree_entry, tree_object, valid_tree, with_tree}
use Rattle.iso_laws.proofs.KeyLemmas.{distinct}

-- ---- an object is made that no entry leads to
module _ (s : State) (valid : IsValid s) (who : Pid) (p : Process) (is : map.get s.procs who ≡ Some p) where
  abbrev pipe : Object
  pipe = new_pipe p

  abbrev new : Oid
  new = next_object s p.label

  abbrev more_objects : FinMap oid_cmp Object
  more_objects = map.insert s.objects new pipe

  abbrev more_numbers : FinMap label_cmp ℕ
  more_numbers = map.insert s.object_numbers p.label (last_drawn s.object_numbers p.label + 1)

  abbrev drawn_state : State
  drawn_state = with_tree s more_objects s.entries more_numbers

  still : (q : Oid) (x : Object) → map.get s.objects q ≡ Some x → map.get more_objects q ≡ Some x
  still = get-insert_kept oid_cmp_total oid_cmp_exact s.objects new pipe (next_absent s valid p.label)

  still_reached : (q : Oid) → IsReached s q → IsReached drawn_state q
  still_reached q r = record { names = r.names; lead = leads_still s drawn_state (λ at x e. e) root r.names q r.lead }

  no_names : link_count s new ≡ 0
  no_names = count_entries-none spot_cmp_total spot_cmp_exact (λ (at : Spot) (x : Oid). same_oid x new) s.entries (λ at q e.
      let entry = valid.entries at q e in
      distinct oid_cmp_exact q new (λ same. never_some (map.get s.objects new) entry.object (next_absent s valid p.label) (ap (map.get s.objects) (sym same) ∙ entry.object_is)))

  -- a state stays valid where a pipe is made
  pub valid_drawn : has_object_number s p.label ≡ true → IsValid (apply_changes s (object_addition s p.label pipe))
  valid_drawn left =
      let below : dominates s.top p.label ≡ true = (valid.procs who p is).below in
      valid_tree s more_objects s.entries more_numbers still valid
      (each-insert oid_cmp_total oid_cmp_exact (IsValidObject drawn_state) s.objects
      (λ q x e. let old = valid.objects q x e in
      tree_object s more_objects s.entries more_numbers q x old (still_drawn s.object_numbers p.label q.label q.n old.drawn_already) old.few_names
      (λ dir. elim (old.reached dir) [ inl r ↦ inl (still_reached q r) | inr gone ↦ inr gone ]))
      new pipe (record {
        below = below;
        drawn_already = next_drawn s.object_numbers p.label;
        mode = refl;
        only_files = λ _. refl;
        dir_bytes = λ _. refl;
        file_bytes = λ _. omega arith;
        stream_bytes = λ _. omega arith;
        fifo_bytes = λ _ _. refl;
        few_names = λ _. omega (arith, no_names);
        reached = λ dir. let no : kind.Pipe ≡ kind.Dir = dir in cc;
      }))
      (λ at q e. tree_entry s more_objects s.entries more_numbers still at q (valid.entries at q e))
      (λ a b q x e g q_is q_dir. valid.one_entry a b q x e g
      (each-insert oid_cmp_total oid_cmp_exact (λ (z : Oid) (y : Object). y.kind ≡ kind.Dir → map.get s.objects z ≡ Some y) s.objects (λ z y h _. h) new pipe (λ dir. let no : kind.Pipe ≡ kind.Dir = dir in cc) q x q_is q_dir) q_dir)
      (record {
        below = still_below s.object_numbers p.label s.top below valid.object_numbers.below;
        few = each_set_at label_cmp_total label_cmp_exact (λ (l : Label) (n : ℕ). n ≤ MAX_OBJECTS) 0 s.object_numbers p.label (last_drawn s.object_numbers p.label + 1) (omega (arith, ltb-true (last_drawn s.object_numbers p.label) MAX_OBJECTS left)) valid.object_numbers.few;
      })

-- a process with one descriptor more has at most one more
one_more : (p : Process) (did : Did) → open_count (with_descriptor p did) ≤ open_count p + 1
one_more p did =
    let more : FinMap _ Did = map.insert p.fds (lowest_free p.fds) did in
    let counted : map.len more ≤ map.len p.fds + 1 =
    subst (λ n. n ≤ map.len p.fds + 1) (sym (len-insert nat_cmp_total p.fds (lowest_free p.fds) did))
    (elim (map.contains_key p.fds (lowest_free p.fds)) as (λ b. cond b (map.len p.fds) (map.len p.fds + 1) ≤ map.len p.fds + 1) [ true ↦ omega arith | false ↦ omega arith ]) in
    omega (arith, counted, len-entries more, len-entries p.fds)

module _ (s : State) (valid : IsValid s) (who : Pid) (p : Process) (is : map.get s.procs who ≡ Some p) where
  abbrev made_state : State
  made_state = apply_changes s (object_addition s p.label (new_pipe p))

  abbrev first : Did
  first = next_description s p.label

  abbrev one_end : Process
  one_end = with_descriptor p first

  -- the state with one end of the pipe
  abbrev half_state : State
  half_state = apply_changes made_state (DrawDescription p.label (last_drawn s.description_numbers p.label + 1) ∷ SetDescription first (on_pipe (next_object s p.label) true) ∷ SetProcess who one_end ∷ [])

  -- and with the other end, whose description has the number n
  abbrev whole_state : ℕ → State
  whole_state n = apply_changes half_state (DrawDescription p.label n ∷ SetDescription (record { label = p.label; n = n }) (on_pipe (next_object s p.label) false) ∷ SetProcess who (with_descriptor one_end (record { label = p.label; n = n })) ∷ [])

  -- a valid state stays valid where a pipe is made and opened at both ends
  pub valid_piped : has_object_number s p.label ≡ true → open_count p + 2 ≤ MAX_DESCRIPTORS → last_drawn s.description_numbers p.label + 2 ≤ MAX_DESCRIPTIONS → IsValid (apply_changes s (pipe_creation s who p))
  valid_piped left free numbers =
      let n : ℕ = last_drawn s.description_numbers p.label in
      let o : Object = new_pipe p in
      let no_dir : o.kind ≡ kind.Dir → ⊥ = λ dir. let no : kind.Pipe ≡ kind.Dir = dir in cc in
      let there : map.get made_state.objects (next_object s p.label) ≡ Some o = get-insert_same oid_cmp_total s.objects (next_object s p.label) o in
      let half : IsValid half_state = valid_opened made_state (valid_drawn s valid who p is left) who p is (on_pipe (next_object s p.label) true) o there no_dir (omega (arith, free)) (omega (arith, numbers)) in
      let drawn_now : last_drawn half_state.description_numbers p.label ≡ n + 1 = get_or-found _ p.label 0 _ (get-insert_same label_cmp_total s.description_numbers p.label (n + 1)) in
      let whole : IsValid (whole_state (last_drawn half_state.description_numbers p.label + 1)) =
      valid_opened half_state half who one_end (get-insert_same pid_cmp_total s.procs who one_end) (on_pipe (next_object s p.label) false) o there no_dir (omega (arith, free, one_more p first)) (omega (arith, numbers, drawn_now)) in
      let second : last_drawn half_state.description_numbers p.label + 1 ≡ n + 2 = omega (arith, drawn_now) in
      subst IsValid
      (λ i. record (whole_state (n + 2)) {
        description_numbers = insert-insert label_cmp_total label_cmp_exact s.description_numbers p.label (n + 1) (n + 2) i;
        procs = insert-insert pid_cmp_total pid_cmp_exact s.procs who one_end (with_descriptor one_end (second_description s p)) i;
      })
      (subst (λ m. IsValid (whole_state m)) second whole)
