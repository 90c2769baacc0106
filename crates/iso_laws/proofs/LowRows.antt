-- What the rows of a Low process share: in its part they end as in the state.
use Rattle.std.specs.Prelude.{◌≡◌, ℕ, true, List, [], ◌∷◌, Option, None, Some, refl}
use Rattle.std.proofs.Common.{sym, ◌∙◌, ap, subst}
use Rattle.std.specs.FinMap as map
use Rattle.fs_path.specs.Path.{PathValue}
use Rattle.lab_lattice.specs.Label.{Label}
use Rattle.kern_model.specs.declared.numbers.Oid.{Oid}
use Rattle.kern_model.specs.declared.numbers.Pid.{Pid}
use Rattle.kern_model.specs.declared.calls.Answer.{Answer}
use Rattle.kern_model.specs.declared.checks.Check.{Check}
use Rattle.kern_model.specs.declared.checks.Place.{Place}
use Rattle.kern_model.specs.declared.checks.Place.TheVariants.{First, Handle}
use Rattle.kern_model.specs.declared.objects.Object.{Object}
use Rattle.kern_model.specs.declared.records.Rec.{Rec}
use Rattle.kern_model.specs.AttrRows.{on_open_object}
use Rattle.kern_model.specs.Descriptors.{Opened, open_description}
use Rattle.kern_model.specs.FileRows.{or_not_open, on_descriptor}
use Rattle.kern_model.specs.Rules.{mac_read_of, mac_write_of}
use Rattle.kern_model.specs.Row.{Row, Need, Commit}
use Rattle.kern_model.specs.State.{State, Process, Change, SetProcess, object_at}
use Rattle.kern_model.specs.Step.{subject}
use Rattle.kern_model.specs.Walk.{on_path, read_object, write_object, last_place}
use Rattle.kern_model.specs.Isolation.{low, crosses, Kept}
use Rattle.kern_model.specs.Valid.{IsValid, IsThere}
use Rattle.iso_laws.proofs.Part.{part_by_number, part_changes, part_of_low}
use Rattle.iso_laws.proofs.Rows.{EachCommit, Passes, in_part_itself, in_part_open, in_part_check, in_part_commit, SameInPart}
use Rattle.iso_laws.proofs.PartReads.{IsOpen, is_open, opened_low, open_did_low, open_object_low, open_object_is, in_part_reach, in_part_mac_read, in_part_mac_write, object_low}

-- the part sees the changes as they are
abbrev pub AreVisible : Label → State → List Change → Option Rec → Type 0
AreVisible l s cs own = part_changes l s.top cs ≡ cs

module _ (l : Label) (s : State) (kept : Kept l s) (valid : IsValid s) (who : Pid) (p : Process) (is : map.get s.procs who ≡ Some p) (is_low : low l p.label ≡ true) where
  abbrev part_s : State
  part_s = part_by_number l s

  -- the part sees a change of the caller as it is
  pub caller_visible : (q : Process) → part_changes l s.top (SetProcess who q ∷ []) ≡ SetProcess who q ∷ []
  caller_visible q = part_of_low l s.top (SetProcess who q ∷ []) (kept.procs who p is ∙ is_low, tt)

  -- a row that depends on a Low object alone
  pub low_by_object : (id : Oid) → low l id.label ≡ true → (r : Object → Row) → EachCommit (AreVisible l s) (r (object_at s id)) → SameInPart l s who p (r (object_at s id)) (r (object_at part_s id))
  low_by_object id h r gives = subst (λ o. SameInPart l s who p (r (object_at s id)) (r o)) (sym (object_low l s id h)) (in_part_itself l s who p (r (object_at s id)) gives)

  -- the row of a call that reads what a path leads to
  pub low_read : (path : PathValue) (r r' : Oid → Place → Object → Row) → ((id : Oid) (place : Place) → IsThere s.objects id → low l id.label ≡ true → SameInPart l s who p (r id place (object_at s id)) (r' id place (object_at part_s id)))
      → SameInPart l s who p (on_path s p path (λ id place. read_object s p id place (r id place))) (on_path part_s p path (λ id place. read_object part_s p id place (r' id place)))
  low_read path r r' h =
      let place : Place = last_place (λ n. First n) path in
      in_part_reach l s kept valid who p is_low is (λ n. First n) path _ _
      (λ id there. in_part_mac_read l s kept valid who p is_low id there place (r id place (object_at s id)) (λ d. r' d place (object_at part_s d)) (h id place there))

  -- the row of a call that reads what a path leads to, and depends on that alone
  pub low_read_by : (path : PathValue) (r : Oid → Place → Object → Row) → ((id : Oid) (place : Place) (o : Object) → EachCommit (AreVisible l s) (r id place o))
      → SameInPart l s who p (on_path s p path (λ id place. read_object s p id place (r id place))) (on_path part_s p path (λ id place. read_object part_s p id place (r id place)))
  low_read_by path r gives = low_read path r r (λ id place _ h. low_by_object id h (r id place) (gives id place (object_at s id)))

  -- the row of a call that writes what a path leads to
  pub low_write : (path : PathValue) (r r' : Oid → Place → Object → Row) → ((id : Oid) (place : Place) → IsThere s.objects id → low l id.label ≡ true → SameInPart l s who p (r id place (object_at s id)) (r' id place (object_at part_s id)))
      → SameInPart l s who p (on_path s p path (λ id place. write_object s p id place (r id place))) (on_path part_s p path (λ id place. write_object part_s p id place (r' id place)))
  low_write path r r' h =
      let place : Place = last_place (λ n. First n) path in
      in_part_reach l s kept valid who p is_low is (λ n. First n) path _ _
      (λ id there. in_part_mac_write l s kept valid who p is_low id there place (r id place (object_at s id)) (λ d. r' d place (object_at part_s d)) (h id place there))

  -- a check of a Low object, which is the same in the part
  pub low_check : (id : Oid) → low l id.label ≡ true → (c : Object → Check) (r r' : Row) → (Passes (crosses l) (subject who p) (c (object_at s id)) → SameInPart l s who p r r')
      → SameInPart l s who p (Need (c (object_at s id)) r) (Need (c (object_at part_s id)) r')
  low_check id h c r r' rest = in_part_check l s who p (c (object_at s id)) (c (object_at part_s id)) r r' (ap c (object_low l s id h)) rest

  -- an answer that is the same in the part, where nothing changes
  pub low_answer : {X : Type 0} (a : X → Answer) (x x' : X) → x' ≡ x → SameInPart l s who p (Commit [] (a x) None) (Commit [] (a x') None)
  low_answer a x x' e = subst (λ y. SameInPart l s who p (Commit [] (a x) None) (Commit [] (a y) None)) (sym e) (in_part_commit l s who p [] [] (a x) None refl)

  -- the row goes on from what a descriptor refers to
  pub low_descriptor : (fd : ℕ) (k k' : Opened → Row) → ((f : Opened) → IsOpen s p fd f → low l f.did.label ≡ true → low l f.description.object.label ≡ true → SameInPart l s who p (k f) (k' f)) → SameInPart l s who p (on_descriptor s p fd k) (on_descriptor part_s p fd k')
  low_descriptor fd k k' h =
      subst (λ w. SameInPart l s who p (on_descriptor s p fd k) (or_not_open w k')) (sym (opened_low l s kept who p is is_low fd))
      (in_part_open l s who p (open_description s p fd) k k' (λ f e. let open_is = is_open s p fd f e in h f open_is (open_did_low l s kept who p is is_low fd f open_is) (open_object_low l s kept who p is is_low fd f e)))

  -- the row of a call that reads the object of a descriptor, and depends on that alone
  pub low_open_object_by : (fd : ℕ) (r : Object → Row) → ((o : Object) → EachCommit (AreVisible l s) (r o))
      → SameInPart l s who p (on_open_object s p fd (λ id place. read_object s p id place r)) (on_open_object part_s p fd (λ id place. read_object part_s p id place r))
  low_open_object_by fd r gives =
      low_descriptor fd _ _ (λ f _ _ h.
      low_by_object f.description.object h (λ o. Need (mac_read_of p f.description.object o Handle) (r o)) (gives (object_at s f.description.object)))

  -- the row of a call that writes the object of a descriptor
  pub low_open_write : (fd : ℕ) (r r' : Oid → Place → Object → Row) → ((id : Oid) (place : Place) → IsThere s.objects id → low l id.label ≡ true → SameInPart l s who p (r id place (object_at s id)) (r' id place (object_at part_s id)))
      → SameInPart l s who p (on_open_object s p fd (λ id place. write_object s p id place (r id place))) (on_open_object part_s p fd (λ id place. write_object part_s p id place (r' id place)))
  low_open_write fd r r' h =
      low_descriptor fd _ _ (λ f open_is _ low_id.
      let id : Oid = f.description.object in
      low_check id low_id (λ o. mac_write_of p id o Handle) _ _ (λ _. h id Handle (record { value = object_at s id; is = open_object_is s valid p fd f open_is }) low_id))

  pub bound_low : part_s.bound ≡ s.bound
  unfolding part_by_number
  bound_low = refl
