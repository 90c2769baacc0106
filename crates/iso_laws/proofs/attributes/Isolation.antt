-- The calls on attributes: a Low process in the state and in its part.
use Rattle.std.specs.Prelude.{◌≡◌, ℕ, ◌&&◌, not, true, [], ◌∷◌, None, Some, refl}
use Rattle.std.specs.FinMap as map
use Rattle.cap_bits.specs.declared.state.CapState.{CapState}
use Rattle.fs_path.specs.Path.{PathValue}
use Rattle.lab_lattice.specs.Label.{Label}
use Rattle.kern_model.specs.declared.calls.Errno.TheVariants as errno
use Rattle.kern_model.specs.declared.checks.CheckName.TheVariants as check
use Rattle.kern_model.specs.declared.checks.Place.{Place}
use Rattle.kern_model.specs.declared.numbers.Oid.{Oid}
use Rattle.kern_model.specs.declared.numbers.Pid.{Pid}
use Rattle.kern_model.specs.declared.objects.Object.{Object}
use Rattle.kern_model.specs.AttrRows.{chmod_row, chown_row, cap_get_file_row, cap_get_fd_row, cap_set_file_row, cap_set_fd_row, mac_get_file_row, mac_get_fd_row, mac_set_file_row, mac_set_fd_row, write_object_then, report_caps, report_label, change_mode, change_owner, change_caps, relabel, give_label}
use Rattle.kern_model.specs.Isolation.{low, Kept}
use Rattle.kern_model.specs.Keys.{same_oid}
use Rattle.kern_model.specs.Kinds.{is_dir}
use Rattle.kern_model.specs.Row.{Row}
use Rattle.kern_model.specs.Rules.{of_object, same_label, owner_of, mac_change_of, relabelled_order}
use Rattle.kern_model.specs.State.{State, Process, SetObject, object_at, root}
use Rattle.kern_model.specs.Valid.{IsValid, IsThere}
use Rattle.kern_model.specs.Walk.{on_path}
use Rattle.iso_laws.proofs.LowRows.{AreVisible, low_by_object, low_check, low_read_by, low_write, low_open_object_by, low_open_write}
use Rattle.iso_laws.proofs.Part.{part_by_number, part_changes, part_of_low}
use Rattle.iso_laws.proofs.Rows.{EachCommit, in_part_cond, in_part_refuse, in_part_check, SameInPart}
use Rattle.iso_laws.proofs.PartReads.{object_low}
use Rattle.iso_laws.proofs.attributes.Labels.{above_low}
use Rattle.iso_laws.proofs.tree.Entries.{empty_low}

module _ (l : Label) (s : State) (kept : Kept l s) (valid : IsValid s) (who : Pid) (p : Process) (is : map.get s.procs who ≡ Some p)
    (is_low : low l p.label ≡ true) where
  abbrev part_s : State
  part_s = part_by_number l s

  pub cap_get_file_low : (path : PathValue) → SameInPart l s who p (cap_get_file_row s who p path) (cap_get_file_row part_s who p path)
  cap_get_file_low path = low_read_by l s kept valid who p is is_low path (λ id place. report_caps) (λ id place o. (refl, refl))

  pub cap_get_fd_low : (fd : ℕ) → SameInPart l s who p (cap_get_fd_row s who p fd) (cap_get_fd_row part_s who p fd)
  cap_get_fd_low fd = low_open_object_by l s kept valid who p is is_low fd report_caps (λ o. (refl, refl))

  pub mac_get_file_low : (path : PathValue) → SameInPart l s who p (mac_get_file_row s who p path) (mac_get_file_row part_s who p path)
  mac_get_file_low path = low_read_by l s kept valid who p is is_low path (λ id place. report_label) (λ id place o. refl)

  pub mac_get_fd_low : (fd : ℕ) → SameInPart l s who p (mac_get_fd_row s who p fd) (mac_get_fd_row part_s who p fd)
  mac_get_fd_low fd = low_open_object_by l s kept valid who p is is_low fd report_label (λ o. refl)

  -- the part sees that a Low object is set
  object_visible : (id : Oid) → low l id.label ≡ true → (o : Object) → part_changes l s.top (SetObject id o ∷ []) ≡ SetObject id o ∷ []
  object_visible id h o = part_of_low l s.top (SetObject id o ∷ []) (h, tt)

  -- a change of an object that is written, which depends on that alone
  low_change : (k : Oid → Place → Object → Row) → ((id : Oid) (place : Place) (o : Object) → low l id.label ≡ true → EachCommit (AreVisible l s) (k id place o))
      → (id : Oid) (place : Place) → IsThere s.objects id → low l id.label ≡ true
      → SameInPart l s who p (k id place (object_at s id)) (k id place (object_at part_s id))
  low_change k seen id place _ h = low_by_object l s kept valid who p is is_low id h (k id place) (seen id place (object_at s id) h)

  -- the row of a call that changes what a path leads to, by that alone
  low_change_path : (path : PathValue) (k : Oid → Place → Object → Row)
      → ((id : Oid) (place : Place) (o : Object) → low l id.label ≡ true → EachCommit (AreVisible l s) (k id place o))
      → SameInPart l s who p (on_path s p path (write_object_then s p k)) (on_path part_s p path (write_object_then part_s p k))
  low_change_path path k seen = low_write l s kept valid who p is is_low path k k (low_change k seen)

  pub chmod_low : (path : PathValue) (mode : ℕ) → SameInPart l s who p (chmod_row s who p path mode) (chmod_row part_s who p path mode)
  chmod_low path mode = low_change_path path (change_mode p mode) (λ id place o h. (object_visible id h _, object_visible id h _))

  pub chown_low : (path : PathValue) (user group : ℕ) → SameInPart l s who p (chown_row s who p path user group) (chown_row part_s who p path user group)
  chown_low path user group = low_change_path path (change_owner p user group) (λ id place o h. (object_visible id h _, object_visible id h _))

  pub cap_set_file_low : (path : PathValue) (caps : CapState) → SameInPart l s who p (cap_set_file_row s who p path caps) (cap_set_file_row part_s who p path caps)
  cap_set_file_low path caps = low_change_path path (change_caps who p caps) (λ id place o h. (refl, object_visible id h _))

  pub cap_set_fd_low : (fd : ℕ) (caps : CapState) → SameInPart l s who p (cap_set_fd_row s who p fd caps) (cap_set_fd_row part_s who p fd caps)
  cap_set_fd_low fd caps =
      low_open_write l s kept valid who p is is_low fd (change_caps who p caps) (change_caps who p caps)
      (low_change (change_caps who p caps) (λ id place o h. (refl, object_visible id h _)))

  -- ---- labels
  low_relabel : (new : Label) (id : Oid) (place : Place) → IsThere s.objects id → low l id.label ≡ true
      → SameInPart l s who p (relabel s who p new id place (object_at s id)) (relabel part_s who p new id place (object_at part_s id))
  low_relabel new id place there h =
      let same_object = object_low l s id h in
      let gives : SameInPart l s who p (give_label who new id (object_at s id)) (give_label who new id (object_at part_s id)) =
      low_by_object l s kept valid who p is is_low id h (give_label who new id) (object_visible id h _) in
      low_check l s kept valid who p is is_low id h (λ o. owner_of p id o place) _ _
      (λ _. in_part_cond l s who p _ _ _ _ _ _ (λ i. same_label new (same_object i).label)
      (λ _. gives)
      (λ _.
      low_check l s kept valid who p is is_low id h (λ o. mac_change_of new id o place) _ _
      (λ _. in_part_check l s who p (relabelled_order s id new place) (relabelled_order part_s id new place) _ _
      (λ i. of_object check.LabelOrder (above_low l s kept valid id there h new i && not (same_oid id root)) None id (same_object i) place)
      (λ _.
      in_part_refuse l s who p errno.ENOTEMPTY _ _ _ _ (λ i. is_dir (same_object i).kind && not (empty_low l s id h i))
      (λ _. gives)))))

  pub mac_set_file_low : (path : PathValue) (new : Label) → SameInPart l s who p (mac_set_file_row s who p path new) (mac_set_file_row part_s who p path new)
  mac_set_file_low path new = low_write l s kept valid who p is is_low path (relabel s who p new) (relabel part_s who p new) (low_relabel new)

  pub mac_set_fd_low : (fd : ℕ) (new : Label) → SameInPart l s who p (mac_set_fd_row s who p fd new) (mac_set_fd_row part_s who p fd new)
  mac_set_fd_low fd new = low_open_write l s kept valid who p is is_low fd (relabel s who p new) (relabel part_s who p new) (low_relabel new)
