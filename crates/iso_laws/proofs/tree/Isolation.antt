-- The calls on entries: a Low process in the state and in its part.
use Rattle.std.specs.Prelude.{◌≡◌, ℕ, ◌&&◌, nat_le, nat_lt, true, false, not, [], ◌∷◌, ◌++◌, Option, None, Some, refl, cond}
use Rattle.std.proofs.Common.{sym, ◌∙◌, ap}
use Rattle.std.specs.Option.{option_map}
use Rattle.std.specs.FinMap as map
use Rattle.fs_path.specs.Name.{Name}
use Rattle.fs_path.specs.Path.{PathValue}
use Rattle.lab_lattice.specs.Label.{Label, dominates}
use Rattle.kern_model.specs.declared.calls.Answer.TheVariants as answer
use Rattle.kern_model.specs.declared.calls.Errno.TheVariants as errno
use Rattle.kern_model.specs.declared.checks.Check.{Check}
use Rattle.kern_model.specs.declared.checks.CheckName.TheVariants as check
use Rattle.kern_model.specs.declared.checks.Place.{Place}
use Rattle.kern_model.specs.declared.checks.Place.TheVariants.{First, Second}
use Rattle.kern_model.specs.declared.numbers.Oid.{Oid}
use Rattle.kern_model.specs.declared.numbers.Pid.{Pid}
use Rattle.kern_model.specs.declared.limits.TheConstants.{MAX_LINKS, MAX_OBJECTS}
use Rattle.kern_model.specs.declared.objects.Body.{Body}
use Rattle.kern_model.specs.declared.objects.Body.TheVariants as body
use Rattle.kern_model.specs.declared.objects.Object.{Object}
use Rattle.kern_model.specs.Create.{object_addition, creation, creation_after, enter_in, write_directory, has_object_number}
use Rattle.kern_model.specs.Entries.{names_in}
use Rattle.kern_model.specs.Isolation.{low, Kept}
use Rattle.kern_model.specs.Keys.{Spot, same_oid}
use Rattle.kern_model.specs.Kinds.{is_dir}
use Rattle.kern_model.specs.Row.{Row}
use Rattle.kern_model.specs.Rules.{of_object, created_order, held_order, mac_write_of, dac_read_of, dac_write_of}
use Rattle.kern_model.specs.Stat.{stat_of, tell_stat}
use Rattle.kern_model.specs.State.{State, Process, SetEntry, DropEntry, next_object, look}
use Rattle.kern_model.specs.TreeRows.{chdir_row, change_directory, readdir_row, list_names, stat_row, rmdir_row, remove_dir, unlink_row, remove_name, drop_entry, old_entry_found, old_entry, make_row, make_object, mkdir_row, mkfifo_row, new_spot_found, new_spot, link_row, has_name_left, add_name, add_entry, rename_row, target_found, target_entry, may_replace, if_moves, give_way, move_row, move_over, move_to}
use Rattle.kern_model.specs.Valid.{IsValid, IsThere, IsDir}
use Rattle.kern_model.specs.Walk.{Found, Start, Entry, last_place, dir_place}
use Rattle.iso_laws.proofs.LowRows.{caller_visible, low_check, low_read, low_write, low_answer}
use Rattle.iso_laws.proofs.Part.{part_by_number, shown_oid, part_changes, part_of_low}
use Rattle.iso_laws.proofs.Rows.{in_part_cond, in_part_check, in_part_refuse, in_part_commit, in_part_fail, in_part_missing, SameInPart, in_part_itself}
use Rattle.iso_laws.proofs.PartReads.{in_part_reach, in_part_walk, in_part_enter, in_part_mac_write, object_low, drawn_low, shown_oid_low, led_there, part_found, IsLowFound}
use Rattle.iso_laws.proofs.tree.Holders.{under_low}
use Rattle.iso_laws.proofs.tree.Entries.{names_low, empty_low, link_count_low, removed_low, stat_of_low}

module _ (l : Label) (s : State) (kept : Kept l s) (valid : IsValid s) (who : Pid) (p : Process) (is : map.get s.procs who ≡ Some p)
    (is_low : low l p.label ≡ true) where
  abbrev part_s : State
  part_s = part_by_number l s

  -- ---- reading
  pub readdir_low : (path : PathValue) → SameInPart l s who p (readdir_row s who p path) (readdir_row part_s who p path)
  readdir_low path =
      low_read l s kept valid who p is is_low path (list_names s p) (list_names part_s p)
      (λ id place _ h. in_part_refuse l s who p errno.ENOTDIR _ _ _ _ (λ i. not (is_dir (object_low l s id h i).kind))
      (λ _. low_check l s kept valid who p is is_low id h (λ o. dac_read_of p id o place) _ _
      (λ _. low_answer l s kept valid who p is is_low answer.Names (names_in s id) (names_in part_s id) (names_low l s id h))))

  pub stat_low : (path : PathValue) → SameInPart l s who p (stat_row s who p path) (stat_row part_s who p path)
  stat_low path =
      low_read l s kept valid who p is is_low path (λ id _ _. tell_stat s id) (λ id _ _. tell_stat part_s id)
      (λ id _ there h. low_answer l s kept valid who p is is_low answer.Stat (stat_of s id) (stat_of part_s id) (stat_of_low l s kept valid id there h))

  pub chdir_low : (path : PathValue) → SameInPart l s who p (chdir_row s who p path) (chdir_row part_s who p path)
  chdir_low path =
      in_part_reach l s kept valid who p is_low is (λ n. First n) path _ _
      (λ id there. in_part_enter l s kept valid who p is_low id there (last_place (λ n. First n) path) (change_directory who p id) (change_directory who p)
      (λ _ _. in_part_itself l s who p (change_directory who p id) (caller_visible l s kept valid who p is is_low _)))

  -- ---- directories that are written
  -- a Low directory may be written, and the check of the order of labels is the same in the part
  low_write_directory : (dir : Oid) → low l dir.label ≡ true → (place : Place) (c c' : Check) → c' ≡ c → (r r' : Row) → SameInPart l s who p r r'
      → SameInPart l s who p (write_directory s p dir place c r) (write_directory part_s p dir place c' r')
  low_write_directory dir h place c c' e r r' rest =
      low_check l s kept valid who p is is_low dir h (λ o. mac_write_of p dir o place) _ _
      (λ _. low_check l s kept valid who p is is_low dir h (λ o. dac_write_of p dir o place) _ _
      (λ _. in_part_check l s who p c c' _ _ e (λ _. rest)))

  -- a Low directory may get an entry
  pub low_enter_in : (dir : Oid) → low l dir.label ≡ true → IsDir s.objects dir → (place : Place) (c c' : Check) → c' ≡ c → (r r' : Row) → SameInPart l s who p r r'
      → SameInPart l s who p (enter_in s p dir place c r) (enter_in part_s p dir place c' r')
  low_enter_in dir h is_dir place c c' e r r' rest =
      low_write_directory dir h place c c' e _ _
      (in_part_refuse l s who p errno.ENOENT _ _ _ _
      (removed_low l s kept valid dir (record { value = is_dir.object; is = is_dir.is }) h) (λ _. rest))

  -- the orders of labels are the same in the part
  pub created_order_low : (dir : Oid) (place : Place) → low l dir.label ≡ true → created_order part_s p dir place ≡ created_order s p dir place
  created_order_low dir place h = ap (λ (d : Object). of_object check.LabelOrder (dominates p.label d.label) None dir d place) (object_low l s dir h)

  held_order_low : (id : Oid) → low l id.label ≡ true → (dir : Oid) (place : Place) → low l dir.label ≡ true
      → held_order part_s id dir place ≡ held_order s id dir place
  held_order_low id low_id dir place h =
      λ i. of_object check.LabelOrder (dominates (object_low l s id low_id i).label (object_low l s dir h i).label) None dir (object_low l s dir h i) place

  -- the row goes on from the spot of a new entry, in a Low directory
  module _ (place : ℕ → Place) (path : PathValue) (order order' : Oid → Place → Check)
      (same : (dir : Oid) (at : Place) → low l dir.label ≡ true → order' dir at ≡ order dir at) (k k' : Spot → Row)
      (rest : (dir : Oid) (name : Name) → low l dir.label ≡ true → SameInPart l s who p (k (dir, name)) (k' (dir, name))) where
    low_is_new_spot : (found : Found) → IsLowFound l s kept valid who p is_low found
        → SameInPart l s who p (new_spot_found s p place path order found k) (new_spot_found part_s p place path order' (part_found l s kept valid who p is_low found) k')
    low_is_new_spot (Start id) seen = in_part_fail l s who p errno.EEXIST
    low_is_new_spot (Entry dir name None) seen = low_enter_in dir seen.0 seen.1 _ _ _ (same dir (dir_place place path) seen.0) _ _ (rest dir name seen.0)
    low_is_new_spot (Entry dir name (Some id)) seen = in_part_fail l s who p errno.EEXIST

    low_new_spot : SameInPart l s who p (new_spot s p place path order k) (new_spot part_s p place path order' k')
    low_new_spot = in_part_walk l s kept valid who p is_low is place path _ _ low_is_new_spot

  -- ---- making
  pub made_in_part : (dir : Oid) (name : Name) (o : Object) → low l dir.label ≡ true → creation part_s p.label dir name o ≡ part_changes l s.top (creation s p.label dir name o)
  made_in_part dir name o h =
      ap (λ last. creation_after last p.label dir name o) (drawn_low l s p.label is_low)
      ∙ ap (λ (q : Oid). object_addition s p.label o ++ SetEntry (dir, name) q ∷ []) (sym (shown_oid_low l s (next_object s p.label) is_low))
      ∙ sym (part_of_low l s.top (creation s p.label dir name o) (is_low, (is_low, (h, tt))))

  pub has_object_number_low : has_object_number part_s p.label ≡ has_object_number s p.label
  has_object_number_low = ap (λ n. nat_lt n MAX_OBJECTS) (drawn_low l s p.label is_low)

  make_low : (path : PathValue) (mode : ℕ) (b : Body) → SameInPart l s who p (make_row s who p path mode b) (make_row part_s who p path mode b)
  make_low path mode b =
      low_new_spot (λ n. First n) path (created_order s p) (created_order part_s p) created_order_low (make_object s p mode b) (make_object part_s p mode b)
      (λ dir name h. in_part_refuse l s who p errno.ENOSPC _ _ _ _ (ap not has_object_number_low)
      (λ _. in_part_commit l s who p _ _ answer.Nothing None (made_in_part dir name _ h)))

  pub mkdir_low : (path : PathValue) (mode : ℕ) → SameInPart l s who p (mkdir_row s who p path mode) (mkdir_row part_s who p path mode)
  mkdir_low path mode = make_low path mode body.Dir

  pub mkfifo_low : (path : PathValue) (mode : ℕ) → SameInPart l s who p (mkfifo_row s who p path mode) (mkfifo_row part_s who p path mode)
  mkfifo_low path mode = make_low path mode body.Fifo

  -- ---- linking
  -- the part sees a further name of a Low object
  entry_in_part : (dir : Oid) (name : Name) (id : Oid) → low l dir.label ≡ true → low l id.label ≡ true
      → SameInPart l s who p (add_entry id (dir, name)) (add_entry id (dir, name))
  entry_in_part dir name id h low_id = in_part_commit l s who p _ _ answer.Nothing None
      (ap (λ (q : Oid). SetEntry (dir, name) q ∷ []) (sym (shown_oid_low l s id low_id)) ∙ sym (part_of_low l s.top (SetEntry (dir, name) id ∷ []) (h, tt)))

  pub link_low : (path to : PathValue) → SameInPart l s who p (link_row s who p path to) (link_row part_s who p path to)
  link_low path to =
      low_write l s kept valid who p is is_low path (λ id place _. has_name_left s id place (add_name s p to id))
      (λ id place _. has_name_left part_s id place (add_name part_s p to id))
      (λ id place there low_id.
      low_check l s kept valid who p is is_low id low_id (λ o. of_object check.LinkDir (not (is_dir o.kind)) None id o place) _ _
      (λ _. in_part_refuse l s who p errno.EMLINK _ _ _ _ (ap (nat_le MAX_LINKS) (link_count_low l s kept valid id there low_id))
      (λ _. low_new_spot (λ n. Second n) to (held_order s id) (held_order part_s id) (held_order_low id low_id) (add_entry id) (add_entry id)
      (λ dir name h. entry_in_part dir name id h low_id))))

  -- ---- removing
  -- the row goes on from an entry of a Low object, in a Low directory, which may be taken away
  module _ (path : PathValue) (k k' : Oid × Name × Oid → Row)
      (rest : (dir : Oid) (name : Name) (id : Oid) → low l dir.label ≡ true → low l id.label ≡ true → SameInPart l s who p (k (dir, name, id)) (k' (dir, name, id)))
    where
      low_is_old_entry : (found : Found) → IsLowFound l s kept valid who p is_low found
          → SameInPart l s who p (old_entry_found s p path found k) (old_entry_found part_s p path (part_found l s kept valid who p is_low found) k')
      low_is_old_entry (Start id) seen = in_part_fail l s who p errno.EBUSY
      low_is_old_entry (Entry dir name object) seen =
          let place : Place = dir_place (λ n. First n) path in
          in_part_missing l s who p object _ _ (shown_oid l s.top)
          (λ id e. low_check l s kept valid who p is is_low dir seen.0 (λ o. mac_write_of p dir o place) _ _
          (λ _. low_check l s kept valid who p is is_low dir seen.0 (λ o. dac_write_of p dir o place) _ _
          (λ _. in_part_mac_write l s kept valid who p is_low id (led_there s valid dir name id (sym seen.2 ∙ e)) (last_place (λ n. First n) path) _
          (λ d. k' (dir, name, d)) (rest dir name id seen.0))))

      low_old_entry : SameInPart l s who p (old_entry s p path k) (old_entry part_s p path k')
      low_old_entry = in_part_walk l s kept valid who p is_low is (λ n. First n) path _ _ low_is_old_entry

  -- the part sees the removal of an entry of a Low directory
  drop_in_part : (dir : Oid) (name : Name) → low l dir.label ≡ true → SameInPart l s who p (drop_entry (dir, name)) (drop_entry (dir, name))
  drop_in_part dir name h = in_part_commit l s who p _ _ answer.Nothing None (sym (part_of_low l s.top (DropEntry (dir, name) ∷ []) (h, tt)))

  pub rmdir_low : (path : PathValue) → SameInPart l s who p (rmdir_row s who p path) (rmdir_row part_s who p path)
  rmdir_low path =
      low_old_entry path (remove_dir s) (remove_dir part_s)
      (λ dir name id h low_id. in_part_refuse l s who p errno.ENOTDIR _ _ _ _ (λ i. not (is_dir (object_low l s id low_id i).kind))
      (λ _. in_part_refuse l s who p errno.ENOTEMPTY _ _ _ _ (ap not (empty_low l s id low_id)) (λ _. drop_in_part dir name h)))

  pub unlink_low : (path : PathValue) → SameInPart l s who p (unlink_row s who p path) (unlink_row part_s who p path)
  unlink_low path =
      low_old_entry path (remove_name s path) (remove_name part_s path)
      (λ dir name id h low_id.
      low_check l s kept valid who p is is_low id low_id (λ o. of_object check.UnlinkDir (not (is_dir o.kind)) None id o (last_place (λ n. First n) path)) _ _
      (λ _. drop_in_part dir name h))

  -- ---- moving
  -- the row goes on from an entry that a Low object may take, in a Low directory
  module _ (to : PathValue) (id : Oid) (low_id : low l id.label ≡ true) (k k' : Oid × Name × Option Oid → Row)
      (rest : (into : Oid) (new : Name) (at : Option Oid) → low l into.label ≡ true → IsDir s.objects into → at ≡ look s into new
      → SameInPart l s who p (k (into, new, at)) (k' (into, new, option_map (shown_oid l s.top) at))) where
    low_is_target : (found : Found) → IsLowFound l s kept valid who p is_low found
        → SameInPart l s who p (target_found s p to id found k) (target_found part_s p to id (part_found l s kept valid who p is_low found) k')
    low_is_target (Start dir) seen = in_part_fail l s who p errno.EBUSY
    low_is_target (Entry into new at) seen =
        low_write_directory into seen.0 _ _ _ (held_order_low id low_id into (dir_place (λ n. Second n) to) seen.0) _ _ (rest into new at seen.0 seen.1 seen.2)

    low_target_entry : SameInPart l s who p (target_entry s p to id k) (target_entry part_s p to id k')
    low_target_entry = in_part_walk l s kept valid who p is_low is (λ n. Second n) to _ _ low_is_target

  -- what is at the target gives way to a Low object in the part as in the state
  low_give_way : (id : Oid) → low l id.label ≡ true → (object : Option Oid) → ((t : Oid) → object ≡ Some t → IsThere s.objects t) → (place : Place) (r r' : Row)
      → SameInPart l s who p r r'
      → SameInPart l s who p (give_way s p id object place r) (give_way part_s p id (option_map (shown_oid l s.top) object) place r')
  low_give_way id h None there place r r' rest = rest
  low_give_way id h (Some t) there place r r' rest =
      in_part_mac_write l s kept valid who p is_low t (there t refl) place _ (λ d. cond (same_oid d id) (if_moves r' false) (may_replace part_s id d r'))
      (λ low_t. in_part_cond l s who p _ _ _ _ _ _ refl
      (λ _. in_part_commit l s who p [] [] answer.Nothing None refl)
      (λ _. in_part_refuse l s who p errno.ENOTDIR _ _ _ _
      (λ i. is_dir (object_low l s id h i).kind && not (is_dir (object_low l s t low_t i).kind))
      (λ _. in_part_refuse l s who p errno.EISDIR _ _ _ _
      (λ i. is_dir (object_low l s t low_t i).kind && not (is_dir (object_low l s id h i).kind))
      (λ _. in_part_refuse l s who p errno.ENOTEMPTY _ _ _ _
      (λ i. is_dir (object_low l s t low_t i).kind && not (empty_low l s t low_t i)) (λ _. rest)))))

  -- an entry of a Low object moves from a Low directory to another
  low_move : (dir : Oid) (name : Name) (id into : Oid) (new : Name) → low l dir.label ≡ true → low l id.label ≡ true → low l into.label ≡ true
      → IsDir s.objects into → SameInPart l s who p (move_row s dir name id into new) (move_row part_s dir name id into new)
  low_move dir name id into new h low_id low_into into_is =
      in_part_refuse l s who p errno.EINVAL _ _ _ _
      (λ i. is_dir (object_low l s id low_id i).kind && under_low l s kept valid into id into_is low_into i)
      (λ _.
      in_part_refuse l s who p errno.ENOENT _ _ _ _
      (removed_low l s kept valid into (record { value = into_is.object; is = into_is.is }) low_into)
      (λ _. in_part_commit l s who p _ _ answer.Nothing None
      (ap (λ (q : Oid). DropEntry (dir, name) ∷ SetEntry (into, new) q ∷ []) (sym (shown_oid_low l s id low_id))
      ∙ sym (part_of_low l s.top (DropEntry (dir, name) ∷ SetEntry (into, new) id ∷ []) (h, (low_into, tt))))))

  pub rename_low : (path to : PathValue) → SameInPart l s who p (rename_row s who p path to) (rename_row part_s who p path to)
  rename_low path to =
      low_old_entry path (move_to s p to) (move_to part_s p to)
      (λ dir name id h low_id. low_target_entry to id low_id (move_over s p to (dir, name, id)) (move_over part_s p to (dir, name, id))
      (λ into new at low_into into_is is_at.
      low_give_way id low_id at (λ t is_t. led_there s valid into new t (sym is_at ∙ is_t)) (last_place (λ n. Second n) to) _ _
      (low_move dir name id into new h low_id low_into into_is)))
