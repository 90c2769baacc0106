-- `open`: a Low process in the state and in its part.
use Rattle.std.specs.Prelude.{◌≡◌, ℕ, ◌+◌, ◌||◌, not, nat_le, Bool, true, false, List, [], ◌∷◌, ◌++◌, Option, None, Some, refl, unwrap_or}
use Rattle.std.proofs.Common.{sym, ◌∙◌, ap, subst}
use Rattle.std.proofs.lemmas.Bool.{and_parts}
use Rattle.std.specs.FinMap as map
use Rattle.fs_path.specs.Name.{Name}
use Rattle.fs_path.specs.Path.{PathValue}
use Rattle.lab_lattice.specs.Label.{Label}
use Rattle.kern_model.specs.declared.calls.Answer.TheVariants as answer
use Rattle.kern_model.specs.declared.calls.Errno.TheVariants as errno
use Rattle.kern_model.specs.declared.calls.OpenFlags.{OpenFlags}
use Rattle.kern_model.specs.declared.checks.Check.{Check}
use Rattle.kern_model.specs.declared.checks.Place.{Place}
use Rattle.kern_model.specs.declared.checks.Place.TheVariants.{First}
use Rattle.kern_model.specs.declared.limits.TheConstants.{MAX_DESCRIPTIONS}
use Rattle.kern_model.specs.declared.numbers.Oid.{Oid}
use Rattle.kern_model.specs.declared.numbers.Pid.{Pid}
use Rattle.kern_model.specs.declared.objects.Attr.{Attr}
use Rattle.kern_model.specs.declared.objects.Body.TheVariants as body
use Rattle.kern_model.specs.declared.objects.Object.{Object}
use Rattle.kern_model.specs.Arguments.{are_flags}
use Rattle.kern_model.specs.Create.{attr_of, creation}
use Rattle.kern_model.specs.Descriptors.{lowest_free}
use Rattle.kern_model.specs.FileRows.{description_creation_after, opened_with, description_creation, content_change, unprivileged}
use Rattle.kern_model.specs.OpenRows.{open_row, open_found, open_present, open_absent, allowed_by_label, open_labelled, opens, opens_present}
use Rattle.kern_model.specs.Isolation.{low, Kept}
use Rattle.kern_model.specs.Kinds.{object_with, masked_permissions}
use Rattle.kern_model.specs.Row.{Row, need_if}
use Rattle.kern_model.specs.Rules.{mac_write_of}
use Rattle.kern_model.specs.State.{State, Process, Change, next_object, object_at}
use Rattle.kern_model.specs.Valid.{IsValid, IsThere, IsDir}
use Rattle.kern_model.specs.Walk.{Found, Start, Entry, last_place, dir_place}
use Rattle.iso_laws.proofs.Part.{part_by_number, shown_oid, part_changes, part_changes-append, part_of_low}
use Rattle.iso_laws.proofs.Rows.{in_part_cond, in_part_commit, in_part_need_if, in_part_refuse, in_part_soft, SameInPart}
use Rattle.iso_laws.proofs.PartReads.{IsLowFound, part_found, in_part_mac_read, in_part_mac_write, in_part_walk, descriptions_drawn_low, drawn_low, object_low, led_there}
use Rattle.iso_laws.proofs.tree.Isolation.{low_enter_in, created_order_low, made_in_part, has_object_number_low}

module _ (l : Label) (s : State) (kept : Kept l s) (valid : IsValid s) (who : Pid) (p : Process) (is : map.get s.procs who ≡ Some p)
    (is_low : low l p.label ≡ true) (flags : OpenFlags) where
  abbrev part_s : State
  part_s = part_by_number l s

  -- what was done before is seen, and so is the description
  low_opens : (id id' : Oid) → id' ≡ id → (before before' : List Change) → before' ≡ part_changes l s.top before
      → SameInPart l s who p (opens s who p id flags before) (opens part_s who p id' flags before')
  low_opens id id' same before before' seen =
      let seen_opening : description_creation part_s who p id' flags ≡ part_changes l s.top (description_creation s who p id flags) =
      (λ i. description_creation_after (descriptions_drawn_low l s p.label is_low i) p.label who p (opened_with flags (same i)))
      ∙ sym (part_of_low l s.top (description_creation s who p id flags) (is_low, (is_low, (kept.procs who p is ∙ is_low, tt)))) in
      in_part_commit l s who p _ _ (answer.Number (lowest_free p.fds)) None
      ((λ i. seen i ++ seen_opening i) ∙ sym (part_changes-append l s.top before (description_creation s who p id flags)))

  low_absent : (mode : ℕ) (dir : Oid) (name : Name) (place : Place) → low l dir.label ≡ true → IsDir s.objects dir
      → SameInPart l s who p (open_absent s who p flags mode dir name place) (open_absent part_s who p flags mode dir name place)
  low_absent mode dir name place h is_dir =
      let o : Object = object_with p.label (attr_of p (masked_permissions mode p.umask)) (body.File []) in
      in_part_refuse l s who p errno.ENOENT _ _ _ _ refl
      (λ _. low_enter_in l s kept valid who p is is_low dir h is_dir _ _ _ (created_order_low l s kept valid who p is is_low dir place h) _ _
      (in_part_refuse l s who p errno.ENOSPC _ _ _ _ (ap not (has_object_number_low l s kept valid who p is is_low))
      (λ _. low_opens (next_object s p.label) (next_object part_s p.label) (λ i. record { label = p.label; n = drawn_low l s p.label is_low i + 1 })
      (creation s p.label dir name o) _ (made_in_part l s kept valid who p is is_low dir name o h))))

  -- a check that is made where it is asked for
  where_asked : (b : Bool) (c : Check) (r r' : Row) → SameInPart l s who p r r' → SameInPart l s who p (need_if b c r) (need_if b c r')
  where_asked b c r r' rest = in_part_need_if l s who p b b c c r r' refl refl rest

  low_labelled : (id : Oid) (place : Place) → low l id.label ≡ true
      → SameInPart l s who p (open_labelled s who p flags id place (object_at s id)) (open_labelled part_s who p flags id place (object_at part_s id))
  low_labelled id place h =
      let o : Object = object_at s id in
      let emptied : (attr : Attr) → SameInPart l s who p (opens_present s who p flags id o (Some attr)) (opens_present part_s who p flags id o (Some attr)) =
      λ attr. let empties : List Change = content_change id o [] attr ∷ [] in low_opens id id refl empties empties (sym (part_of_low l s.top empties (h, tt))) in
      subst (λ x. SameInPart l s who p (open_labelled s who p flags id place o) (open_labelled part_s who p flags id place x)) (sym (object_low l s id h))
      (in_part_refuse l s who p errno.EISDIR _ _ _ _ refl
      (λ _. in_part_refuse l s who p errno.EINVAL _ _ _ _ refl
      (λ _. where_asked _ _ _ _ (where_asked _ _ _ _ (where_asked _ _ _ _
      (in_part_cond l s who p _ _ _ _ _ _ refl
      (λ _. in_part_soft l s who p _ _ _ _ _ (λ _. emptied o.attr) (emptied (unprivileged o.attr)))
      (λ _. low_opens id id refl [] [] refl)))))))

  -- an object that is opened is Low, since its label is checked
  low_by_label : (r w : Bool) → (r || w) ≡ true → (id : Oid) (place : Place) → IsThere s.objects id → (rest : Row) (rest' : Oid → Row)
      → (low l id.label ≡ true → SameInPart l s who p rest (rest' id))
      → SameInPart l s who p (allowed_by_label p (record flags { r = r; w = w }) id place (object_at s id) rest)
      (allowed_by_label p (record flags { r = r; w = w }) (shown_oid l s.top id) place (object_at part_s (shown_oid l s.top id)) (rest' (shown_oid l s.top id)))
  unfolding need_if
  low_by_label true w asked id place there rest rest' h =
      in_part_mac_read l s kept valid who p is_low id there place _ (λ d. need_if w (mac_write_of p d (object_at part_s d) place) (rest' d))
      (λ low_id. in_part_need_if l s who p _ _ _ _ _ _ refl (ap (λ o. mac_write_of p id o place) (object_low l s id low_id)) (h low_id))
  low_by_label false true asked id place there rest rest' h = in_part_mac_write l s kept valid who p is_low id there place rest rest' h
  low_by_label false false asked id place there rest rest' h = let none : false ≡ true = asked in cc

  low_present : (flags.r || flags.w) ≡ true → (id : Oid) (place : Place) → IsThere s.objects id
      → SameInPart l s who p (open_present s who p flags id place) (open_present part_s who p flags (shown_oid l s.top id) place)
  low_present asked id place there =
      in_part_refuse l s who p errno.EEXIST _ _ _ _ refl
      (λ _. low_by_label flags.r flags.w asked id place there _ (λ d. open_labelled part_s who p flags d place (object_at part_s d)) (low_labelled id place))

  low_found : (path : PathValue) (mode : ℕ) → (flags.r || flags.w) ≡ true → (found : Found) → IsLowFound l s kept valid who p is_low found
      → SameInPart l s who p (open_found s who p path flags mode found) (open_found part_s who p path flags mode (part_found l s kept valid who p is_low found))
  low_found path mode asked (Start id) seen = low_present asked id (last_place (λ n. First n) path) seen
  low_found path mode asked (Entry dir name None) seen = low_absent mode dir name (dir_place (λ n. First n) path) seen.0 seen.1
  low_found path mode asked (Entry dir name (Some id)) seen = low_present asked id (last_place (λ n. First n) path) (led_there s valid dir name id (sym seen.2))

-- flags as a call may have them ask to read or to write
pub flags_ask : (f : OpenFlags) → are_flags f ≡ true → (f.r || f.w) ≡ true
flags_ask f h = (and_parts _ _ (and_parts _ _ (and_parts _ _ h).0).0).0

pub open_low : (l : Label) (s : State) → Kept l s → IsValid s → (who : Pid) (p : Process) → map.get s.procs who ≡ Some p → low l p.label ≡ true
    → (path : PathValue) (flags : OpenFlags) (mode : Option ℕ) → are_flags flags ≡ true
    → SameInPart l s who p (open_row s who p path flags mode) (open_row (part_by_number l s) who p path flags mode)
open_low l s kept valid who p is is_low path flags mode args =
    in_part_refuse l s who p errno.EMFILE _ _ _ _ refl
    (λ _.
    in_part_refuse l s who p errno.ENFILE _ _ _ _
    (ap (λ n. not (nat_le (n + 1) MAX_DESCRIPTIONS)) (descriptions_drawn_low l s p.label is_low))
    (λ _.
    in_part_walk l s kept valid who p is_low is (λ n. First n) path _ _
    (low_found l s kept valid who p is is_low flags path (unwrap_or mode 0) (flags_ask flags args))))
