-- The calls on files: a Low process in the state and in its part.
use Rattle.std.specs.Prelude.{◌≡◌, ℕ, ◌+◌, ◌==◌, ◌&&◌, not, nat_le, Bool, true, false, List, [], ◌∷◌, length, None, Some, refl, ℤ, pos, ◌+ℤ◌}
use Rattle.std.proofs.Common.{sym, ◌∙◌, ap, subst}
use Rattle.std.proofs.lemmas.Bool.{and_parts}
use Rattle.std.specs.FinMap as map
use Rattle.lab_lattice.specs.Label.{Label}
use Rattle.kern_model.specs.declared.calls.Answer.TheVariants as answer
use Rattle.kern_model.specs.declared.calls.Errno.TheVariants as errno
use Rattle.kern_model.specs.declared.calls.Whence.{Whence}
use Rattle.kern_model.specs.declared.calls.Whence.TheVariants as whence
use Rattle.kern_model.specs.declared.checks.Place.TheVariants.{Handle}
use Rattle.kern_model.specs.declared.limits.TheConstants.{MAX_DESCRIPTIONS}
use Rattle.kern_model.specs.declared.numbers.Oid.{Oid}
use Rattle.kern_model.specs.declared.numbers.Pid.{Pid}
use Rattle.kern_model.specs.declared.objects.Object.{Object}
use Rattle.kern_model.specs.Descriptors.{Opened, any_open, changes_of_close}
use Rattle.kern_model.specs.FileRows.{pipe_row, make_pipe, make_pipe_after, pipe_creation, close_row, dup_row, fstat_row, lseek_row, seek_opened, moves, base_of, read_row, take_from, write_row, put_in_stream, into_stream, into_file, place_in, open_object, offset_change}
use Rattle.kern_model.specs.Isolation.{low, Kept}
use Rattle.kern_model.specs.Kinds.{is_stream}
use Rattle.kern_model.specs.Row.{Row, Need}
use Rattle.kern_model.specs.Rules.{mac_read, mac_write, mac_read_of, mac_write_of}
use Rattle.kern_model.specs.State.{State, Process, Change, SetObject, SetProcess, object_at}
use Rattle.kern_model.specs.Stat.{stat_of}
use Rattle.kern_model.specs.Valid.{IsValid}
use Rattle.iso_laws.proofs.LowRows.{AreVisible, caller_visible, low_by_object, low_check, low_answer, low_descriptor}
use Rattle.iso_laws.proofs.Part.{part_by_number, sees_first, part_of_low}
use Rattle.iso_laws.proofs.Rows.{in_part_cond, in_part_commit, in_part_need_if, in_part_refuse, each_commit_cond, SameInPart, in_part_itself}
use Rattle.iso_laws.proofs.PartReads.{descriptions_drawn_low, drawn_low, object_low, open_object_is}
use Rattle.iso_laws.proofs.files.Closing.{closing_low}
use Rattle.iso_laws.proofs.files.Closed.{has_fd, without_fd}
pub use Rattle.iso_laws.proofs.files.Opening.{open_low}
use Rattle.iso_laws.proofs.files.Descriptors.{any_open_low}
use Rattle.iso_laws.proofs.tree.Entries.{stat_of_low}
use Rattle.iso_laws.proofs.tree.Isolation.{has_object_number_low}

module _ (l : Label) (s : State) (kept : Kept l s) (valid : IsValid s) (who : Pid) (p : Process) (is : map.get s.procs who ≡ Some p)
    (is_low : low l p.label ≡ true) where
  abbrev part_s : State
  part_s = part_by_number l s

  -- the mac_read of what a descriptor refers to
  low_handle_read : (f : Opened) → low l f.description.object.label ≡ true → (r r' : Row) → SameInPart l s who p r r'
      → SameInPart l s who p (Need (mac_read s p f.description.object Handle) r) (Need (mac_read part_s p f.description.object Handle) r')
  low_handle_read f h r r' rest =
      low_check l s kept valid who p is is_low f.description.object h
      (λ o. mac_read_of p f.description.object o Handle) r r' (λ _. rest)

  -- and its mac_write
  low_handle_write : (f : Opened) → low l f.description.object.label ≡ true → (r r' : Row) → SameInPart l s who p r r'
      → SameInPart l s who p (Need (mac_write s p f.description.object Handle) r) (Need (mac_write part_s p f.description.object Handle) r')
  low_handle_write f h r r' rest =
      low_check l s kept valid who p is is_low f.description.object h
      (λ o. mac_write_of p f.description.object o Handle) r r' (λ _. rest)

  pub fstat_low : (fd : ℕ) → SameInPart l s who p (fstat_row s who p fd) (fstat_row part_s who p fd)
  fstat_low fd = low_descriptor l s kept valid who p is is_low fd _ _ (λ f open_is _ h.
      let id : Oid = f.description.object in
      low_handle_read f h _ _
      (low_answer l s kept valid who p is is_low answer.Stat (stat_of s id) (stat_of part_s id)
      (stat_of_low l s kept valid id (record { value = object_at s id; is = open_object_is s valid p fd f open_is }) h)))

  pub dup_low : (fd : ℕ) → SameInPart l s who p (dup_row s who p fd) (dup_row part_s who p fd)
  dup_low fd =
      low_descriptor l s kept valid who p is is_low fd _ _
      (λ f _ _ _. in_part_itself l s who p _ (refl, caller_visible l s kept valid who p is is_low _))

  pub close_low : (fd : ℕ) → SameInPart l s who p (close_row s who p fd) (close_row part_s who p fd)
  close_low fd = low_descriptor l s kept valid who p is is_low fd _ _ (λ f _ _ _.
      let gone : Change = SetProcess who (without_fd p fd) in
      in_part_commit l s who p _ _ answer.Nothing None
      (ap (λ cs. gone ∷ cs) (closing_low l s kept valid (has_fd who fd))
      ∙ sym (sees_first l s.top gone (changes_of_close s (has_fd who fd)) (kept.procs who p is ∙ is_low))))

  pub pipe_low : SameInPart l s who p (pipe_row s who p) (pipe_row part_s who p)
  pipe_low =
      let same = descriptions_drawn_low l s p.label is_low in
      in_part_refuse l s who p errno.EMFILE _ _ _ _ refl
      (λ _. in_part_refuse l s who p errno.ENFILE _ _ _ _ (ap (λ n. not (nat_le (n + 2) MAX_DESCRIPTIONS)) same)
      (λ _. in_part_refuse l s who p errno.ENOSPC _ _ _ _ (ap not (has_object_number_low l s kept valid who p is is_low))
      (λ _.
      subst (λ r. SameInPart l s who p (make_pipe s who p) r) (λ i. make_pipe_after (sym (drawn_low l s p.label is_low) i) (sym same i) who p)
      (in_part_itself l s who p (make_pipe s who p)
      (part_of_low l s.top (pipe_creation s who p) (is_low, (is_low, (is_low, (is_low, (is_low, (kept.procs who p is ∙ is_low, tt)))))))))))

  same_base : (f : Opened) → low l f.description.object.label ≡ true → (from : Whence) → base_of part_s f from ≡ base_of s f from
  same_base f h whence.Set = refl
  same_base f h whence.Cur = refl
  same_base f h whence.End = ap (λ (o : Object). length o.bytes) (object_low l s f.description.object h)

  pub lseek_low : (fd : ℕ) (from : Whence) (offset : ℤ) → SameInPart l s who p (lseek_row s who p fd from offset) (lseek_row part_s who p fd from offset)
  lseek_low fd from offset = low_descriptor l s kept valid who p is is_low fd _ _ (λ f _ low_did h.
      let same = object_low l s f.description.object h in
      low_handle_read f h _ _
      (in_part_refuse l s who p errno.ESPIPE _ _ _ _ (λ i. is_stream (same i).kind)
      (λ _. subst (λ r. SameInPart l s who p (seek_opened s from offset f) r)
      (sym (λ i. moves f (pos (same_base f h from i) +ℤ offset) (length (same i).bytes)))
      (in_part_itself l s who p (seek_opened s from offset f) (refl, part_of_low l s.top (offset_change f _ ∷ []) (low_did, tt))))))

  and_same : (b x y : Bool) → (b ≡ true → x ≡ y) → (b && x) ≡ (b && y)
  and_same true x y h = h refl
  and_same false x y h = refl

  -- nothing comes out of a pipe or FIFO in the part where nothing does in the state
  same_again : (f : Opened) → low l f.description.object.label ≡ true
      → (is_stream (open_object part_s f).kind && length (open_object part_s f).bytes == 0 && any_open part_s (λ d. d.writes) f.description.object)
      ≡ (is_stream (open_object s f).kind && length (open_object s f).bytes == 0 && any_open s (λ d. d.writes) f.description.object)
  same_again f h =
      let id : Oid = f.description.object in
      ap (λ (o : Object). is_stream o.kind && length o.bytes == 0 && any_open part_s (λ d. d.writes) id) (object_low l s id h)
      ∙ and_same (is_stream (open_object s f).kind && length (open_object s f).bytes == 0) _ _
      (λ empty. any_open_low l s kept valid id h (and_parts _ _ empty).0 (λ d. d.writes))

  pub read_low : (fd n : ℕ) → SameInPart l s who p (read_row s who p fd n) (read_row part_s who p fd n)
  read_low fd n = low_descriptor l s kept valid who p is is_low fd _ _ (λ f _ low_did h.
      let id : Oid = f.description.object in
      let same = object_low l s id h in
      in_part_refuse l s who p errno.EBADF _ _ _ _ refl
      (λ _. low_handle_read f h _ _
      (in_part_need_if l s who p _ _ _ _ _ _ (λ i. is_stream (same i).kind)
      (ap (λ (o : Object). mac_write_of p id o Handle) same)
      (in_part_refuse l s who p errno.EAGAIN _ _ _ _ (same_again f h)
      (λ _. low_by_object l s kept valid who p is is_low id h (λ o. take_from (is_stream o.kind) n f o)
      (each_commit_cond (AreVisible l s) (is_stream (open_object s f).kind) _ _ (part_of_low l s.top (SetObject id _ ∷ []) (h, tt))
      (part_of_low l s.top (offset_change f _ ∷ []) (low_did, tt))))))))

  pub write_low : (fd : ℕ) (bytes : List ℕ) → SameInPart l s who p (write_row s who p fd bytes) (write_row part_s who p fd bytes)
  write_low fd bytes = low_descriptor l s kept valid who p is is_low fd _ _ (λ f _ low_did h.
      let id : Oid = f.description.object in
      let same = object_low l s id h in
      let changed : (o : Object) → AreVisible l s (SetObject id o ∷ offset_change f (place_in (open_object s f) f + length bytes) ∷ []) None =
      λ o. part_of_low l s.top (SetObject id o ∷ offset_change f _ ∷ []) (h, (low_did, tt)) in
      in_part_refuse l s who p errno.EBADF _ _ _ _ refl
      (λ _. low_handle_write f h _ _
      (in_part_cond l s who p _ _ _ _ _ _ (λ i. is_stream (same i).kind)
      (λ stream. subst (λ o. SameInPart l s who p (put_in_stream s f bytes) (into_stream part_s bytes f o)) (sym same)
      (in_part_refuse l s who p errno.EPIPE _ _ _ _ (ap not (any_open_low l s kept valid id h stream (λ d. d.reads)))
      (λ _. in_part_itself l s who p _ (refl, part_of_low l s.top (SetObject id _ ∷ []) (h, tt)))))
      (λ _. low_by_object l s kept valid who p is is_low id h (into_file bytes f)
      (refl, (refl, each_commit_cond (AreVisible l s) (length bytes == 0) _ _ (part_of_low l s.top (offset_change f _ ∷ []) (low_did, tt)) (changed _, changed _)))))))
