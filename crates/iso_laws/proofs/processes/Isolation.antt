-- The calls on processes: a Low process in the state and in its part.
use Rattle.std.specs.Prelude.{◌≡◌, ℕ, ◌+◌, ◌==◌, ◌&&◌, not, nat_le, length, Bool, true, false, List, [], ◌∷◌, Option, None, Some, refl, cond}
use Rattle.std.proofs.Common.{sym, ◌∙◌, ap, subst}
use Rattle.std.proofs.lemmas.Bool.{true≢false, false_from_ne_true}
use Rattle.std.specs.FinMap as map
use Rattle.cap_bits.specs.declared.state.CapState.{CapState}
use Rattle.fs_path.specs.Path.{PathValue}
use Rattle.lab_lattice.specs.Label.{Label}
use Rattle.kern_model.specs.declared.calls.Answer.TheVariants as answer
use Rattle.kern_model.specs.declared.calls.Ending.{Ending}
use Rattle.kern_model.specs.declared.calls.Ending.TheVariants as ending
use Rattle.kern_model.specs.declared.calls.Errno.TheVariants as errno
use Rattle.kern_model.specs.declared.calls.Signal.{Signal}
use Rattle.kern_model.specs.declared.calls.Signal.TheVariants as signal
use Rattle.kern_model.specs.declared.checks.Check.{Check}
use Rattle.kern_model.specs.declared.limits.TheConstants.{MAX_PROCS}
use Rattle.kern_model.specs.declared.records.Rec.TheVariants as rec
use Rattle.kern_model.specs.declared.numbers.Pid.{Pid}
use Rattle.kern_model.specs.Isolation.{low, Kept}
use Rattle.kern_model.specs.Keys.{is_pid}
use Rattle.kern_model.specs.Maps.{where_key}
use Rattle.kern_model.specs.ProcessRows.{child_of, fork_row, has_child, take_ended, wait_row, exit_row, kill_with, signal_row, send, kill_row, umask_row, exec_row, take_on, getpid_row, getppid_row, getids_row, setuid_row, setgid_row, cap_get_proc_row, cap_set_proc_row, mac_get_proc_row, mac_set_proc_row, give_child}
use Rattle.kern_model.specs.Row.{Row}
use Rattle.kern_model.specs.Rules.{kill_rule, mac_write_process}
use Rattle.kern_model.specs.State.{State, Process, SetProcess, DrawProcess, last_drawn, next_process, object_at}
use Rattle.kern_model.specs.Step.{subject}
use Rattle.kern_model.proofs.KeyLaws.{pid_cmp_total, pid_cmp_exact}
use Rattle.kern_model.specs.Valid.{IsValid}
use Rattle.iso_laws.proofs.LowRows.{AreVisible, caller_visible, low_by_object, low_read, bound_low}
use Rattle.iso_laws.proofs.Part.{part_by_number, low_pid, as_is, part_changes, part_of_low}
use Rattle.iso_laws.proofs.Rows.{EachCommit, in_part_fail, in_part_commit, in_part_hidden, in_part_need, in_part_need_if, in_part_refuse, each_commit_need_if, SameInPart, in_part_itself}
use Rattle.kern_model.proofs.Selections.{test_after, any_entry-select}
use Rattle.iso_laws.proofs.PartReads.{equal_side, get_process, processes_drawn_low}
use Rattle.iso_laws.proofs.processes.Ending.{is_pid_some, ending_low}

module _ (l : Label) (s : State) (kept : Kept l s) (valid : IsValid s) (who : Pid) (p : Process) (is : map.get s.procs who ≡ Some p)
    (is_low : low l p.label ≡ true) where
  abbrev part_s : State
  part_s = part_by_number l s

  itself : {r : Row} → EachCommit (AreVisible l s) r → SameInPart l s who p r r
  itself {r = r} h = in_part_itself l s who p r h

  seen : (q : Process) → part_changes l s.top (SetProcess who q ∷ []) ≡ SetProcess who q ∷ []
  seen = caller_visible l s kept valid who p is is_low

  pub exec_low : (path : PathValue) → SameInPart l s who p (exec_row s who p path) (exec_row part_s who p path)
  exec_low path = low_read l s kept valid who p is is_low path (take_on s.bound who p) (take_on part_s.bound who p) (λ id place _ h.
      subst (λ bound. SameInPart l s who p (take_on s.bound who p id place (object_at s id)) (take_on bound who p id place (object_at part_s id)))
      (sym (bound_low l s kept valid who p is is_low))
      (low_by_object l s kept valid who p is is_low id h (take_on s.bound who p id place) (seen _)))

  pub getpid_low : SameInPart l s who p (getpid_row s who p) (getpid_row part_s who p)
  getpid_low = itself refl

  pub getppid_low : SameInPart l s who p (getppid_row s who p) (getppid_row part_s who p)
  getppid_low = itself refl

  pub getids_low : SameInPart l s who p (getids_row s who p) (getids_row part_s who p)
  getids_low = itself refl

  pub cap_get_proc_low : SameInPart l s who p (cap_get_proc_row s who p) (cap_get_proc_row part_s who p)
  cap_get_proc_low = itself refl

  pub mac_get_proc_low : SameInPart l s who p (mac_get_proc_row s who p) (mac_get_proc_row part_s who p)
  mac_get_proc_low = itself refl

  pub setuid_low : (user : ℕ) → SameInPart l s who p (setuid_row s who p user) (setuid_row part_s who p user)
  setuid_low user = itself (seen _, seen _)

  pub setgid_low : (group : ℕ) → SameInPart l s who p (setgid_row s who p group) (setgid_row part_s who p group)
  setgid_low group = itself (seen _, seen _)

  pub umask_low : (mode : ℕ) → SameInPart l s who p (umask_row s who p mode) (umask_row part_s who p mode)
  umask_low mode = itself (seen _)

  pub cap_set_proc_low : (caps : CapState) → SameInPart l s who p (cap_set_proc_row s who p caps) (cap_set_proc_row part_s who p caps)
  cap_set_proc_low caps = itself (seen _)

  pub mac_set_proc_low : (new : Label) → SameInPart l s who p (mac_set_proc_row s who p new) (mac_set_proc_row part_s who p new)
  mac_set_proc_low new = itself (each_commit_need_if (AreVisible l s) _ _ _ (seen _))

  -- ---- children and ends
  -- a Low process has a living child in the part where it has one in the state
  has_child_low : has_child part_s who ≡ has_child s who
  unfolding part_by_number
  has_child_low =
      let p_of : Pid → Process → Bool = λ q child. is_pid who child.parent in
      any_entry-select pid_cmp_total pid_cmp_exact (where_key (low_pid l) (as_is {X = Process})) p_of p_of s.procs (λ q x e.
      elim (low l q.label) as (λ b. low l q.label ≡ b → test_after p_of q (cond b (Some x) None) ≡ p_of q x) [
        | true ↦ λ _. refl
        | false ↦ λ high.
            sym
            (false_from_ne_true (p_of q x)
            (λ t. true≢false (sym (sym (kept.parents q who x e (is_pid_some who x.parent t)) ∙ kept.procs who p is ∙ is_low) ∙ high)))
      ] refl)

  pub fork_low : SameInPart l s who p (fork_row s who p) (fork_row part_s who p)
  fork_low =
      let n : ℕ = last_drawn s.process_numbers p.label in
      let same_number = processes_drawn_low l s p.label is_low in
      in_part_refuse l s who p errno.EAGAIN _ _ _ _ (ap (nat_le MAX_PROCS) same_number)
      (λ _.
      subst (λ m. SameInPart l s who p (give_child who p n) (give_child who p m)) (sym same_number)
      (itself (part_of_low l s.top (DrawProcess p.label (n + 1) ∷ SetProcess (next_process s p.label) (child_of who p) ∷ []) (is_low, (is_low, tt)))))

  taking : (es : List (Pid × Ending)) → EachCommit (AreVisible l s) (take_ended who p es)
  taking [] = refl
  taking (e ∷ es) = seen _

  pub wait_low : SameInPart l s who p (wait_row s who p) (wait_row part_s who p)
  wait_low =
      in_part_refuse l s who p errno.ECHILD _ _ _ _ (ap (λ b. length p.ended == 0 && not b) has_child_low)
      (λ _. itself (taking p.ended))

  -- a process with a Low number ends
  low_end : (q : Pid) (x : Process) (how : Ending) → low l q.label ≡ true → SameInPart l s who p (kill_with s q x how) (kill_with part_s q x how)
  low_end q x how h = in_part_commit l s who p _ _ answer.Nothing (Some (rec.Exit q how)) (ending_low l s kept valid q x how h)

  pub exit_low : (code : ℕ) → SameInPart l s who p (exit_row s who p code) (exit_row part_s who p code)
  exit_low code = low_end who p (ending.Exit code) (kept.procs who p is ∙ is_low)

  signalled_low : (target : Pid) (t : Process) → low l target.label ≡ true → (sig : Signal)
      → SameInPart l s who p (signal_row s target t sig) (signal_row part_s target t sig)
  signalled_low target t h signal.Zero = itself refl
  signalled_low target t h signal.Term = low_end target t ending.Term h
  signalled_low target t h signal.Kill = low_end target t ending.Kill h

  send_low : (target : Pid) (sig : Signal) → low l target.label ≡ true → (o : Option Process)
      → SameInPart l s who p (send s p target sig o) (send part_s p target sig o)
  send_low target sig h None = in_part_fail l s who p errno.ESRCH
  send_low target sig h (Some t) =
      in_part_need_if l s who p _ _ _ _ _ _ refl refl
      (in_part_need l s who p (kill_rule p target t) _ _ (λ _. signalled_low target t h sig))

  pub kill_low : (target : Pid) (sig : Signal) → SameInPart l s who p (kill_row s who p target sig) (kill_row part_s who p target sig)
  kill_low target sig =
      let c : Check = mac_write_process p target target.label in
      elim (low l target.label) as (λ b. low l target.label ≡ b → SameInPart l s who p (kill_row s who p target sig) (kill_row part_s who p target sig)) [
        | true ↦ λ h.
            in_part_need l s who p c _ _
            (λ _.
            subst (λ w. SameInPart l s who p (send s p target sig (map.get s.procs target)) (send part_s p target sig w)) (sym (get_process l s target h))
            (send_low target sig h (map.get s.procs target)))
        | false ↦ λ high.
            in_part_hidden l s who p c c _ _ refl refl refl
            (λ passes. true≢false (sym is_low ∙ equal_side l (subject who p) c refl refl passes ∙ high))
      ] refl
