-- The calls on processes: of which kinds the checks and the effects of their rows are.
use Rattle.std.specs.Prelude.{◌≡◌, ℕ, Bool, true, List, [], ◌∷◌, Option, Some, None, refl}
use Rattle.std.proofs.Common.{subst, inl, inr}
use Rattle.std.specs.FinMap as map
use Rattle.cap_bits.specs.declared.state.CapState.{CapState}
use Rattle.fs_path.specs.Path.{PathValue}
use Rattle.lab_lattice.specs.Label.{Label, dominates}
use Rattle.kern_model.specs.declared.calls.Ending.{Ending}
use Rattle.kern_model.specs.declared.calls.Ending.TheVariants as ending
use Rattle.kern_model.specs.declared.calls.Signal.{Signal}
use Rattle.kern_model.specs.declared.calls.Signal.TheVariants as signal
use Rattle.kern_model.specs.declared.checks.Check.{Check}
use Rattle.kern_model.specs.declared.numbers.Pid.{Pid}
use Rattle.kern_model.specs.Kinds.{is_permission}
use Rattle.kern_model.specs.ProcessRows.{fork_row, take_ended, wait_row, exit_row, signal_row, send, kill_row, umask_row, exec_row, take_on, getpid_row, getppid_row, getids_row, setuid_row, setgid_row, cap_get_proc_row, cap_set_proc_row, mac_get_proc_row, mac_set_proc_row}
use Rattle.kern_model.specs.Row.{Row, need_if}
use Rattle.kern_model.specs.Rules.{mac_write_process}
use Rattle.kern_model.specs.State.{State, Process}
use Rattle.kern_model.specs.Walk.{read_object}
use Rattle.kern_model.proofs.MapLemmas.{some_same}
use Rattle.iso_laws.proofs.Along.{Reaches, ByWalk, along_need_if, along_path}
use Rattle.iso_laws.proofs.Effects.{Premise, OfKinds, of_reached, of_caller, InRange, CheckKind, OfCaller, OfNumber, OfLiving, Effect, NoChange, SetIds, SetUmask, SetCaps, Execute, SetLabel, MakeChild, Await, EndProcess}

module _ (Known : Check → Type 0) (Not : Bool → Type 0) (Given : Premise → Type 0) (s : State) (who : Pid) (p : Process) where
  -- a check that is made where it is asked for
  where_asked : (b : Bool) (c : Check) (r : Row) → CheckKind Given s who p c → ((b ≡ true → Known c) → OfKinds Known Not Given s who p r)
      → OfKinds Known Not Given s who p (need_if b c r)
  where_asked = along_need_if Known Not (CheckKind Given s who p) (Effect Known Not Given s who p)

  -- ---- children and ends
  pub fork_kinds : OfKinds Known Not Given s who p (fork_row s who p)
  fork_kinds = (refl, MakeChild)

  take_kinds : (es : List (Pid × Ending)) → p.ended ≡ es → OfKinds Known Not Given s who p (take_ended who p es)
  take_kinds [] first = refl
  take_kinds (e ∷ es) first = Await e es first

  pub wait_kinds : OfKinds Known Not Given s who p (wait_row s who p)
  wait_kinds = (refl, λ _. take_kinds p.ended refl)

  pub exit_kinds : map.get s.procs who ≡ Some p → (code : ℕ) → OfKinds Known Not Given s who p (exit_row s who p code)
  exit_kinds is code = EndProcess who p (ending.Exit code) is (inl refl)

  signalled_kinds : (target : Pid) (t : Process) → map.get s.procs target ≡ Some t → Known (mac_write_process p target target.label) → (sig : Signal)
      → OfKinds Known Not Given s who p (signal_row s target t sig)
  signalled_kinds target t at written signal.Zero = NoChange
  signalled_kinds target t at written signal.Term = EndProcess target t ending.Term at (inr written)
  signalled_kinds target t at written signal.Kill = EndProcess target t ending.Kill at (inr written)

  send_kinds : (target : Pid) (sig : Signal) → Known (mac_write_process p target target.label) → (o : Option Process) → map.get s.procs target ≡ o
      → OfKinds Known Not Given s who p (send s p target sig o)
  send_kinds target sig written None at = refl
  send_kinds target sig written (Some t) at =
      where_asked _ _ _ (OfLiving _ _ target t at) (λ _. (OfLiving _ _ target t at, λ _. signalled_kinds target t at written sig))

  pub kill_kinds : (target : Pid) (sig : Signal) → (Given InRange → dominates s.top target.label ≡ true)
      → OfKinds Known Not Given s who p (kill_row s who p target sig)
  kill_kinds target sig below = (OfNumber _ _ target below, λ written. send_kinds target sig written (map.get s.procs target) refl)

  -- ---- programs
  pub exec_kinds : (path : PathValue) → OfKinds Known Not Given s who p (exec_row s who p path)
  exec_kinds path =
      along_path Known Not (CheckKind Given s who p) (Effect Known Not Given s who p) s p of_reached path
      (λ id place. read_object s p id place (take_on s.bound who p id place)) (λ id place walked.
      let reached : Reaches s p id = ByWalk id walked in
      (of_reached _ _ id place reached, λ _. (of_reached _ _ id place reached, λ _. (of_reached _ _ id place reached, λ _. Execute id walked))))

  -- ---- what a process reports of itself
  pub getpid_kinds : OfKinds Known Not Given s who p (getpid_row s who p)
  getpid_kinds = NoChange

  pub getppid_kinds : OfKinds Known Not Given s who p (getppid_row s who p)
  getppid_kinds = NoChange

  pub getids_kinds : OfKinds Known Not Given s who p (getids_row s who p)
  getids_kinds = NoChange

  pub cap_get_proc_kinds : OfKinds Known Not Given s who p (cap_get_proc_row s who p)
  cap_get_proc_kinds = NoChange

  pub mac_get_proc_kinds : OfKinds Known Not Given s who p (mac_get_proc_row s who p)
  mac_get_proc_kinds = NoChange

  -- ---- what a process sets of itself
  pub setuid_kinds : (user : ℕ) → OfKinds Known Not Given s who p (setuid_row s who p user)
  setuid_kinds user = (of_caller _ _, ((λ _. SetIds _ refl), (of_caller _ _, λ _. SetIds _ refl)))

  pub setgid_kinds : (group : ℕ) → OfKinds Known Not Given s who p (setgid_row s who p group)
  setgid_kinds group = (of_caller _ _, ((λ _. SetIds _ refl), (of_caller _ _, λ _. SetIds _ refl)))

  pub umask_kinds : (mode : ℕ) → (Given InRange → is_permission mode ≡ true) → OfKinds Known Not Given s who p (umask_row s who p mode)
  umask_kinds mode args = SetUmask mode args

  pub cap_set_proc_kinds : (caps : CapState) → OfKinds Known Not Given s who p (cap_set_proc_row s who p caps)
  cap_set_proc_kinds caps = (of_caller _ _, λ grow. SetCaps caps grow)

  pub mac_set_proc_kinds : (new : Label) → (Given InRange → dominates s.top new ≡ true) → OfKinds Known Not Given s who p (mac_set_proc_row s who p new)
  mac_set_proc_kinds new below =
      where_asked _ _ _ (OfCaller _ _ (Some new) (λ l same given. subst (λ x. dominates s.top x ≡ true) (some_same new l same) (below given)))
      (λ allowed. SetLabel new allowed below)
