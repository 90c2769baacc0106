-- The row of each call with laws, for a Low process in the state and in its part, and what its changes satisfy.
use Rattle.std.specs.Prelude.{◌≡◌, Bool, true, false, List, Some}
use Rattle.std.specs.FinMap as map
use Rattle.lab_lattice.specs.Label.{Label}
use Rattle.kern_model.specs.declared.calls.Call.{Call}
use Rattle.kern_model.specs.declared.calls.Call.TheVariants as call
use Rattle.kern_model.specs.declared.numbers.Pid.{Pid}
use Rattle.kern_model.specs.declared.records.Rec.{Rec}
use Rattle.kern_model.specs.Arguments.{has_names, is_call}
use Rattle.kern_model.specs.Isolation.{low, Kept}
use Rattle.kern_model.specs.State.{State, Process, Change}
use Rattle.kern_model.specs.Step.{subject}
use Rattle.kern_model.specs.Table.{row}
use Rattle.kern_model.specs.Valid.{IsValid}
use Rattle.iso_laws.proofs.PlayableCalls.{has_flags}
use Rattle.iso_laws.proofs.Along.{along_changes}
use Rattle.iso_laws.proofs.Cases.{EffectCases}
use Rattle.iso_laws.proofs.EffectMeets.{effect_satisfies}
use Rattle.iso_laws.proofs.Effects.{PremiseHolds}
use Rattle.iso_laws.proofs.Part.{part_by_number}
use Rattle.iso_laws.proofs.RowKinds.{row_kinds}
use Rattle.iso_laws.proofs.Rows.{ChangesSatisfy, Passes, SameInPart}
use Rattle.iso_laws.proofs.files.Isolation as files
use Rattle.iso_laws.proofs.tree.Isolation as tree
use Rattle.iso_laws.proofs.attributes.Isolation as attributes
use Rattle.iso_laws.proofs.processes.Isolation as processes
use Rattle.iso_laws.proofs.audit.Isolation as audit

-- each row of a Low process ends in the part as in the state
module _ (l : Label) (s : State) (kept : Kept l s) (valid : IsValid s) (who : Pid) (p : Process) (is : map.get s.procs who ≡ Some p)
    (is_low : low l p.label ≡ true) where
  pub low_row : (c : Call) → has_flags c ≡ true → SameInPart l s who p (row s who p c) (row (part_by_number l s) who p c)
  low_row (call.OpenPath path flags mode) args = files.open_low l s kept valid who p is is_low path flags mode args
  low_row (call.Close fd) _ = files.close_low l s kept valid who p is is_low fd
  low_row (call.Read fd n) _ = files.read_low l s kept valid who p is is_low fd n
  low_row (call.Write fd bytes) _ = files.write_low l s kept valid who p is is_low fd bytes
  low_row (call.Lseek fd from offset) _ = files.lseek_low l s kept valid who p is is_low fd from offset
  low_row (call.Dup fd) _ = files.dup_low l s kept valid who p is is_low fd
  low_row call.Pipe _ = files.pipe_low l s kept valid who p is is_low
  low_row (call.Fstat fd) _ = files.fstat_low l s kept valid who p is is_low fd
  low_row (call.Mkfifo path mode) _ = tree.mkfifo_low l s kept valid who p is is_low path mode
  low_row (call.Mkdir path mode) _ = tree.mkdir_low l s kept valid who p is is_low path mode
  low_row (call.Link path to) _ = tree.link_low l s kept valid who p is is_low path to
  low_row (call.Rmdir path) _ = tree.rmdir_low l s kept valid who p is is_low path
  low_row (call.Unlink path) _ = tree.unlink_low l s kept valid who p is is_low path
  low_row (call.Rename path to) _ = tree.rename_low l s kept valid who p is is_low path to
  low_row (call.Readdir path) _ = tree.readdir_low l s kept valid who p is is_low path
  low_row (call.Stat path) _ = tree.stat_low l s kept valid who p is is_low path
  low_row (call.Chdir path) _ = tree.chdir_low l s kept valid who p is is_low path
  low_row (call.Umask mode) _ = processes.umask_low l s kept valid who p is is_low mode
  low_row (call.Chmod path mode) _ = attributes.chmod_low l s kept valid who p is is_low path mode
  low_row (call.Chown path user group) _ = attributes.chown_low l s kept valid who p is is_low path user group
  low_row (call.CapSetFile path caps) _ = attributes.cap_set_file_low l s kept valid who p is is_low path caps
  low_row (call.CapSetFd fd caps) _ = attributes.cap_set_fd_low l s kept valid who p is is_low fd caps
  low_row (call.MacSetFile path new) _ = attributes.mac_set_file_low l s kept valid who p is is_low path new
  low_row (call.MacSetFd fd new) _ = attributes.mac_set_fd_low l s kept valid who p is is_low fd new
  low_row (call.CapGetFile path) _ = attributes.cap_get_file_low l s kept valid who p is is_low path
  low_row (call.CapGetFd fd) _ = attributes.cap_get_fd_low l s kept valid who p is is_low fd
  low_row (call.MacGetFile path) _ = attributes.mac_get_file_low l s kept valid who p is is_low path
  low_row (call.MacGetFd fd) _ = attributes.mac_get_fd_low l s kept valid who p is is_low fd
  low_row call.Fork _ = processes.fork_low l s kept valid who p is is_low
  low_row (call.Exit code) _ = processes.exit_low l s kept valid who p is is_low code
  low_row call.Wait _ = processes.wait_low l s kept valid who p is is_low
  low_row (call.Kill target sig) _ = processes.kill_low l s kept valid who p is is_low target sig
  low_row (call.Exec path) _ = processes.exec_low l s kept valid who p is is_low path
  low_row call.Getpid _ = processes.getpid_low l s kept valid who p is is_low
  low_row call.Getppid _ = processes.getppid_low l s kept valid who p is is_low
  low_row call.Getids _ = processes.getids_low l s kept valid who p is is_low
  low_row (call.Setuid user) _ = processes.setuid_low l s kept valid who p is is_low user
  low_row (call.Setgid group) _ = processes.setgid_low l s kept valid who p is is_low group
  low_row call.CapGetProc _ = processes.cap_get_proc_low l s kept valid who p is is_low
  low_row (call.CapSetProc caps) _ = processes.cap_set_proc_low l s kept valid who p is is_low caps
  low_row call.MacGetProc _ = processes.mac_get_proc_low l s kept valid who p is is_low
  low_row (call.MacSetProc new) _ = processes.mac_set_proc_low l s kept valid who p is is_low new
  low_row (call.AudWrite bytes) _ = audit.aud_write_low l s kept valid who p is is_low bytes
  low_row (call.AudSwitch on) _ = audit.aud_switch_low l s kept valid who p is is_low on

-- the changes of each row satisfy what those of each kind of effect satisfy
module _ (excluded : Rec → Bool) (s : State) (valid : IsValid s) (who : Pid) (p : Process) (is : map.get s.procs who ≡ Some p) (ArgsValid : Type 0)
    (P : List Change → Type 0) (cases : EffectCases excluded s who p ArgsValid P) where
  pub row_satisfies : (c : Call) → (ArgsValid → is_call s.top c ≡ true) → (ArgsValid → has_names c ≡ true) → has_flags c ≡ true → ChangesSatisfy excluded (subject who p) P (row s who p c)
  row_satisfies c ranges names flags =
      along_changes excluded (subject who p) _ _ P cases.none (effect_satisfies excluded s valid who p is (PremiseHolds s c) ArgsValid P cases ranges names flags) (row s who p c)
      (row_kinds (Passes excluded (subject who p)) (λ b. b ≡ false) (PremiseHolds s c) s who p is c (λ x h. h))
