-- The row of each call: of which kinds its checks and its effects are.
use Rattle.std.specs.Prelude.{◌≡◌, Bool, Some}
use Rattle.std.proofs.lemmas.Bool.{and_parts}
use Rattle.std.specs.FinMap as map
use Rattle.kern_model.specs.declared.calls.Call.{Call}
use Rattle.kern_model.specs.declared.calls.Call.TheVariants as call
use Rattle.kern_model.specs.declared.checks.Check.{Check}
use Rattle.kern_model.specs.declared.numbers.Pid.{Pid}
use Rattle.kern_model.specs.Arguments.{has_names, is_call}
use Rattle.kern_model.specs.State.{State, Process}
use Rattle.kern_model.specs.Table.{row}
use Rattle.iso_laws.proofs.Effects.{Premise, InRange, HasNames, HasFlags, PremiseHolds, OfKinds}
use Rattle.iso_laws.proofs.files.Rows as files
use Rattle.iso_laws.proofs.tree.Rows as tree
use Rattle.iso_laws.proofs.attributes.Rows as attributes
use Rattle.iso_laws.proofs.processes.Rows as processes
use Rattle.iso_laws.proofs.audit.Rows as audit

module _ (Known : Check → Type 0) (Not : Bool → Type 0) (Given : Premise → Type 0) (s : State) (who : Pid) (p : Process)
    (is : map.get s.procs who ≡ Some p) where
  -- where each premise that is given holds of the call, its row is of the kinds
  pub row_kinds : (c : Call) → ((x : Premise) → Given x → PremiseHolds s c x) → OfKinds Known Not Given s who p (row s who p c)
  unfolding is_call has_names
  row_kinds (call.OpenPath path flags mode) given = files.open_kinds Known Not Given s who p path flags mode (given HasFlags) (given HasNames)
  row_kinds (call.Close fd) given = files.close_kinds Known Not Given s who p fd
  row_kinds (call.Read fd n) given = files.read_kinds Known Not Given s who p fd n
  row_kinds (call.Write fd bytes) given = files.write_kinds Known Not Given s who p fd bytes
  row_kinds (call.Lseek fd from offset) given = files.lseek_kinds Known Not Given s who p fd from offset
  row_kinds (call.Dup fd) given = files.dup_kinds Known Not Given s who p fd
  row_kinds call.Pipe given = files.pipe_kinds Known Not Given s who p
  row_kinds (call.Mkfifo path mode) given = tree.mkfifo_kinds Known Not Given s who p path mode (given HasNames)
  row_kinds (call.Fstat fd) given = files.fstat_kinds Known Not Given s who p fd
  row_kinds (call.Mkdir path mode) given = tree.mkdir_kinds Known Not Given s who p path mode (given HasNames)
  row_kinds (call.Rmdir path) given = tree.rmdir_kinds Known Not Given s who p path
  row_kinds (call.Link path to) given = tree.link_kinds Known Not Given s who p path to (given HasNames)
  row_kinds (call.Unlink path) given = tree.unlink_kinds Known Not Given s who p path
  row_kinds (call.Rename path to) given = tree.rename_kinds Known Not Given s who p path to (given HasNames)
  row_kinds (call.Readdir path) given = tree.readdir_kinds Known Not Given s who p path
  row_kinds (call.Stat path) given = tree.stat_kinds Known Not Given s who p path
  row_kinds (call.Chdir path) given = tree.chdir_kinds Known Not Given s who p path
  row_kinds (call.Chmod path mode) given = attributes.chmod_kinds Known Not Given s who p path mode (given InRange)
  row_kinds (call.Chown path user group) given = attributes.chown_kinds Known Not Given s who p path user group
  row_kinds (call.Umask mode) given = processes.umask_kinds Known Not Given s who p mode (given InRange)
  row_kinds (call.CapGetFile path) given = attributes.cap_get_file_kinds Known Not Given s who p path
  row_kinds (call.CapSetFile path caps) given = attributes.cap_set_file_kinds Known Not Given s who p path caps
  row_kinds (call.CapGetFd fd) given = attributes.cap_get_fd_kinds Known Not Given s who p fd
  row_kinds (call.CapSetFd fd caps) given = attributes.cap_set_fd_kinds Known Not Given s who p fd caps
  row_kinds (call.MacGetFile path) given = attributes.mac_get_file_kinds Known Not Given s who p path
  row_kinds (call.MacSetFile path new) given = attributes.mac_set_file_kinds Known Not Given s who p path new (given InRange)
  row_kinds (call.MacGetFd fd) given = attributes.mac_get_fd_kinds Known Not Given s who p fd
  row_kinds (call.MacSetFd fd new) given = attributes.mac_set_fd_kinds Known Not Given s who p fd new (given InRange)
  row_kinds call.Fork given = processes.fork_kinds Known Not Given s who p
  row_kinds (call.Exec path) given = processes.exec_kinds Known Not Given s who p path
  row_kinds (call.Exit code) given = processes.exit_kinds Known Not Given s who p is code
  row_kinds call.Wait given = processes.wait_kinds Known Not Given s who p
  row_kinds (call.Kill target sig) given = processes.kill_kinds Known Not Given s who p target sig (λ range. (and_parts _ _ (given InRange range)).1)
  row_kinds call.Getpid given = processes.getpid_kinds Known Not Given s who p
  row_kinds call.Getppid given = processes.getppid_kinds Known Not Given s who p
  row_kinds call.Getids given = processes.getids_kinds Known Not Given s who p
  row_kinds (call.Setuid user) given = processes.setuid_kinds Known Not Given s who p user
  row_kinds (call.Setgid group) given = processes.setgid_kinds Known Not Given s who p group
  row_kinds call.CapGetProc given = processes.cap_get_proc_kinds Known Not Given s who p
  row_kinds (call.CapSetProc caps) given = processes.cap_set_proc_kinds Known Not Given s who p caps
  row_kinds call.MacGetProc given = processes.mac_get_proc_kinds Known Not Given s who p
  row_kinds (call.MacSetProc new) given = processes.mac_set_proc_kinds Known Not Given s who p new (given InRange)
  row_kinds (call.AudWrite bytes) given = audit.aud_write_kinds Known Not Given s who p bytes
  row_kinds (call.AudSwitch on) given = audit.aud_switch_kinds Known Not Given s who p on
