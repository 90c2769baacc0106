-- The call table: a row for each call.
use Rattle.kern_model.specs.declared.numbers.Pid.{Pid}
use Rattle.kern_model.specs.declared.calls.Call.{Call}
use Rattle.kern_model.specs.declared.calls.Call.TheVariants as call
use Rattle.kern_model.specs.State.{State, Process}
use Rattle.kern_model.specs.Row.{Row}
use Rattle.kern_model.specs.OpenRows.{open_row}
use Rattle.kern_model.specs.FileRows.{close_row, read_row, write_row, lseek_row, dup_row, pipe_row, fstat_row}
use Rattle.kern_model.specs.TreeRows.{mkfifo_row, mkdir_row, rmdir_row, link_row, unlink_row, rename_row, readdir_row, stat_row, chdir_row}
use Rattle.kern_model.specs.AttrRows.{chmod_row, chown_row, cap_get_file_row, cap_set_file_row, cap_get_fd_row, cap_set_fd_row, mac_get_file_row, mac_set_file_row, mac_get_fd_row, mac_set_fd_row}
use Rattle.kern_model.specs.ProcessRows.{umask_row, fork_row, exec_row, exit_row, wait_row, kill_row, getpid_row, getppid_row, getids_row, setuid_row, setgid_row, cap_get_proc_row, cap_set_proc_row, mac_get_proc_row, mac_set_proc_row}
use Rattle.kern_model.specs.AuditRows.{aud_write_row, aud_switch_row}

-- what a process does in a state by a call
abbrev pub row : State → Pid → Process → Call → Row
row s who p (call.OpenPath path flags mode) = open_row s who p path flags mode
row s who p (call.Close fd) = close_row s who p fd
row s who p (call.Read fd n) = read_row s who p fd n
row s who p (call.Write fd bytes) = write_row s who p fd bytes
row s who p (call.Lseek fd from offset) = lseek_row s who p fd from offset
row s who p (call.Dup fd) = dup_row s who p fd
row s who p call.Pipe = pipe_row s who p
row s who p (call.Mkfifo path mode) = mkfifo_row s who p path mode
row s who p (call.Fstat fd) = fstat_row s who p fd
row s who p (call.Mkdir path mode) = mkdir_row s who p path mode
row s who p (call.Rmdir path) = rmdir_row s who p path
row s who p (call.Link path to) = link_row s who p path to
row s who p (call.Unlink path) = unlink_row s who p path
row s who p (call.Rename path to) = rename_row s who p path to
row s who p (call.Readdir path) = readdir_row s who p path
row s who p (call.Stat path) = stat_row s who p path
row s who p (call.Chdir path) = chdir_row s who p path
row s who p (call.Chmod path mode) = chmod_row s who p path mode
row s who p (call.Chown path user group) = chown_row s who p path user group
row s who p (call.Umask mode) = umask_row s who p mode
row s who p (call.CapGetFile path) = cap_get_file_row s who p path
row s who p (call.CapSetFile path caps) = cap_set_file_row s who p path caps
row s who p (call.CapGetFd fd) = cap_get_fd_row s who p fd
row s who p (call.CapSetFd fd caps) = cap_set_fd_row s who p fd caps
row s who p (call.MacGetFile path) = mac_get_file_row s who p path
row s who p (call.MacSetFile path new) = mac_set_file_row s who p path new
row s who p (call.MacGetFd fd) = mac_get_fd_row s who p fd
row s who p (call.MacSetFd fd new) = mac_set_fd_row s who p fd new
row s who p call.Fork = fork_row s who p
row s who p (call.Exec path) = exec_row s who p path
row s who p (call.Exit code) = exit_row s who p code
row s who p call.Wait = wait_row s who p
row s who p (call.Kill target sig) = kill_row s who p target sig
row s who p call.Getpid = getpid_row s who p
row s who p call.Getppid = getppid_row s who p
row s who p call.Getids = getids_row s who p
row s who p (call.Setuid user) = setuid_row s who p user
row s who p (call.Setgid group) = setgid_row s who p group
row s who p call.CapGetProc = cap_get_proc_row s who p
row s who p (call.CapSetProc caps) = cap_set_proc_row s who p caps
row s who p call.MacGetProc = mac_get_proc_row s who p
row s who p (call.MacSetProc new) = mac_set_proc_row s who p new
row s who p (call.AudWrite bytes) = aud_write_row s who p bytes
row s who p (call.AudSwitch on) = aud_switch_row s who p on
