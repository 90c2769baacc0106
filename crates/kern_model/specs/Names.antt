-- The names of calls, and the words of the kernel's values.
use Rattle.std.specs.Prelude.{ℕ, List, ◌∷◌, ◌++◌, codes}
use Rattle.std.specs.Fmt.{decimal}
use Rattle.kern_model.specs.declared.calls.Call.{Call}
use Rattle.kern_model.specs.declared.calls.Call.TheVariants as call
use Rattle.kern_model.specs.declared.calls.CallName.{CallName}
use Rattle.kern_model.specs.declared.calls.CallName.TheVariants as name
use Rattle.kern_model.specs.declared.calls.Ending.{Ending}
use Rattle.kern_model.specs.declared.calls.Ending.TheVariants as ending
use Rattle.kern_model.specs.declared.calls.Errno.{Errno}
use Rattle.kern_model.specs.declared.calls.Errno.TheVariants as errno
use Rattle.kern_model.specs.declared.checks.CheckName.{CheckName}
use Rattle.kern_model.specs.declared.checks.CheckName.TheVariants as check
use Rattle.kern_model.specs.declared.checks.Place.{Place}
use Rattle.kern_model.specs.declared.checks.Place.TheVariants as place
use Rattle.kern_model.specs.declared.objects.Kind.{Kind}
use Rattle.kern_model.specs.declared.objects.Kind.TheVariants as kind

-- a call without its arguments
abbrev pub name_of : Call → CallName
name_of (call.OpenPath path flags mode) = name.OpenPath
name_of (call.Close fd) = name.Close
name_of (call.Read fd n) = name.Read
name_of (call.Write fd bytes) = name.Write
name_of (call.Lseek fd whence offset) = name.Lseek
name_of (call.Dup fd) = name.Dup
name_of call.Pipe = name.Pipe
name_of (call.Mkfifo path mode) = name.Mkfifo
name_of (call.Fstat fd) = name.Fstat
name_of (call.Mkdir path mode) = name.Mkdir
name_of (call.Rmdir path) = name.Rmdir
name_of (call.Link path to) = name.Link
name_of (call.Unlink path) = name.Unlink
name_of (call.Rename path to) = name.Rename
name_of (call.Readdir path) = name.Readdir
name_of (call.Stat path) = name.Stat
name_of (call.Chdir path) = name.Chdir
name_of (call.Chmod path mode) = name.Chmod
name_of (call.Chown path user group) = name.Chown
name_of (call.Umask mode) = name.Umask
name_of (call.CapGetFile path) = name.CapGetFile
name_of (call.CapSetFile path caps) = name.CapSetFile
name_of (call.CapGetFd fd) = name.CapGetFd
name_of (call.CapSetFd fd caps) = name.CapSetFd
name_of (call.MacGetFile path) = name.MacGetFile
name_of (call.MacSetFile path label) = name.MacSetFile
name_of (call.MacGetFd fd) = name.MacGetFd
name_of (call.MacSetFd fd label) = name.MacSetFd
name_of call.Fork = name.Fork
name_of (call.Exec path) = name.Exec
name_of (call.Exit code) = name.Exit
name_of call.Wait = name.Wait
name_of (call.Kill who signal) = name.Kill
name_of call.Getpid = name.Getpid
name_of call.Getppid = name.Getppid
name_of call.Getids = name.Getids
name_of (call.Setuid user) = name.Setuid
name_of (call.Setgid group) = name.Setgid
name_of call.CapGetProc = name.CapGetProc
name_of (call.CapSetProc caps) = name.CapSetProc
name_of call.MacGetProc = name.MacGetProc
name_of (call.MacSetProc label) = name.MacSetProc
name_of (call.AudWrite bytes) = name.AudWrite
name_of (call.AudSwitch on) = name.AudSwitch

-- the word of a call
abbrev pub word_of : CallName → List ℕ
word_of name.OpenPath = codes "open"
word_of name.Close = codes "close"
word_of name.Read = codes "read"
word_of name.Write = codes "write"
word_of name.Lseek = codes "lseek"
word_of name.Dup = codes "dup"
word_of name.Pipe = codes "pipe"
word_of name.Mkfifo = codes "mkfifo"
word_of name.Fstat = codes "fstat"
word_of name.Mkdir = codes "mkdir"
word_of name.Rmdir = codes "rmdir"
word_of name.Link = codes "link"
word_of name.Unlink = codes "unlink"
word_of name.Rename = codes "rename"
word_of name.Readdir = codes "readdir"
word_of name.Stat = codes "stat"
word_of name.Chdir = codes "chdir"
word_of name.Chmod = codes "chmod"
word_of name.Chown = codes "chown"
word_of name.Umask = codes "umask"
word_of name.CapGetFile = codes "cap_get_file"
word_of name.CapSetFile = codes "cap_set_file"
word_of name.CapGetFd = codes "cap_get_fd"
word_of name.CapSetFd = codes "cap_set_fd"
word_of name.MacGetFile = codes "mac_get_file"
word_of name.MacSetFile = codes "mac_set_file"
word_of name.MacGetFd = codes "mac_get_fd"
word_of name.MacSetFd = codes "mac_set_fd"
word_of name.Fork = codes "fork"
word_of name.Exec = codes "exec"
word_of name.Exit = codes "exit"
word_of name.Wait = codes "wait"
word_of name.Kill = codes "kill"
word_of name.Getpid = codes "getpid"
word_of name.Getppid = codes "getppid"
word_of name.Getids = codes "getids"
word_of name.Setuid = codes "setuid"
word_of name.Setgid = codes "setgid"
word_of name.CapGetProc = codes "cap_get_proc"
word_of name.CapSetProc = codes "cap_set_proc"
word_of name.MacGetProc = codes "mac_get_proc"
word_of name.MacSetProc = codes "mac_set_proc"
word_of name.AudWrite = codes "aud_write"
word_of name.AudSwitch = codes "aud_switch"

-- the word of a check
abbrev pub check_word : CheckName → List ℕ
check_word check.MacRead = codes "mac_read"
check_word check.MacWrite = codes "mac_write"
check_word check.LabelOrder = codes "label_order"
check_word check.MacUpgrade = codes "mac_upgrade"
check_word check.MacDowngrade = codes "mac_downgrade"
check_word check.MacSubject = codes "mac_subject"
check_word check.DacRead = codes "dac_read"
check_word check.DacSearch = codes "dac_search"
check_word check.DacWrite = codes "dac_write"
check_word check.DacExecute = codes "dac_execute"
check_word check.ExecKind = codes "exec_kind"
check_word check.Owner = codes "owner"
check_word check.Chown = codes "chown"
check_word check.Setfcap = codes "setfcap"
check_word check.CapWithin = codes "cap_within"
check_word check.CapGrow = codes "cap_grow"
check_word check.Setuid = codes "setuid"
check_word check.Setgid = codes "setgid"
check_word check.Kill = codes "kill"
check_word check.LinkDir = codes "link_dir"
check_word check.UnlinkDir = codes "unlink_dir"
check_word check.AudWrite = codes "aud_write"
check_word check.AudSwitch = codes "aud_switch"
check_word check.SetuidAll = codes "setuid_all"
check_word check.SetgidAll = codes "setgid_all"
check_word check.Fsetid = codes "fsetid"

-- the word of an error number
abbrev pub errno_word : Errno → List ℕ
errno_word errno.EACCES = codes "EACCES"
errno_word errno.EAGAIN = codes "EAGAIN"
errno_word errno.EBADF = codes "EBADF"
errno_word errno.EBUSY = codes "EBUSY"
errno_word errno.ECHILD = codes "ECHILD"
errno_word errno.EEXIST = codes "EEXIST"
errno_word errno.EFBIG = codes "EFBIG"
errno_word errno.EINVAL = codes "EINVAL"
errno_word errno.EISDIR = codes "EISDIR"
errno_word errno.EMFILE = codes "EMFILE"
errno_word errno.EMLINK = codes "EMLINK"
errno_word errno.ENFILE = codes "ENFILE"
errno_word errno.ENOENT = codes "ENOENT"
errno_word errno.ENOSPC = codes "ENOSPC"
errno_word errno.ENOTDIR = codes "ENOTDIR"
errno_word errno.ENOTEMPTY = codes "ENOTEMPTY"
errno_word errno.EPERM = codes "EPERM"
errno_word errno.EPIPE = codes "EPIPE"
errno_word errno.ESPIPE = codes "ESPIPE"
errno_word errno.ESRCH = codes "ESRCH"

-- the word of a kind
abbrev pub kind_word : Kind → List ℕ
kind_word kind.Dir = codes "dir"
kind_word kind.File = codes "file"
kind_word kind.Fifo = codes "fifo"
kind_word kind.Pipe = codes "pipe"

-- the word of a place: `p` or `q` and a number, `fd`, `pid` or `self`
abbrev pub place_text : Place → List ℕ
place_text (place.First n) = 112 ∷ decimal n
place_text (place.Second n) = 113 ∷ decimal n
place_text place.Handle = codes "fd"
place_text place.Target = codes "pid"
place_text place.Caller = codes "self"

-- the words of an ending
abbrev pub ending_text : Ending → List ℕ
ending_text (ending.Exit code) = codes "exit " ++ decimal code
ending_text ending.Term = codes "kill TERM"
ending_text ending.Kill = codes "kill KILL"
