-- Whose descriptors there are.
use Rattle.std.specs.FinMap.{FinMap}
use Rattle.kern_model.specs.declared.numbers.Pid.{Pid}
use Rattle.kern_model.specs.Keys.{pid_cmp}
use Rattle.kern_model.specs.State.{Process}
use Rattle.kern_model.specs.Valid.{IsThere}
use Rattle.fd_table.specs.Fds.{AllFds}

-- each process that has a row of descriptors is living
abbrev pub HasOwners : FinMap pid_cmp Process → AllFds → Type 0
HasOwners procs rows = (q : Pid) → IsThere rows q → IsThere procs q
