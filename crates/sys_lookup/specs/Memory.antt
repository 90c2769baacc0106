-- Which calls take no memory.
use Rattle.std.specs.Prelude.{Bool, true, false}
use Rattle.kern_model.specs.declared.calls.Call.{Call}
use Rattle.kern_model.specs.declared.calls.Call.TheVariants as call

-- a call that takes no memory and leaves no record
abbrev pub takes_no_memory : Call → Bool
takes_no_memory (call.Close fd) = true
takes_no_memory (call.Dup fd) = true
takes_no_memory (call.Umask mode) = true
takes_no_memory call.Wait = true
takes_no_memory call.Getpid = true
takes_no_memory call.Getppid = true
takes_no_memory call.CapGetProc = true
takes_no_memory call.MacGetProc = true
takes_no_memory _ = false
