-- The state of a kernel.
use Rattle.std.specs.Prelude.{◌≡◌, ◌⊎◌, Bool, true, None}
use Rattle.std.specs.FinMap as map
use Rattle.kern_model.specs.declared.calls.Call.{Call}
use Rattle.kern_model.specs.declared.calls.Reply.{Reply}
use Rattle.kern_model.specs.declared.calls.Reply.TheVariants as reply
use Rattle.kern_model.specs.declared.numbers.Pid.{Pid}
use Rattle.kern_model.specs.State.{State}
use Rattle.sys_lookup.specs.Memory.{takes_no_memory}
use Rattle.kern_core.specs.declared.kernel.Kernel.{Kernel}

-- the state of a kernel
unfoldable pub state_of : Kernel → State
state_of k = k.shared

-- whether memory ran out in a call
unfoldable pub has_failed : Kernel → Bool
has_failed k = k.failed

-- a call that was denied or refused
abbrev pub IsStopped : Reply → Type 0
IsStopped (reply.Done answer) = ⊥
IsStopped (reply.Denied errno check place) = Unit {0}
IsStopped (reply.Refused errno) = Unit {0}

-- no memory is taken where no living process has the number, and by a call that takes none
abbrev pub TakesNoMemory : State → Pid → Call → Type 0
TakesNoMemory s who c = (map.get s.procs who ≡ None) ⊎ (takes_no_memory c ≡ true)
