-- Descriptors that are open.
use Rattle.std.specs.Prelude.{◌≡◌, ℕ, Some, IsSome, Result}
use Rattle.kern_model.specs.declared.numbers.Pid.{Pid}
use Rattle.kern_model.specs.Descriptors.{Opened, open_description}
use Rattle.kern_model.specs.FileRows.{lseek_row}
use Rattle.kern_model.specs.Row.{Row}
use Rattle.kern_model.specs.State.{State, process_at}
use Rattle.chk_rules.specs.CheckLog.{CheckLog}
use Rattle.chk_rules.specs.declared.stop.Stop.{Stop}
use Rattle.sys_lookup.specs.declared.effect.Effect.{Effect}
use Rattle.sys_lookup.specs.PlaysRow.{PlaysRow}
use Rattle.sys_file.specs.declared.descriptors.Seek.{Seek}

-- this is what a descriptor of a process refers to
abbrev pub RefersTo : State → Pid → ℕ → Opened → Type 0
RefersTo s who fd f = open_description s (process_at s who) fd ≡ Some f

-- a descriptor of a process refers to something
abbrev pub IsOpen : State → Pid → ℕ → Type 0
IsOpen s who fd = IsSome (open_description s (process_at s who) fd)

-- without a check a body plays the row of what a descriptor of a process refers to
abbrev pub PlaysOpened : State → Pid → ℕ → (Opened → Row) → Result Effect Stop → State → Type 0
PlaysOpened s who fd row result t = (f : Opened) (log : CheckLog) → RefersTo s who fd f → PlaysRow s log (row f) result t log

-- the row of `lseek` that a process calls
abbrev pub seek_row : State → Pid → ℕ → Seek → Row
seek_row s who fd seek = lseek_row s who (process_at s who) fd seek.from seek.offset
