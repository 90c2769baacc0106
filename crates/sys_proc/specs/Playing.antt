-- Which calls are on processes, and how they are played.
use Rattle.std.specs.Prelude.{Bool, true, false, Result}
use Rattle.kern_model.specs.declared.calls.Call.{Call}
use Rattle.kern_model.specs.declared.calls.Call.TheVariants as call
use Rattle.kern_model.specs.Row.{Row}
use Rattle.kern_model.specs.State.{State}
use Rattle.chk_rules.specs.CheckLog.{CheckLog}
use Rattle.chk_rules.specs.declared.stop.Stop.{Stop}
use Rattle.sys_lookup.specs.declared.effect.Effect.{Effect}
use Rattle.sys_lookup.specs.PlaysRow.{PlaysRow}

-- whether a call asks what its caller is
abbrev pub is_own_call : Call → Bool
is_own_call call.Getpid = true
is_own_call call.Getppid = true
is_own_call call.Getids = true
is_own_call call.CapGetProc = true
is_own_call call.MacGetProc = true
is_own_call _ = false

-- whether a call is on processes: it makes, awaits or ends one, or it is of what its caller is
abbrev pub is_process_call : Call → Bool
is_process_call call.Fork = true
is_process_call (call.Exec path) = true
is_process_call (call.Exit code) = true
is_process_call call.Wait = true
is_process_call (call.Kill target signal) = true
is_process_call (call.Setuid user) = true
is_process_call (call.Setgid group) = true
is_process_call (call.CapSetProc caps) = true
is_process_call (call.MacSetProc label) = true
is_process_call c = is_own_call c

-- the body of a call plays a row without a check
abbrev pub PlaysUnchecked : State → Row → Result Effect Stop → State → Type 0
PlaysUnchecked s row result t = (log : CheckLog) → PlaysRow s log row result t log
