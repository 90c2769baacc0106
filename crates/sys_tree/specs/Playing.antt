-- Which calls are on directories and names, and what it means that one of them only reads.
use Rattle.std.specs.Prelude.{Bool, true, false, Result}
use Rattle.kern_model.specs.declared.calls.Call.{Call}
use Rattle.kern_model.specs.declared.calls.Call.TheVariants as call
use Rattle.kern_model.specs.declared.numbers.Pid.{Pid}
use Rattle.kern_model.specs.Row.{Row}
use Rattle.kern_model.specs.State.{State, Process}
use Rattle.chk_rules.specs.CheckLog.{CheckLog}
use Rattle.chk_rules.specs.declared.stop.Stop.{Stop}
use Rattle.sys_lookup.specs.Callers.{CallerView}
use Rattle.sys_lookup.specs.PlaysRow.{PlaysRow}
use Rattle.sys_lookup.specs.declared.effect.Effect.{Effect}

-- whether a call makes, removes or reads entries of directories, or reports of what a path leads to, or goes to a directory
abbrev pub is_tree_call : Call → Bool
is_tree_call (call.Mkdir path mode) = true
is_tree_call (call.Rmdir path) = true
is_tree_call (call.Link path to) = true
is_tree_call (call.Unlink path) = true
is_tree_call (call.Rename path to) = true
is_tree_call (call.Readdir path) = true
is_tree_call (call.Stat path) = true
is_tree_call (call.Chdir path) = true
is_tree_call _ = false

-- the body of a call that changes nothing plays the row of the call, whatever the number of its process
abbrev pub PlaysReading : CallerView → CheckLog → (State → Pid → Process → Row) → Result Effect Stop → CheckLog → Type 0
PlaysReading k before row result after = (who : Pid) → PlaysRow k.state before (row k.state who k.process) result k.state after
