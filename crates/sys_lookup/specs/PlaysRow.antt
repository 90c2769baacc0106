-- What it means that a body plays a row.
use Rattle.std.specs.Prelude.{◌≡◌, true, List, None, Result, Ok, Err}
use Rattle.std.specs.Result.{IfOk, IfErr}
use Rattle.kern_model.specs.declared.calls.Call.{Call}
use Rattle.kern_model.specs.declared.numbers.Pid.{Pid}
use Rattle.kern_model.specs.State.{State, Process, Change, apply_changes, process_at}
use Rattle.kern_model.specs.Row.{Row, Done, check_outcome}
use Rattle.chk_rules.specs.CheckLog.{CheckLog, judge_from}
use Rattle.chk_rules.specs.RowSteps.{EndsBy}
use Rattle.chk_rules.specs.declared.stop.Stop.{Stop}
use Rattle.chk_rules.specs.declared.stop.Stop.TheVariants as stop
use Rattle.sys_lookup.specs.declared.effect.Effect.{Effect}
use Rattle.sys_lookup.specs.Memory.{takes_no_memory}

-- the row ends with this effect, and the new state is what its changes make of the old one
pub record RowCompletes (s : State) (before : CheckLog) (r : Row) (effect : Effect) (t : State) (after : CheckLog) : Type 0 where
  pub changes : List Change
  pub ends : judge_from before r ≡ check_outcome after.used (Done changes effect.answer effect.own)
  pub state : t ≡ apply_changes s changes

-- a call that stopped leaves the state as it was; nothing is claimed where memory ran out
unfoldable pub Keeps : Stop → State → State → Type 0
Keeps (stop.Denied name place) s t = t ≡ s
Keeps (stop.Refused e) s t = t ≡ s
Keeps (stop.NoMemory m) s t = Unit {0}

-- The body of a call plays a row: with an effect the row completes, and with a stop the row ends there and the state is as it was.
pub record PlaysRow (s : State) (before : CheckLog) (r : Row) (result : Result Effect Stop) (t : State) (after : CheckLog) : Type 0 where
  pub completes : IfOk result (λ effect. RowCompletes s before r effect t after)
  pub ends : IfErr result (λ how. EndsBy (judge_from before r) after how)
  pub keeps : IfErr result (λ how. Keeps how s t)

-- the body of a call of a process plays the row of the call
abbrev pub PlaysCall : State → Pid → CheckLog → (State → Pid → Process → Row) → Result Effect Stop → State → CheckLog → Type 0
PlaysCall s who before row result t after = PlaysRow s before (row s who (process_at s who)) result t after

-- a body leaves no record, neither of its own nor of a denial, and memory did not run out
abbrev pub LeavesNothing : Result Effect Stop → Type 0
LeavesNothing (Ok effect) = effect.own ≡ None
LeavesNothing (Err (stop.Denied name place)) = ⊥
LeavesNothing (Err (stop.Refused e)) = Unit {0}
LeavesNothing (Err (stop.NoMemory m)) = ⊥

-- the body of a call that takes no memory leaves nothing
abbrev pub LeavesNothingOf : Call → Result Effect Stop → Type 0
LeavesNothingOf c result = takes_no_memory c ≡ true → LeavesNothing result
