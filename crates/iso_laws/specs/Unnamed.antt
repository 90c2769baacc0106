-- A capability that no exercise of a step names, and what the step is without it.
use Rattle.std.specs.Prelude.{◌≡◌, ◌||◌, Bool, true, false, List, Option, None, Some, cond}
use Rattle.std.specs.List.{list_any}
use Rattle.std.specs.FinMap as map
use Rattle.cap_bits.specs.CapSet.{same_cap, without_cap}
use Rattle.cap_bits.specs.declared.cap.Cap.{Cap}
use Rattle.kern_model.specs.declared.calls.Call.{Call}
use Rattle.kern_model.specs.declared.calls.Call.TheVariants as call
use Rattle.kern_model.specs.declared.calls.Reply.{Reply}
use Rattle.kern_model.specs.declared.numbers.Pid.{Pid}
use Rattle.kern_model.specs.declared.records.Rec.{Rec}
use Rattle.kern_model.specs.declared.records.Rec.TheVariants as rec
use Rattle.kern_model.specs.Keys.{same_pid}
use Rattle.kern_model.specs.Maps.{select}
use Rattle.kern_model.specs.State.{State, Process, next_process}
use Rattle.kern_model.specs.Step.{step}

-- whether a record is an exercise of a capability
abbrev pub is_exercise_of : Cap → Rec → Bool
is_exercise_of c (rec.Exercise e) = same_cap e.cap c
is_exercise_of c _ = false

-- no record is an exercise of a capability
abbrev pub IsUnnamed : Cap → List Rec → Type 0
IsUnnamed c recs = list_any (is_exercise_of c) recs ≡ false

-- a process without a capability in its effective set
abbrev pub process_without : Cap → Process → Process
process_without c p = record p { caps = record p.caps { e = without_cap p.caps.e c } }

-- a state in which the processes that a test picks are without a capability in their effective sets
abbrev pub state_without : Cap → (Pid → Bool) → State → State
state_without c picks s = record s { procs = select (λ q p. Some (cond (picks q) (process_without c p) p)) s.procs }

-- whether a number is that of the caller
abbrev pub is_caller : Pid → Pid → Bool
is_caller who q = same_pid q who

-- whether a number is the next one at the label of a process, if there is one
abbrev pub is_next_child : State → Option Process → Pid → Bool
is_next_child s None q = false
is_next_child s (Some p) q = same_pid q (next_process s p.label)

-- whether a number is that of the caller, or for fork that of its child
abbrev pub is_caller_or_child : State → Pid → Call → Pid → Bool
is_caller_or_child s who call.Fork q = is_caller who q || is_next_child s (map.get s.procs who) q
is_caller_or_child s who _ q = is_caller who q

-- whether a call reports the caller's own capability sets
abbrev pub reports_own_sets : Call → Bool
reports_own_sets call.CapGetProc = true
reports_own_sets _ = false

-- a step with this reply, these records and this new state is the same without a capability in the caller's effective set: the reply is, but for that
-- of a call that reports this set, the records are, and so are the new states once the capability is taken, in both, from the caller and for fork from its child
pub record IsSameWithout (c : Cap) (s : State) (who : Pid) (called : Call) (reply : Reply) (recs : List Rec) (t : State) : Type 0 where
  pub reply_same : reports_own_sets called ≡ false → (step (state_without c (is_caller who) s) who called).reply ≡ reply
  pub recs_same : (step (state_without c (is_caller who) s) who called).recs ≡ recs
  pub state_same : state_without c (is_caller_or_child s who called) (step (state_without c (is_caller who) s) who called).state ≡ state_without c (is_caller_or_child s who called) t

-- a step with this reply, these records and this new state is the same without each capability that no exercise of it names
abbrev pub NeedsOnlyNamed : State → Pid → Call → Reply → List Rec → State → Type 0
NeedsOnlyNamed s who called reply recs t = (c : Cap) → IsUnnamed c recs → IsSameWithout c s who called reply recs t
