-- Turns: which process of a label has the next turn, and what the turn does.
use Rattle.std.specs.Prelude.{ℕ, nat_lt, ◌&&◌, Bool, cond, Option, Some, None, find, List, unwrap_or}
use Rattle.std.specs.Option.{option_or}
use Rattle.std.specs.FinMap as map
use Rattle.std.specs.FinMap.{FinMap}
use Rattle.lab_lattice.specs.Label.{Label, label_cmp}
use Rattle.kern_model.specs.declared.calls.Call.{Call}
use Rattle.kern_model.specs.declared.calls.Reply.{Reply}
use Rattle.kern_model.specs.declared.numbers.Pid.{Pid}
use Rattle.kern_model.specs.declared.records.Rec.{Rec}
use Rattle.kern_model.specs.Keys.{pid_cmp, same_pid}
use Rattle.kern_model.specs.Maps.{get_or, select}
use Rattle.kern_model.specs.Rules.{same_label}
use Rattle.kern_model.specs.State.{State, Process}
use Rattle.kern_model.specs.Step.{StepResult, step}
use Rattle.sched_progs.specs.declared.last_reply.LastReply.TheVariants.{Fresh}
use Rattle.sched_progs.specs.Programs.{Progress, last_of, move}

-- one call of a program: who made it, the call, its reply and its records
pub record LoopItem : Type 0 where
  pub who : Pid
  pub call : Call
  pub reply : Reply
  pub recs : List Rec

pub record LoopState : Type 0 where
  pub kernel : State
  -- where each living process is in its program
  pub progress : FinMap pid_cmp Progress
  -- of each label, the number that had its last turn; a label without an entry has had none
  pub last_turns : FinMap label_cmp ℕ

-- the number that had the last turn of a label, 0 at first
abbrev pub last_turn : LoopState → Label → ℕ
last_turn x l = get_or x.last_turns l 0

-- whether a number is one of a label
abbrev pub is_of : Label → Pid → Bool
is_of l who = same_label who.label l

-- whether a number is one of a label, and above another one
abbrev pub is_above : Label → ℕ → Pid → Bool
is_above l n who = is_of l who && nat_lt n who.n

-- the living process with the least number that passes a test of numbers, and where it is: the first one, since entries are sorted by their numbers
abbrev pub least : (Pid → Bool) → FinMap pid_cmp Progress → Option (Pid × Progress)
least test progress = find (λ (e : Pid × Progress). test e.0) (map.entries progress)

-- who has the next turn of a label: the least living number of it above that of the last turn, and where there is none above, the least one
abbrev pub next_in_turn : LoopState → Label → Option (Pid × Progress)
next_in_turn x l = option_or (least (is_above l (last_turn x l)) x.progress) (least (is_of l) x.progress)

-- a child is where its parent is, and has no reply yet
abbrev pub child_of : Progress → Progress
child_of parent = record parent { last = Fresh }

-- where a living process is after a call: the caller is at `mine`, one that was there is where it was, and a new one is a child of the caller
abbrev pub progress_after : Pid → Progress → FinMap pid_cmp Progress → Pid → Progress
progress_after who mine before q = cond (same_pid q who) mine (unwrap_or (map.get before q) (child_of mine))

-- where each process of a state is that a call by `who` led to
abbrev pub progress_of_living : State → Pid → Progress → FinMap pid_cmp Progress → FinMap pid_cmp Progress
progress_of_living s who mine before = select (λ q (p : Process). Some (progress_after who mine before q)) s.procs

-- what a turn does: the state after it, and the call that was made, if one was
pub record TurnResult : Type 0 where
  pub state : LoopState
  pub item : Option LoopItem

-- a process, which is at `mine` then, made a call
abbrev pub call_result : LoopState → Pid → Progress → Call → StepResult → TurnResult
call_result x who mine c o = record {
  state = record x { kernel = o.state; progress = progress_of_living o.state who (record mine { last = last_of o.reply }) x.progress };
  item = Some (record { who = who; call = c; reply = o.reply; recs = o.recs });
}

-- a process goes on to a place, and makes a call if there is one
abbrev pub turn_by : LoopState → Pid → Progress → Option Call → TurnResult
turn_by x who mine None = record { state = record x { progress = map.insert x.progress who mine }; item = None }
turn_by x who mine (Some c) = call_result x who mine c (step x.kernel who c)

-- the state in which a number had the last turn of a label
abbrev pub with_turn : LoopState → Label → ℕ → LoopState
with_turn x l n = record x { last_turns = map.insert x.last_turns l n }

-- the turn of a process
abbrev pub turn_of_process : LoopState → Pid → Progress → TurnResult
turn_of_process x who p = turn_by x who (record p { place = (move p).place }) (move p).call

-- the turn of the process that is next; where the label has no living process, nothing changes
abbrev pub turn_of : LoopState → Label → Option (Pid × Progress) → TurnResult
turn_of x l None = record { state = x; item = None }
turn_of x l (Some e) = turn_of_process (with_turn x l e.0.n) e.0 e.1

-- a turn of a label
unfoldable pub turn : LoopState → Label → TurnResult
turn x l = turn_of x l (next_in_turn x l)
