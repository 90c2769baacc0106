-- Programs: how a process goes through the steps of its own, by its last reply, and which call it makes.
use Rattle.std.specs.Prelude.{ℕ, zero, suc, ◌+◌, ◌==◌, Bool, true, false, cond, List, Option, Some, None, slice_get, [], ◌∷◌}
use Rattle.std.specs.List.{list_all}
use Rattle.lab_lattice.specs.Label.{Label}
use Rattle.kern_model.specs.declared.calls.Answer.TheVariants as answer
use Rattle.kern_model.specs.declared.calls.Call.{Call}
use Rattle.kern_model.specs.declared.calls.Reply.{Reply}
use Rattle.kern_model.specs.declared.calls.Reply.TheVariants as reply
use Rattle.kern_model.specs.declared.numbers.Pid.{Pid}
use Rattle.kern_model.specs.Arguments.{has_names, is_call}
use Rattle.kern_model.specs.Keys.{same_pid}
use Rattle.script_text.specs.declared.step.ProgStep.{ProgStep}
use Rattle.script_text.specs.declared.step.ProgStep.TheVariants as step
use Rattle.script_text.specs.declared.step.When.{When}
use Rattle.script_text.specs.declared.step.When.TheVariants as when
use Rattle.sched_progs.specs.declared.last_reply.LastReply.{LastReply}
use Rattle.sched_progs.specs.declared.last_reply.LastReply.TheVariants as was
use Rattle.sched_progs.specs.declared.program.Program.{Program}

-- the programs of processes, each with its process
abbrev pub Programs : Type 0
Programs = List (Pid × Program)

-- the steps of the first program of these that is for the process; without one it has no steps
abbrev pub steps_of : Programs → Pid → List ProgStep
steps_of [] who = []
steps_of (p ∷ ps) who = cond (same_pid p.0 who) p.1.steps (steps_of ps who)

-- what a jump may ask of a reply
abbrev pub last_of : Reply → LastReply
last_of (reply.Done (answer.Number n)) = was.Number n
last_of (reply.Done _) = was.Done
last_of (reply.Denied errno check place) = was.Denied
last_of (reply.Refused errno) = was.Refused

-- whether a jump is taken, by the last reply
abbrev pub is_taken : When → LastReply → Bool
is_taken when.Always _ = true
is_taken when.Fresh was.Fresh = true
is_taken when.Done was.Done = true
is_taken when.Done (was.Number n) = true
is_taken when.Denied was.Denied = true
is_taken when.Refused was.Refused = true
is_taken (when.Number n) (was.Number m) = m == n
is_taken _ _ = false

-- where a process is in its program: the steps, the number of the next step, and the last reply, as far as a jump may ask
pub record Progress : Type 0 where
  pub steps : List ProgStep
  pub place : ℕ
  pub last : LastReply

-- where a process starts
abbrev pub first_step : List ProgStep → Progress
first_step steps = record { steps = steps; place = 0; last = was.Fresh }

-- what a turn comes to: the number of the step that is next then, and the call that is made, if one is
pub record Move : Type 0 where
  pub place : ℕ
  pub call : Option Call

-- the turn ends at a place, without a call
abbrev pub stays_at : ℕ → Move
stays_at place = record { place = place; call = None }

-- what a turn comes to by the step at a place, where after a jump it goes on as `jump` says
abbrev pub move_by : Option ProgStep → ℕ → LastReply → (ℕ → Move) → Move
move_by None place last jump = stays_at place
move_by (Some step.Stop) place last jump = stays_at place
move_by (Some (step.Do call)) place last jump = record { place = place + 1; call = Some call }
move_by (Some (step.Jump w to)) place last jump = jump (cond (is_taken w last) to (place + 1))

-- what a turn comes to from a place on, where it is over after so many jump steps
unfoldable pub move_from : List ProgStep → LastReply → ℕ → ℕ → Move
move_from steps last zero place = stays_at place
move_from steps last (suc jumps) place = move_by (slice_get steps place) place last (move_from steps last jumps)

-- after so many jump steps a turn is over
abbrev pub max_jumps : ℕ
max_jumps = 64

-- what a turn of a process comes to
abbrev pub move : Progress → Move
move p = move_from p.steps p.last max_jumps p.place

-- ---- programs that may be played

-- a step whose call, if it makes one, passes a test
abbrev pub call_passes : (Call → Bool) → ProgStep → Bool
call_passes test (step.Do call) = test call
call_passes test _ = true

-- programs of such steps
abbrev pub calls_pass : (Call → Bool) → Programs → Bool
calls_pass test programs = list_all (λ (p : Pid × Program). list_all (call_passes test) p.1.steps) programs

-- the arguments of each call are in their ranges, where top is the highest label
abbrev pub are_programs : Label → Programs → Bool
are_programs top programs = calls_pass (is_call top) programs

-- and what each call may name an entry by is a name
abbrev pub have_names : Programs → Bool
have_names programs = calls_pass has_names programs
