-- One call of one process on one state: the new state, the reply and the records.
use Rattle.std.specs.Prelude.{◌≡◌, List, [], ◌∷◌, ◌++◌, Option, Some, None, cond}
use Rattle.std.specs.Option.{option_to_list}
use Rattle.std.specs.FinMap as map
use Rattle.kern_model.specs.declared.numbers.Pid.{Pid}
use Rattle.kern_model.specs.declared.calls.Call.{Call}
use Rattle.kern_model.specs.declared.calls.CallName.{CallName}
use Rattle.kern_model.specs.declared.calls.Errno.TheVariants as errno
use Rattle.kern_model.specs.declared.calls.Reply.{Reply}
use Rattle.kern_model.specs.declared.calls.Reply.TheVariants as reply
use Rattle.kern_model.specs.declared.records.Outcome as declared
use Rattle.kern_model.specs.declared.records.Rec.{Rec}
use Rattle.kern_model.specs.declared.records.Rec.TheVariants as rec
use Rattle.kern_model.specs.State.{State, Process, Change, apply_changes}
use Rattle.kern_model.specs.Names.{name_of}
use Rattle.kern_model.specs.Rules.{denial_of}
use Rattle.kern_model.specs.Row.{Subject, CheckOutcome, End, Stopped, Refused, Done, judge}
use Rattle.kern_model.specs.Table.{row}

pub record StepResult : Type 0 where
  pub state : State
  pub reply : Reply
  pub recs : List Rec

abbrev pub subject : Pid → Process → Subject
subject who p = record { who = who; label = p.label; effective = p.caps.e }

abbrev pub reply_of : End → Reply
reply_of (Stopped name place) = reply.Denied (denial_of name) name place
reply_of (Refused e) = reply.Refused e
reply_of (Done changes answer own) = reply.Done answer

-- a call that stopped changes nothing
abbrev pub changes_of : End → List Change
changes_of (Stopped name place) = []
changes_of (Refused e) = []
changes_of (Done changes answer own) = changes

abbrev pub state_after : State → End → State
state_after s e = apply_changes s (changes_of e)

-- what a call leaves after its exercises: a deny record where a check stopped it and the caller's switch is on, or its own record where it is done
abbrev pub own_of : Pid → Process → CallName → End → List Rec
own_of who p name (Stopped check place) = cond p.audited (rec.Deny who name (denial_of check) check place ∷ []) []
own_of who p name (Refused e) = []
own_of who p name (Done changes answer own) = option_to_list own

abbrev pub step_result : State → Pid → Process → CallName → CheckOutcome → StepResult
step_result s who p name j = record { state = state_after s j.end; reply = reply_of j.end; recs = j.used ++ own_of who p name j.end }

-- where no living process has the number, nothing is asked and nothing changes
abbrev pub step_by : State → Pid → Call → Option Process → StepResult
step_by s who call None = record { state = s; reply = reply.Refused errno.ESRCH; recs = [] }
step_by s who call (Some p) = step_result s who p (name_of call) (judge (subject who p) [] (row s who p call))

unfoldable pub step : State → Pid → Call → StepResult
step s who call = step_by s who call (map.get s.procs who)

-- what was answered and left is what the call table says, and so is the new state
abbrev pub IsPlayed : State → Pid → Call → declared.Outcome → State → Type 0
IsPlayed s who call reported t = step s who call ≡ record { state = t; reply = reported.reply; recs = reported.recs }
