-- A schedule in an input: what it is by its lines, and what is read of it.
use Rattle.std.specs.Prelude.{◌≡◌, ℕ, ◌+◌, ◌<◌, ◌&&◌, Bool, true, false, cond, List, [], ◌∷◌, ◌++◌, length, take, nat_lt, Option, Some, None, Result, Ok, Err, IfOk, codes}
use Rattle.std.specs.Io.KnownBytes.{IsAtEnd}
use Rattle.fs_path.specs.Split.{pieces}
use Rattle.fs_path.specs.declared.words.LineWord.{LineWord}
use Rattle.fs_path.specs.Words.{words_of}
use Rattle.io_ends.specs.LinesState.{LinesState}
use Rattle.lab_text.specs.Names.{same_bytes}
use Rattle.lab_text.specs.Policy.{PolicyNames, top_of}
use Rattle.line_text.specs.declared.fault.LineFault.{LineFault}
use Rattle.line_text.specs.declared.fault.LineFault.TheVariants as fault
use Rattle.script_text.specs.declared.fault.LineError.{LineError}
use Rattle.script_text.specs.declared.fault.LineError.TheVariants as error
use Rattle.script_text.specs.declared.step.StepLine.{StepLine}
use Rattle.script_text.specs.Reading.{Reading, fault_of}
use Rattle.script_text.specs.Step.{parse_step}
use Rattle.lab_engine.specs.declared.ending.Fault.{Fault}
use Rattle.lab_engine.specs.declared.ending.InputEnd.{InputEnd}
use Rattle.lab_engine.specs.declared.ending.InputEnd.TheVariants.{Whole, Refused}
use Rattle.lab_engine.specs.declared.ending.Part.TheVariants as part
use Rattle.lab_engine.specs.Input.{last_piece}
use Rattle.lab_engine.specs.Reading.{Takes, left_of}
use Rattle.sched_engine.specs.declared.reading.ReadSchedule.{ReadSchedule}
use Rattle.sched_engine.specs.declared.reading.ReadSchedule.TheVariants as read_is
use Rattle.sched_engine.specs.declared.reading.ScheduleLine.{ScheduleLine}
use Rattle.sched_engine.specs.declared.reading.ScheduleLine.TheVariants as schedule_line
use Rattle.sched_engine.specs.declared.schedule.Expecting.{Expecting}
use Rattle.sched_engine.specs.declared.schedule.Expecting.TheVariants as at
use Rattle.sched_engine.specs.declared.schedule.Schedule.{Schedule}
use Rattle.sched_engine.specs.declared.schedule.TheConstants.{MAX_SLICES}
use Rattle.sched_engine.specs.Schedule.{MayGoOn, MayBePlayed, after_step, whole}

-- ---- the schedule of an input

-- what holds of the schedule that was read, where there is one
abbrev pub IfSchedule : ReadSchedule → (Schedule → Type 0) → Type 0
IfSchedule (read_is.Schedule s) P = P s
IfSchedule (read_is.Ended ending) P = Unit {0}

-- whether words are `slices` and more labels than may have turns
abbrev pub are_many_slices : Option (List LineWord) → Bool
are_many_slices (Some (first ∷ labels)) = same_bytes first.bytes (codes "slices") && nat_lt MAX_SLICES (length labels)
are_many_slices _ = false

-- why a line is refused that was judged alone: too many labels are a fault of form, whichever they are
abbrev pub fault_in : List ℕ → LineError → LineFault
fault_in line error.BadLabel = cond (are_many_slices (words_of line)) fault.Syntax fault.BadLabel
fault_in line e = fault_of e

-- the fault of a refused line; out of memory is none
abbrev pub IsFaultIn : List ℕ → LineError → LineFault → Type 0
IsFaultIn line (error.NoMemory m) why = ⊥
IsFaultIn line e why = why ≡ fault_in line e

-- what is due after a line that was judged alone, or why it is refused
abbrev pub after_line : List ℕ → Expecting → Reading StepLine → Result Expecting LineFault
after_line line due (Ok said) = after_step due said
after_line line due (Err e) = Err (fault_in line e)

-- what follows a line, unless it is refused
abbrev pub go_on : Result Expecting LineFault → ℕ → (Expecting → ReadSchedule) → ReadSchedule
go_on (Ok after) n rest = rest after
go_on (Err why) n rest = read_is.Ended (Refused n part.Script why)

-- a schedule, or how the input ends without one
abbrev pub schedule_or : Option Schedule → InputEnd → ReadSchedule
schedule_or (Some s) ending = read_is.Schedule s
schedule_or None ending = read_is.Ended ending

-- how a schedule ends where the input does: it is whole, or a line is missing
abbrev pub at_end : Expecting → ℕ → InputEnd → ReadSchedule
at_end due n Whole = schedule_or (whole due) (Refused n part.Script fault.Syntax)
at_end due n ending = read_is.Ended ending

-- the schedule from line n on, where this is due; `over` where the input goes on past the limit
unfoldable pub schedule_from : Bool → PolicyNames → ℕ → Expecting → List (List ℕ) → ReadSchedule
schedule_from over policy n due [] = at_end due n Whole
schedule_from over policy n due (last ∷ []) = at_end due n (last_piece over n last)
schedule_from over policy n due (line ∷ next ∷ ls) = go_on (after_line line due (parse_step policy line)) n (λ after. schedule_from over policy (n + 1) after (next ∷ ls))

-- ---- what is left at a reader, where these bytes come after those that it holds

unfoldable pub schedule_left : PolicyNames → Expecting → LinesState → List ℕ → ReadSchedule
schedule_left policy due s more = schedule_from (nat_lt s.room (length (s.held ++ more))) policy (s.number + 1) due (pieces 10 (take s.room (s.held ++ more)))

-- the whole schedule
abbrev pub schedule_at : PolicyNames → LinesState → List ℕ → ReadSchedule
schedule_at policy s more = schedule_left policy at.Slices s more

-- after a line another one may follow
pub record GoesOn (policy : PolicyNames) (due : Expecting) (before now : LinesState) (taken : List ℕ) (after : Expecting) : Type 0 where
  pub says : (more : List ℕ) → schedule_left policy due before (taken ++ more) ≡ schedule_left policy after now more
  pub plays : MayGoOn (top_of policy) due → MayGoOn (top_of policy) after
  pub more : now.more ≡ true
  pub fewer : now.room < before.room

-- the schedule ends
pub record Ends (policy : PolicyNames) (due : Expecting) (before : LinesState) (left : Option (List ℕ)) (taken : List ℕ) (found : ReadSchedule) : Type 0 where
  pub says : found ≡ schedule_left policy due before (taken ++ left_of left)
  pub plays : MayGoOn (top_of policy) due → IfSchedule found (MayBePlayed (top_of policy))
  pub to_the_end : IfSchedule found (λ _. IsAtEnd left)

-- what a line of a schedule says
abbrev pub SaysLine : PolicyNames → Expecting → LinesState → LinesState → Option (List ℕ) → List ℕ → ScheduleLine → Type 0
SaysLine policy due before now left taken (schedule_line.GoesOn after) = GoesOn policy due before now taken after
SaysLine policy due before now left taken (schedule_line.Ended found) = Ends policy due before left taken found

-- a line was read where this is due
pub record ReadsLine (result : Result ScheduleLine Fault) (policy : PolicyNames) (due : Expecting) (before now : LinesState) (left left' : Option (List ℕ)) : Type 0 where
  pub taken : List ℕ
  pub takes : Takes before now left left' taken
  pub shows : IfOk result (SaysLine policy due before now left' taken)

-- a schedule was read
pub record ReadsSchedule (result : Result ReadSchedule Fault) (policy : PolicyNames) (before now : LinesState) (left left' : Option (List ℕ)) : Type 0 where
  pub taken : List ℕ
  pub takes : Takes before now left left' taken
  pub shows : IfOk result (λ found. found ≡ schedule_at policy before (taken ++ left_of left'))
  pub to_the_end : IfOk result (λ found. IfSchedule found (λ _. IsAtEnd left'))
