-- What programs are played, in which turns, and what each line adds.
use Rattle.std.specs.Prelude.{◌≡◌, ℕ, ◌*◌, ◌≤◌, ◌&&◌, Bool, true, cond, nat_le, List, [], length, Option, Some, None, ok_or, option_map, Result}
use Rattle.std.specs.List.{list_all}
use Rattle.kern_model.specs.declared.numbers.Pid.{Pid}
use Rattle.lab_lattice.specs.Label.{Label, dominates}
use Rattle.line_text.specs.declared.fault.LineFault.{LineFault}
use Rattle.line_text.specs.declared.fault.LineFault.TheVariants as fault
use Rattle.script_text.specs.declared.step.ProgStep.{ProgStep}
use Rattle.script_text.specs.declared.step.StepLine.{StepLine}
use Rattle.script_text.specs.declared.step.StepLine.TheVariants as line
use Rattle.sched_progs.specs.Programs.{are_programs, have_names}
use Rattle.sched_engine.specs.declared.schedule.Expecting.{Expecting}
use Rattle.sched_engine.specs.declared.schedule.Expecting.TheVariants as at
use Rattle.sched_engine.specs.declared.schedule.Schedule.{Schedule}
use Rattle.sched_engine.specs.declared.schedule.TheConstants.{MAX_SLICES, MAX_TURNS}
use Rattle.sched_engine.specs.Programs.{are_distinct, with_program, with_step}

-- ---- what each line adds

-- labels are as many as may have turns
abbrev pub are_few : List Label → Bool
are_few slices = nat_le 1 (length slices) && nat_le (length slices) MAX_SLICES

-- there are rounds of these labels, and no more turns than may be
abbrev pub are_turns : List Label → ℕ → Bool
are_turns slices rounds = nat_le 1 rounds && nat_le (rounds * length slices) MAX_TURNS

-- after the line `slices`, which is the first
abbrev pub after_slices : Expecting → List Label → Option Expecting
after_slices at.Slices slices = cond (are_few slices) (Some (at.Rounds slices)) None
after_slices _ slices = None

-- after the line `rounds`, which is the second
abbrev pub after_rounds : Expecting → ℕ → Option Expecting
after_rounds (at.Rounds slices) rounds = cond (are_turns slices rounds) (Some (at.Programs slices rounds [])) None
after_rounds _ rounds = None

-- after a line `program`
abbrev pub after_program : Expecting → Pid → Option Expecting
after_program (at.Programs slices rounds programs) who = option_map (at.Programs slices rounds) (with_program programs who)
after_program _ who = None

-- after a step of a program
abbrev pub after_prog_step : Expecting → ProgStep → Option Expecting
after_prog_step (at.Programs slices rounds programs) made = option_map (at.Programs slices rounds) (with_step programs made)
after_prog_step _ made = None

-- after any line, where it may stand
abbrev pub step_line : Expecting → StepLine → Option Expecting
step_line due line.Blank = Some due
step_line due (line.Slices slices) = after_slices due slices
step_line due (line.Rounds rounds) = after_rounds due rounds
step_line due (line.Program who) = after_program due who
step_line due (line.One made) = after_prog_step due made

-- what is due after a line, or why the line is refused
abbrev pub after_step : Expecting → StepLine → Result Expecting LineFault
after_step due said = ok_or (step_line due said) fault.Syntax

-- the schedule, where it may end
abbrev pub whole : Expecting → Option Schedule
whole (at.Programs slices rounds programs) = Some (record { slices = slices; rounds = rounds; programs = programs })
whole _ = None

-- ---- what may be played

-- a schedule may be played, where top is the highest label
pub record MayBePlayed (top : Label) (schedule : Schedule) : Type 0 where
  pub slices : list_all (dominates top) schedule.slices ≡ true
  pub rounds : 1 ≤ schedule.rounds
  pub turns : schedule.rounds * length schedule.slices ≤ MAX_TURNS
  pub programs : are_programs top schedule.programs ≡ true
  pub names : have_names schedule.programs ≡ true
  pub distinct : are_distinct schedule.programs ≡ true

-- what the lines so far gave may be played
abbrev pub MayGoOn : Label → Expecting → Type 0
MayGoOn top at.Slices = Unit {0}
MayGoOn top (at.Rounds slices) = list_all (dominates top) slices ≡ true
MayGoOn top (at.Programs slices rounds programs) = MayBePlayed top (record { slices = slices; rounds = rounds; programs = programs })
