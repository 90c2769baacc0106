-- What the lines of a schedule give may be played.
use Rattle.std.proofs.Common.{◌≡◌, ℕ, ◌*◌, true, List, [], length, refl, subst, Option, Some, None}
use Rattle.std.specs.Prelude.{nat_le, option_map, IfSome}
use Rattle.std.proofs.lemmas.Bool.{and_parts, leb-true}
use Rattle.lab_lattice.specs.Label.{Label}
use Rattle.kern_model.specs.Arguments.{has_names, is_call}
use Rattle.script_text.specs.declared.step.ProgStep.{ProgStep}
use Rattle.script_text.specs.declared.step.ProgStep.TheVariants as step
use Rattle.script_text.specs.declared.step.StepLine.{StepLine}
use Rattle.script_text.specs.declared.step.StepLine.TheVariants as line
use Rattle.script_text.specs.Step.{MayBeMade, StepMayBePlayed}
use Rattle.sched_progs.specs.Programs.{Programs, call_passes}
use Rattle.sched_engine.specs.declared.schedule.Expecting.{Expecting}
use Rattle.sched_engine.specs.declared.schedule.Expecting.TheVariants as at
use Rattle.sched_engine.specs.declared.schedule.Schedule.{Schedule}
use Rattle.sched_engine.specs.declared.schedule.TheConstants.{MAX_TURNS}
use Rattle.sched_engine.specs.Programs.{with_program, with_step}
use Rattle.sched_engine.specs.Schedule.{MayBePlayed, MayGoOn, are_few, are_turns, step_line, whole}
use Rattle.sched_engine.proofs.ProgramLemmas.{MayRun, program_may_run, step_may_run, where_true}

-- a step that may be made may be played
made_plays : (top : Label) (made : ProgStep) → MayBeMade top made → call_passes (is_call top) made ≡ true
made_plays top (step.Do call) may = may.0
made_plays top (step.Jump when to) may = refl
made_plays top step.Stop may = refl

made_names : (top : Label) (made : ProgStep) → MayBeMade top made → call_passes has_names made ≡ true
made_names top (step.Do call) may = may.1
made_names top (step.Jump when to) may = refl
made_names top step.Stop may = refl

-- what is due with other programs may be played as they may
module _ (top : Label) (slices : List Label) (rounds : ℕ) (programs : Programs) (may : MayGoOn top (at.Programs slices rounds programs)) where
  abbrev runs : MayRun top programs
  runs = record { plays = may.programs; names = may.names; distinct = may.distinct }

  with_programs : (w : Option Programs) → IfSome w (MayRun top) → IfSome (option_map (at.Programs slices rounds) w) (MayGoOn top)
  with_programs None run = tt
  with_programs (Some more) run = record { slices = may.slices; rounds = may.rounds; turns = may.turns; programs = run.plays; names = run.names; distinct = run.distinct }

-- what is due after a line may be played
after_plays : (top : Label) (due : Expecting) (said : StepLine) → StepMayBePlayed top said → MayGoOn top due → IfSome (step_line due said) (MayGoOn top)
after_plays top due line.Blank plays may = may
after_plays top at.Slices (line.Slices slices) plays may = where_true (are_few slices) (at.Rounds slices) (MayGoOn top) (λ t. plays)
after_plays top (at.Rounds slices) (line.Slices others) plays may = tt
after_plays top (at.Programs slices rounds programs) (line.Slices others) plays may = tt
after_plays top at.Slices (line.Rounds n) plays may = tt
after_plays top (at.Rounds slices) (line.Rounds n) plays may = where_true (are_turns slices n) (at.Programs slices n []) (MayGoOn top) (λ t.
    let both = and_parts (nat_le 1 n) (nat_le (n * length slices) MAX_TURNS) t in
    record { slices = may; rounds = leb-true 1 n both.0; turns = leb-true (n * length slices) MAX_TURNS both.1; programs = refl; names = refl; distinct = refl })
after_plays top (at.Programs slices rounds programs) (line.Rounds n) plays may = tt
after_plays top at.Slices (line.Program who) plays may = tt
after_plays top (at.Rounds slices) (line.Program who) plays may = tt
after_plays top (at.Programs slices rounds programs) (line.Program who) plays may =
    with_programs top slices rounds programs may (with_program programs who) (program_may_run top programs who (runs top slices rounds programs may))
after_plays top at.Slices (line.One made) plays may = tt
after_plays top (at.Rounds slices) (line.One made) plays may = tt
after_plays top (at.Programs slices rounds programs) (line.One made) plays may =
    with_programs top slices rounds programs may (with_step programs made) (step_may_run top made (made_plays top made plays) (made_names top made plays) programs (runs top slices rounds programs may))

pub step_plays : (top : Label) (due : Expecting) (said : StepLine) → MayGoOn top due → StepMayBePlayed top said → (after : Expecting) → step_line due said ≡ Some after → MayGoOn top after
step_plays top due said may plays after is = subst (λ (w : Option Expecting). IfSome w (MayGoOn top)) is (after_plays top due said plays may)

-- and so may the schedule
ended_plays : (top : Label) (due : Expecting) → MayGoOn top due → IfSome (whole due) (MayBePlayed top)
ended_plays top at.Slices may = tt
ended_plays top (at.Rounds slices) may = tt
ended_plays top (at.Programs slices rounds programs) may = may

pub whole_plays : (top : Label) (due : Expecting) → MayGoOn top due → (schedule : Schedule) → whole due ≡ Some schedule → MayBePlayed top schedule
whole_plays top due may schedule is = subst (λ (w : Option Schedule). IfSome w (MayBePlayed top)) is (ended_plays top due may)
