use Rattle.std.proofs.Common.{refl, subst}
use Rattle.lab_text.specs.Policy.{top_of}
use Rattle.lab_engine.proofs.Sending.{passes_on}
use Rattle.sched_engine.specs.declared.reading.ReadSchedule.{ReadSchedule}
use Rattle.sched_engine.specs.Reading.{IfSchedule}
use Rattle.sched_engine.specs.Schedule.{MayBePlayed}
use Rattle.labsys.proofs.SchedulePlays.{reading_failed, schedule_run, without_schedule}
use Rattle.labsys.proofs.scheduling.sched.Goals as goal
use Rattle.labsys.proofs.InputLemmas.{failed_ending}

pub returns-in_err-found : goal.returns-in_err-found
returns-in_err-found g c = reading_failed c.args.opened.read c.args.opened.lines _ _ _ _ _ _ _ _ _ c.in_err-found.ensures.reads (c.in_err-found.ensures.counts _ _) c.from_residual.ensures.1

pub run_schedule-requires-clause-plays : goal.run_schedule-requires-clause-plays
run_schedule-requires-clause-plays g c = subst (λ (x : ReadSchedule). IfSchedule x (MayBePlayed (top_of c.args.opened.read.policy))) c.in-Schedule.is c.in_ok-found.ensures.plays

pub returns-in_err-run_schedule-in-Schedule : goal.returns-in_err-run_schedule-in-Schedule
returns-in_err-run_schedule-in-Schedule g c =
    schedule_run c.args.opened.read c.args.opened.lines _ _ _ _ _ _ _ _ c.in_ok-found.ensures.counts _ c.in_ok-found.ensures.reads _ c.in-Schedule.schedule c.in-Schedule.is
    (passes_on _ _ _ _ _ (c.in_err-run_schedule-in-Schedule.ensures.writes _) c.from_residual-in_err-run_schedule-in-Schedule.ensures.1)
    (failed_ending _ _ c.from_residual-in_err-run_schedule-in-Schedule.ensures.1 _) (c.in_err-run_schedule-in-Schedule.ensures.readable _)

pub returns-in_ok-run_schedule-in-Schedule : goal.returns-in_ok-run_schedule-in-Schedule
returns-in_ok-run_schedule-in-Schedule g c =
    schedule_run c.args.opened.read c.args.opened.lines _ _ _ _ _ _ _ _ c.in_ok-found.ensures.counts _ c.in_ok-found.ensures.reads _ c.in-Schedule.schedule c.in-Schedule.is
    (c.in_ok-run_schedule-in-Schedule.ensures.writes _) refl (c.in_ok-run_schedule-in-Schedule.ensures.readable _)

pub returns-in-Ended : goal.returns-in-Ended
returns-in-Ended g c =
    without_schedule c.args.opened.read c.args.opened.lines _ _ _ _ _ _ _ _ c.in_ok-found.ensures.counts _ c.in_ok-found.ensures.reads _ c.in-Ended.ending c.in-Ended.is
    (c.end_without_world.ensures.writes _ _) c.end_without_world.ensures.ending
