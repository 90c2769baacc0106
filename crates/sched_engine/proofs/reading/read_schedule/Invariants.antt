use Rattle.std.proofs.Common.{◌≡◌}
use Rattle.sched_engine.proofs.Progress.{ScheduleProgress}
use Rattle.sched_engine.proofs.reading.read_schedule.Given as goal

abbrev pub invariant-loop-after : goal.invariant-loop-after
invariant-loop-after g l = record {
  progress : ScheduleProgress l.texts.policy.now l.initial.lines l.lines (g.S.Source.view l.initial.source).left (g.S.Source.view l.source).left l.due;
  still : (g.S.Source.view l.source).faults ≡ (g.S.Source.view l.initial.source).faults;
}

abbrev pub decreases-loop-after : goal.decreases-loop-after
decreases-loop-after g l = l.lines.room
