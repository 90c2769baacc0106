use Rattle.std.proofs.Common.{◌≡◌}
use Rattle.lab_engine.proofs.WorldProgress.{WorldProgress}
use Rattle.lab_engine.proofs.reading.read_world.Given as goal

abbrev pub invariant-loop-after : goal.invariant-loop-after
invariant-loop-after g l = record {
  progress : WorldProgress l.fn.due l.initial.lines l.lines (g.S.Source.view l.initial.source).left (g.S.Source.view l.source).left l.expecting;
  still : (g.S.Source.view l.source).faults ≡ (g.S.Source.view l.initial.source).faults;
}

abbrev pub decreases-loop-after : goal.decreases-loop-after
decreases-loop-after g l = l.lines.room
