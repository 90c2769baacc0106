use Rattle.std.proofs.Common.{◌≡◌, ◌≤◌, take}
use Rattle.lab_engine.specs.Report.{exercises}
use Rattle.lab_engine.proofs.reporting.exercises.Given as goal

abbrev pub invariant-loop-rec : goal.invariant-loop-rec
invariant-loop-rec l = record {
  counted : l.count ≡ exercises (take l.rec-index l.recs);
  few : l.count ≤ l.rec-index;
}
