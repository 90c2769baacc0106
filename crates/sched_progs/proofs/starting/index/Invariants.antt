use Rattle.std.proofs.Common.{drop}
use Rattle.sched_progs.specs.Starting.{IsIndex}
use Rattle.sched_progs.proofs.starting.index.Given as goal

-- the programs so far are in the index
abbrev pub invariant-loop-place : goal.invariant-loop-place
invariant-loop-place l = IsIndex l.programs l.index (drop l.place l.programs)
