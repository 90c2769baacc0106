use Rattle.std.proofs.Common.{drop}
use Rattle.sched_progs.proofs.StartingLemmas.{AreStartedBut}
use Rattle.sched_progs.proofs.starting.start.Given as goal

-- the processes so far are there
abbrev pub invariant-loop-who : goal.invariant-loop-who
invariant-loop-who l = AreStartedBut l.programs l.living (drop l.who-index l.living) l.standings
