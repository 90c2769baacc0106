use Rattle.std.proofs.Common.{◌≡◌, drop}
use Rattle.sched_progs.specs.Standings.{standings_after}
use Rattle.sched_progs.proofs.following.follow.Given as goal

-- the records that are left lead to where all lead
abbrev pub invariant-loop-rec : goal.invariant-loop-rec
invariant-loop-rec l = standings_after l.mine l.standings (drop l.rec-index l.recs) ≡ standings_after l.mine l.initial.standings l.recs
