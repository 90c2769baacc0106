use Rattle.std.proofs.Common.{◌≡◌, ◌-◌}
use Rattle.sched_progs.specs.Programs.{max_jumps, move_from}
use Rattle.sched_progs.proofs.moving.move_from.Given as goal

-- the turn goes on from here to where it leads
abbrev pub invariant-loop : goal.invariant-loop
invariant-loop l = move_from l.steps l.last (max_jumps - l.counter) l.at ≡ move_from l.steps l.last max_jumps l.place
