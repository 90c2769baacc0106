use Rattle.std.proofs.Common.{ap}
use Rattle.std.specs.FinMap as map
use Rattle.kern_model.specs.Keys.{pid_cmp}
use Rattle.sched_progs.proofs.StandingLemmas.{none_small}
use Rattle.sched_progs.proofs.standing.Standings.new.Goals as goal

pub invariant_of-result : goal.invariant_of-result
invariant_of-result c = none_small (map.from_entries {R = pid_cmp} c.new.result.entries) (ap (λ es. map.from_entries {R = pid_cmp} es) c.new.ensures.empty)
