use Rattle.std.proofs.Common.{ap, ◌∙◌}
use Rattle.std.specs.FinMap as map
use Rattle.kern_model.specs.Keys.{pid_cmp}
use Rattle.kern_model.proofs.KeyLaws.{pid_cmp_total, pid_cmp_exact}
use Rattle.sched_progs.proofs.StandingLemmas.{one_removed, removed_small}
use Rattle.sched_progs.proofs.standing.Standings.remove.Goals as goal

pub invariant_of-self : goal.invariant_of-self
unfolding pid_cmp
invariant_of-self c =
    removed_small (map.from_entries {R = pid_cmp} c.self.inside.by_number.entries) (map.from_entries {R = pid_cmp} c.remove.new.self.entries) c.args.who.now c.self.invariant
    (one_removed pid_cmp_total pid_cmp_exact c.self.inside.by_number.entries c.remove.new.self.entries c.args.who.now c.remove.ensures.updates.0)

pub returns : goal.returns
unfolding pid_cmp
returns c =
    one_removed pid_cmp_total pid_cmp_exact c.self.inside.by_number.entries c.remove.new.self.entries c.args.who.now c.remove.ensures.updates.0
    ∙ ap (λ m. map.remove m c.args.who.now) c.self.view_is
