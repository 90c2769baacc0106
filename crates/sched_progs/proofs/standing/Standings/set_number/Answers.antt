use Rattle.std.proofs.Common.{ap, arith, ◌∙◌}
use Rattle.std.specs.FinMap as map
use Rattle.kern_model.specs.ByNumber.{pid_at}
use Rattle.kern_model.specs.Keys.{pid_cmp}
use Rattle.kern_model.proofs.KeyLaws.{pid_cmp_total, pid_cmp_exact}
use Rattle.kern_model.proofs.TableLemmas.{one_set}
use Rattle.sched_progs.proofs.StandingLemmas.{set_small}
use Rattle.sched_progs.proofs.standing.Standings.set_number.Goals as goal

pub invariant_of-self-2 : goal.invariant_of-self-2
unfolding pid_cmp
invariant_of-self-2 c =
    let who = pid_at (c.args.label, c.args.n) in
    set_small (map.from_entries {R = pid_cmp} c.self.inside.by_number.entries) (map.from_entries {R = pid_cmp} c.insert.new.self.entries) who c.args.standing c.self.invariant
    (omega (arith, c.ranges.n))
    (one_set pid_cmp_total pid_cmp_exact c.self.inside.by_number.entries c.insert.new.self.entries who c.args.standing c.in_ok-insert.ensures.updates.0)

pub returns : goal.returns
unfolding pid_cmp
returns c =
    let who = pid_at (c.args.label, c.args.n) in
    one_set pid_cmp_total pid_cmp_exact c.self.inside.by_number.entries c.insert.new.self.entries who c.args.standing c.in_ok-insert.ensures.updates.0
    ∙ ap (λ m. map.insert m who c.args.standing) c.self.view_is
