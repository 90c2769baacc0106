use Rattle.std.proofs.Common.{ap, arith, sym, ◌∙◌}
use Rattle.kern_model.specs.Keys.{pid_cmp}
use Rattle.sched_progs.specs.Standings.{first_standing}
use Rattle.sched_progs.specs.Turns.{is_above}
use Rattle.sched_progs.proofs.StandingLemmas.{first_above, first_of, goes_forward}
use Rattle.sched_progs.proofs.standing.Standings.above.Goals as goal

pub range-range-requires : goal.range-range-requires
unfolding pid_cmp
range-range-requires c = goes_forward c.args.label.now c.args.n (omega (arith, c.ranges.n))

pub returns-in-Some : goal.returns-in-Some
unfolding pid_cmp
returns-in-Some c = sym
    (ap (first_standing (is_above c.args.label.now c.args.n)) (sym c.self.view_is)
    ∙ first_above c.self.inside.by_number.entries c.self.invariant c.range-range.ensures.ordered c.args.label.now c.args.n
    ∙ ap first_of (sym (c.range-range.ensures.between tt) ∙ c.in-Some.ensures.steps))

pub returns-in-None : goal.returns-in-None
unfolding pid_cmp
returns-in-None c = sym
    (ap (first_standing (is_above c.args.label.now c.args.n)) (sym c.self.view_is)
    ∙ first_above c.self.inside.by_number.entries c.self.invariant c.range-range.ensures.ordered c.args.label.now c.args.n
    ∙ ap first_of (sym (c.range-range.ensures.between tt) ∙ c.in-None.ensures.steps.0))
