use Rattle.std.proofs.Common.{ap, arith, sym, ◌∙◌}
use Rattle.kern_model.specs.Keys.{pid_cmp}
use Rattle.sched_progs.specs.Standings.{first_standing}
use Rattle.sched_progs.specs.Turns.{is_of}
use Rattle.sched_progs.proofs.StandingLemmas.{first_least, first_of, goes_forward}
use Rattle.sched_progs.proofs.standing.Standings.least.Goals as goal

pub range-range-requires : goal.range-range-requires
unfolding pid_cmp
range-range-requires c = goes_forward c.args.label.now 0 (omega arith)

pub returns-in-Some : goal.returns-in-Some
unfolding pid_cmp
returns-in-Some c = sym
    (ap (first_standing (is_of c.args.label.now)) (sym c.self.view_is)
    ∙ first_least c.self.inside.by_number.entries c.self.invariant c.range-range.ensures.ordered c.args.label.now
    ∙ ap first_of (sym (c.range-range.ensures.between tt) ∙ c.in-Some.ensures.steps))

pub returns-in-None : goal.returns-in-None
unfolding pid_cmp
returns-in-None c = sym
    (ap (first_standing (is_of c.args.label.now)) (sym c.self.view_is)
    ∙ first_least c.self.inside.by_number.entries c.self.invariant c.range-range.ensures.ordered c.args.label.now
    ∙ ap first_of (sym (c.range-range.ensures.between tt) ∙ c.in-None.ensures.steps.0))
