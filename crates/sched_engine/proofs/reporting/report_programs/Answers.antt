use Rattle.std.proofs.Common.{◌∙◌, ap, length, refl, rules, sym}
use Rattle.sched_engine.specs.Reporting.{is_all, items_in}
use Rattle.sched_engine.proofs.ItemLemmas.{all_counted, all_readable, all_written, hold_at_start, part_written}
use Rattle.sched_engine.proofs.reporting.report_programs.Goals as goal

pub invariant_of-watch : goal.invariant_of-watch
invariant_of-watch g c = let w = c.new-reporter.ensures in record { going = λ none. (ap is_all w.report, w.seen.0, ap length w.seen.1, refl) }

pub run_programs-requires-clause-going : goal.run_programs-requires-clause-going
run_programs-requires-clause-going g c = ap items_in c.new-3.ensures

pub returns-in-Ok-clause-writes : goal.returns-in-Ok-clause-writes
returns-in-Ok-clause-writes g c = λ source.
    let w = c.new-reporter.ensures in
    let r = c.run_programs.ensures in
    let o = sym w.same_out ∙ r.rest.0.1 in
    let t = sym w.same_trail ∙ r.rest.0.2 in
    let saw = c.in-Ok.ensures.saw.whole in
    let held = r.rest.1 _ _ (hold_at_start _ _ _ _ _ _ _ (ap items_in c.new-2.ensures) (ap items_in c.new-3.ensures) (ap g.K.Sink.view w.out) (ap g.T.Sink.view w.trail)) in
    let written = all_written _ _ (r.rest.0.0 ∙ w.policy) _ _ _ _ _ _ (ap items_in c.new-2.ensures) _ _ _ _ held saw (c.run_programs.new.watch.going saw.1).3 source in
    search rules

pub returns-in-Ok-clause-count : goal.returns-in-Ok-clause-count
returns-in-Ok-clause-count g c =
    let w = c.new-reporter.ensures in
    let r = c.run_programs.ensures in
    let held = r.rest.1 _ _ (hold_at_start _ _ _ _ _ _ _ (ap items_in c.new-2.ensures) (ap items_in c.new-3.ensures) (ap g.K.Sink.view w.out) (ap g.T.Sink.view w.trail)) in
    all_counted _ _ (r.rest.0.0 ∙ w.policy) _ _ _ _ _ _ (ap items_in c.new-2.ensures) _ _ _ _ held c.in-Ok.ensures.saw.whole

pub returns-in-Ok-clause-readable : goal.returns-in-Ok-clause-readable
returns-in-Ok-clause-readable g c =
    let w = c.new-reporter.ensures in
    let r = c.run_programs.ensures in
    let held = r.rest.1 _ _ (hold_at_start _ _ _ _ _ _ _ (ap items_in c.new-2.ensures) (ap items_in c.new-3.ensures) (ap g.K.Sink.view w.out) (ap g.T.Sink.view w.trail)) in
    all_readable _ _ (r.rest.0.0 ∙ w.policy) _ _ _ _ _ _ (ap items_in c.new-2.ensures) _ _ _ _ held c.in-Ok.ensures.saw.whole

pub returns-clause-writes : goal.returns-clause-writes
returns-clause-writes g c = λ source.
    let w = c.new-reporter.ensures in
    let r = c.run_programs.ensures in
    let o = sym w.same_out ∙ r.rest.0.1 in
    let t = sym w.same_trail ∙ r.rest.0.2 in
    let held = r.rest.1 _ _ (hold_at_start _ _ _ _ _ _ _ (ap items_in c.new-2.ensures) (ap items_in c.new-3.ensures) (ap g.K.Sink.view w.out) (ap g.T.Sink.view w.trail)) in
    let written = part_written _ _ (r.rest.0.0 ∙ w.policy) _ _ _ _ _ _ (ap items_in c.new-2.ensures) _ _ _ _ held r.saw.part source in
    search rules
