use Rattle.std.proofs.Common.{ap, rules, subst, sym, ◌∙◌}
use Rattle.lab_text.specs.Policy.{top_of}
use Rattle.lab_engine.specs.Report.{CountsAtMost}
use Rattle.labsys.proofs.SessionLemmas.{plays_lent}
use Rattle.labsys.proofs.session.Session.play.Goals as goal

pub play_by-requires-clause-top : goal.play_by-requires-clause-top
play_by-requires-clause-top g c = c.requires.top ∙ ap top_of (sym c.new-reporter.ensures.policy)

pub play_by-requires-clause-counted : goal.play_by-requires-clause-counted
play_by-requires-clause-counted g c = subst (CountsAtMost 0) (sym c.new-reporter.ensures.report) c.requires.counted

pub returns : goal.returns
returns g c =
    let w = c.new-reporter.ensures in
    let r = c.play_by.ensures in
    let o = sym w.same_out ∙ r.same.1 in
    let t = sym w.same_trail ∙ r.same.2 in
    let held = plays_lent _ _ w.policy _ _ w.report _ _ _ _ (ap g.K.Sink.view w.out) (ap g.T.Sink.view w.trail) _ _ _ _ _ _ _ _ _ _ r.plays in
    search rules
