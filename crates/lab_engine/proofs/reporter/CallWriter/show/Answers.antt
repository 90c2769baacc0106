use Rattle.std.proofs.Common.{Bool, true, false}
use Rattle.std.specs.Prelude.{Ok}
use Rattle.lab_engine.proofs.CallLemmas.{shown_writes}
use Rattle.lab_engine.proofs.Sending.{all_nothing, passes_on}
use Rattle.lab_engine.specs.declared.reporting.Shown.TheVariants as shown
use Rattle.lab_engine.proofs.reporter.CallWriter.show.Goals as goal

pub returns-in_err-note_all-in-Call-clause-writes : goal.returns-in_err-note_all-in-Call-clause-writes
returns-in_err-note_all-in-Call-clause-writes g c = λ source. shown_writes c.from_residual.result c.args.self.now.texts.policy.now c.args.number c.args.recs.now shown.Call c.args.shown _ _ c.in-Call.is
    (passes_on _ _ _ _ _ (c.in_err-note_all-in-Call.ensures.writes source _) c.from_residual.ensures.1)

pub returns-in_ok-note_all-in-Call-clause-writes : goal.returns-in_ok-note_all-in-Call-clause-writes
returns-in_ok-note_all-in-Call-clause-writes g c = λ source. shown_writes {T = Bool} (Ok true) c.args.self.now.texts.policy.now c.args.number c.args.recs.now shown.Call c.args.shown _ _ c.in-Call.is (c.in_ok-note_all-in-Call.ensures.writes source _)

pub returns-in-Reply-clause-writes : goal.returns-in-Reply-clause-writes
returns-in-Reply-clause-writes g c = λ source. shown_writes {T = Bool} (Ok true) c.args.self.now.texts.policy.now c.args.number c.args.recs.now shown.Reply c.args.shown _ _ c.in-Reply.is (all_nothing _)

pub returns-in_err-answer-in-Crossing-clause-writes : goal.returns-in_err-answer-in-Crossing-clause-writes
returns-in_err-answer-in-Crossing-clause-writes g c = λ source. shown_writes c.from_residual-in_err-answer-in-Crossing.result c.args.self.now.texts.policy.now c.args.number c.args.recs.now shown.Crossing c.args.shown _ _ c.in-Crossing.is
    (passes_on _ _ _ _ _ (c.in_err-answer-in-Crossing.ensures source _) c.from_residual-in_err-answer-in-Crossing.ensures.1)

pub returns-in_ok-answer-in-Crossing-clause-writes : goal.returns-in_ok-answer-in-Crossing-clause-writes
returns-in_ok-answer-in-Crossing-clause-writes g c = λ source. shown_writes {T = Bool} (Ok false) c.args.self.now.texts.policy.now c.args.number c.args.recs.now shown.Crossing c.args.shown _ _ c.in-Crossing.is (c.in_ok-answer-in-Crossing.ensures source _)

pub returns-in-Nothing-clause-writes : goal.returns-in-Nothing-clause-writes
returns-in-Nothing-clause-writes g c = λ source. shown_writes {T = Bool} (Ok false) c.args.self.now.texts.policy.now c.args.number c.args.recs.now shown.Nothing c.args.shown _ _ c.in-Nothing.is (all_nothing _)
