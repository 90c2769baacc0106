use Rattle.std.proofs.Common.{sym, ◌∙◌, ap}
use Rattle.std.specs.Prelude.{Ok}
use Rattle.kern_model.specs.declared.numbers.Pid.{Pid}
use Rattle.lab_text.specs.Policy.{PolicyNames}
use Rattle.line_text.specs.Reply.{reply_line}
use Rattle.lab_engine.specs.Report.{shown_of}
use Rattle.lab_engine.specs.Reporter.{call_on, head_of, who_of}
use Rattle.lab_engine.proofs.CallLemmas.{by_shown, reply_left_out, reply_written}
use Rattle.lab_engine.proofs.Sending.{goes_on, in_order, out_of_memory, stops}
use Rattle.lab_engine.proofs.reporter.CallWriter.write_call.Goals as goal

pub returns-in_err-shown-clause-writes : goal.returns-in_err-shown-clause-writes
returns-in_err-shown-clause-writes g c = λ source. out_of_memory _ _ _ c.from_residual.ensures.1

pub returns-in_err-show-clause-writes : goal.returns-in_err-show-clause-writes
returns-in_err-show-clause-writes g c = λ source.
    let o = c.args.outcome.now in
    let r = c.args.report.now in
    in_order _ _ _ _ _
    (by_shown c.args.self.now.texts.policy.now c.args.number (call_on c.args.line o) r _ (c.in_ok-shown.ensures.shown ∙ ap (λ (w : Pid). shown_of r w o.recs) c.who.ensures) c.items.result.now c.items.ensures)
    (stops _ _ _ _ _ _ (c.in_err-show.ensures.writes source) c.from_residual-in_err-show.ensures.1)

pub returns-then-not-branch-clause-writes : goal.returns-then-not-branch-clause-writes
returns-then-not-branch-clause-writes g c = λ source.
    let o = c.args.outcome.now in
    let r = c.args.report.now in
    in_order {T = Unit {0}} (Ok (tt {0})) _ _ _ _
    (reply_left_out c.args.self.now.texts.policy.now c.args.number (call_on c.args.line o) r _ (c.in_ok-shown.ensures.shown ∙ ap (λ (w : Pid). shown_of r w o.recs) c.who.ensures) c.items.result.now c.items.ensures
    (sym c.in_ok-show.ensures.reply ∙ c.if-not-branch.true))
    (c.in_ok-show.ensures.writes source)

pub returns-clause-writes : goal.returns-clause-writes
returns-clause-writes g c = λ source.
    let o = c.args.outcome.now in
    let r = c.args.report.now in
    in_order c.reply.result _ _ _ _
    (reply_written c.args.self.now.texts.policy.now c.args.number (call_on c.args.line o) r _ (c.in_ok-shown.ensures.shown ∙ ap (λ (w : Pid). shown_of r w o.recs) c.who.ensures) c.items.result.now c.items.ensures
    (sym c.in_ok-show.ensures.reply ∙ c.if-not-branch.false)
    _
    (ap (λ (p : PolicyNames). reply_line p (who_of c.args.line) (head_of c.args.line) o.reply) c.in_ok-show.ensures.same.0))
    (goes_on c.reply.result _ _ _ _ _ (c.in_ok-show.ensures.writes source) (c.reply.ensures.writes source))
