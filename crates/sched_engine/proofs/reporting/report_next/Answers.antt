use Rattle.std.proofs.Common.{◌≡◌, ◌+◌, ℕ, ◌^◌, ap, subst, sym, rules, ◌∙◌}
use Rattle.std.specs.Prelude.{Ok}
use Rattle.lab_engine.specs.declared.reporting.Report.{Report}
use Rattle.lab_engine.specs.Readable.{AreReadable}
use Rattle.lab_engine.specs.Report.{CountsAtMost, call_sends}
use Rattle.lab_engine.specs.Reporter.{call_on}
use Rattle.lab_engine.proofs.ReportLemmas.{call_stays}
use Rattle.lab_engine.proofs.Sending.{in_order, out_of_memory, passes_on}
use Rattle.sched_engine.proofs.reporting.report_next.Goals as goal

pub report_call-requires-clause-small : goal.report_call-requires-clause-small
report_call-requires-clause-small g c = subst (CountsAtMost (2 ^ 60)) (sym c.requires.all) tt

pub returns-in_err-number-clause-writes : goal.returns-in_err-number-clause-writes
returns-in_err-number-clause-writes g c = λ source. out_of_memory _ _ _ c.from_residual.ensures.1

pub returns-in_err-report_call-clause-writes : goal.returns-in_err-report_call-clause-writes
returns-in_err-report_call-clause-writes g c = λ source.
    let is : c.in_ok-number.number ≡ c.args.count + 1 = search rules in
    let policy = c.args.reporter.now.texts.policy.now in
    let call = call_on c.args.call c.args.outcome.now in
    in_order _ _ _ _ _
    (ap (λ (r : Report). call_sends r policy c.in_ok-number.number call) c.requires.all ∙ ap (λ n. call_sends _ policy n call) is)
    (passes_on _ _ _ _ _ (c.in_err-report_call.ensures.writes source) c.from_residual-in_err-report_call.ensures.1)

pub returns-clause-writes : goal.returns-clause-writes
returns-clause-writes g c = λ source.
    let is : c.in_ok-number.number ≡ c.args.count + 1 = search rules in
    let policy = c.args.reporter.now.texts.policy.now in
    let call = call_on c.args.call c.args.outcome.now in
    in_order {T = ℕ} (Ok c.in_ok-number.number) _ _ _ _
    (ap (λ (r : Report). call_sends r policy c.in_ok-number.number call) c.requires.all ∙ ap (λ n. call_sends _ policy n call) is)
    (c.in_ok-report_call.ensures.writes source)

pub returns-clause-readable : goal.returns-clause-readable
returns-clause-readable g c =
    let is : c.in_ok-number.number ≡ c.args.count + 1 = search rules in
    subst (λ n. AreReadable c.args.reporter.now.texts.policy.now n c.args.outcome.now.recs) is (c.in_ok-report_call.ensures.readable c.requires.all)

pub returns-clause-kept : goal.returns-clause-kept
returns-clause-kept g c = call_stays _ _ _ c.in_ok-report_call.ensures.report c.requires.all
