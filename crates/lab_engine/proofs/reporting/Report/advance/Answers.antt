use Rattle.std.proofs.Common.{◌∙◌, ap, sym}
use Rattle.lab_engine.specs.declared.reporting.Report.{Report}
use Rattle.lab_engine.specs.declared.reporting.Report.TheVariants.{Counted}
use Rattle.lab_engine.specs.declared.reporting.Tally.{Tally}
use Rattle.lab_engine.specs.Report.{call_record, report_after_call}
use Rattle.lab_engine.proofs.reporting.Report.advance.Goals as goal

pub returns-in_ok-count-in-Counted-clause-report : goal.returns-in_ok-count-in-Counted-clause-report
returns-in_ok-count-in-Counted-clause-report c = λ head.
    ap (λ (t : Tally). Counted t) (c.in_ok-count-in-Counted.ensures c.args.who.now head)
    ∙ sym (ap (λ (r : Report). report_after_call r (call_record c.args.who.now head c.args.outcome.now)) c.in-Counted.is)
