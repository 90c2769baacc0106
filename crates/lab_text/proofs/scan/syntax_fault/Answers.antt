use Rattle.std.proofs.Common.{sym, ◌∙◌}
use Rattle.lab_text.proofs.ScanLemmas.{breaks_at, end_judged}
use Rattle.lab_text.proofs.scan.syntax_fault.Goals as goal

pub returns-in_default : goal.returns-in_default
returns-in_default c = breaks_at c.args.text.now c.loop-at.at c.loop-at.scan c.loop-at.invariant c.loop-at-test.true (sym c.step.ensures ∙ c.in_default.is)

pub returns : goal.returns
returns c = end_judged c.args.text.now c.loop-at.at c.loop-at.scan c.then_some.result c.loop-at.invariant c.loop-at-test.false c.then_some.ensures
