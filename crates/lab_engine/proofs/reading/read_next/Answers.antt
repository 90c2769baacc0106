use Rattle.std.proofs.Common.{sym, ◌∙◌}
use Rattle.lab_engine.proofs.ReadLemmas.{counts_failed, counts_memory, follows_end, follows_judged, follows_line, follows_long_line, follows_refused, follows_too_much, follows_unended, next_fails}
use Rattle.lab_engine.proofs.reading.read_next.Goals as goal

pub returns-in_err-next-clause-follows : goal.returns-in_err-next-clause-follows
returns-in_err-next-clause-follows g c = next_fails _ _ _ _ c.from_residual.result _ c.args.rules.texts.policy.now _ c.from_residual.ensures.1 c.in_err-next.ensures.advances

pub returns-in_err-next-clause-counts : goal.returns-in_err-next-clause-counts
returns-in_err-next-clause-counts g c = counts_failed c.from_residual.result _ c.from_residual.ensures.1 _ _ c.in_err-next.ensures.counts

pub returns-in_err-fault-in-Err-clause-counts : goal.returns-in_err-fault-in-Err-clause-counts
returns-in_err-fault-in-Err-clause-counts g c = counts_memory _ c.from_residual-in_err-fault-in-Err.ensures.1 _ _ c.in_ok-next.ensures.counts

pub returns-in-None-clause-follows : goal.returns-in-None-clause-follows
returns-in-None-clause-follows g c = follows_line _ _ _ _ _ c.in_ok-next.ensures.advances c.in-Line.is _ c.line.ensures _ c.args.rules.texts.policy.now _ c.in-Ok.ensures.parsed c.in-Ok.ensures.item (sym c.in-None.is ∙ c.fault.ensures)

pub returns-in-Some-clause-follows : goal.returns-in-Some-clause-follows
returns-in-Some-clause-follows g c = follows_judged _ _ _ _ _ c.in_ok-next.ensures.advances c.in-Line.is _ c.line.ensures _ c.args.rules.texts.policy.now _ c.in-Ok.ensures.parsed _ (sym c.in-Some.is ∙ c.fault.ensures) _ c.refused-ending.ensures

pub returns-in_ok-fault-in-Err-clause-follows : goal.returns-in_ok-fault-in-Err-clause-follows
returns-in_ok-fault-in-Err-clause-follows g c =
    follows_refused _ _ _ _ _ c.in_ok-next.ensures.advances c.in-Line.is _ c.line.ensures _ c.args.rules.texts.policy.now c.in-Err.error _ c.in_ok-fault-in-Err.ensures.fault c.in-Err.ensures.cause _ c.refused-ending-in-Err.ensures

pub returns-in-End-clause-follows : goal.returns-in-End-clause-follows
returns-in-End-clause-follows g c = follows_end _ _ _ _ _ c.in_ok-next.ensures.advances c.in-End.is _ c.args.rules.texts.policy.now

pub returns-in-Unended-clause-follows : goal.returns-in-Unended-clause-follows
returns-in-Unended-clause-follows g c = follows_unended _ _ _ _ _ c.in_ok-next.ensures.advances c.in-Unended.is _ c.args.rules.texts.policy.now _ c.refused-ending-in-Unended.ensures

pub returns-in-LongLine-clause-follows : goal.returns-in-LongLine-clause-follows
returns-in-LongLine-clause-follows g c = follows_long_line _ _ _ _ _ c.in_ok-next.ensures.advances c.in-LongLine.is _ c.args.rules.texts.policy.now _ c.refused-ending-in-LongLine.ensures

pub returns-in-TooMuch-clause-follows : goal.returns-in-TooMuch-clause-follows
returns-in-TooMuch-clause-follows g c = follows_too_much _ _ _ _ _ c.in_ok-next.ensures.advances c.in-TooMuch.is _ c.args.rules.texts.policy.now
