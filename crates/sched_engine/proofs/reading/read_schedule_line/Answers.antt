use Rattle.lab_engine.proofs.ReadLemmas.{counts_failed, counts_memory}
use Rattle.sched_engine.proofs.LineLemmas.{reads_early_end, reads_long_line, reads_misplaced, reads_refused, reads_step, reads_too_much, reads_unended, reads_whole}
use Rattle.sched_engine.proofs.reading.read_schedule_line.Goals as goal

pub returns-in_err-next-clause-counts : goal.returns-in_err-next-clause-counts
returns-in_err-next-clause-counts g c = counts_failed c.from_residual.result _ c.from_residual.ensures.1 _ _ c.in_err-next.ensures.counts

pub returns-in_err-after-in-Ok-clause-counts : goal.returns-in_err-after-in-Ok-clause-counts
returns-in_err-after-in-Ok-clause-counts g c = counts_memory _ c.from_residual-in_err-after-in-Ok.ensures.1 _ _ c.in_ok-next.ensures.counts

pub returns-in_err-fault-in-Err-clause-counts : goal.returns-in_err-fault-in-Err-clause-counts
returns-in_err-fault-in-Err-clause-counts g c = counts_memory _ c.from_residual-in_err-fault-in-Err.ensures.1 _ _ c.in_ok-next.ensures.counts

pub returns-in_err-schedule-in-End-clause-counts : goal.returns-in_err-schedule-in-End-clause-counts
returns-in_err-schedule-in-End-clause-counts g c = counts_memory _ c.from_residual-in_err-schedule-in-End.ensures.1 _ _ c.in_ok-next.ensures.counts

pub returns-in-Some-clause-reads : goal.returns-in-Some-clause-reads
returns-in-Some-clause-reads g c =
    reads_step c.args.texts.policy.now c.args.due _ _ _ _ _ c.in_ok-next.ensures.advances c.in-Line.is _ c.line-line.ensures _ c.in-Ok.ensures.parsed c.in-Ok.ensures.item
    _ c.in_ok-after-in-Ok.ensures _ c.in-Some.is

pub returns-in-None-clause-reads : goal.returns-in-None-clause-reads
returns-in-None-clause-reads g c =
    reads_misplaced c.args.texts.policy.now c.args.due _ _ _ _ _ c.in_ok-next.ensures.advances c.in-Line.is _ c.line-line.ensures _ c.in-Ok.ensures.parsed
    _ c.in_ok-after-in-Ok.ensures c.in-None.is _ c.refused.ensures

pub returns-in_ok-fault-in-Err-clause-reads : goal.returns-in_ok-fault-in-Err-clause-reads
returns-in_ok-fault-in-Err-clause-reads g c =
    reads_refused c.args.texts.policy.now c.args.due _ _ _ _ _ c.in_ok-next.ensures.advances c.in-Line.is _ c.line-line.ensures c.in-Err.error _ c.in_ok-fault-in-Err.ensures c.in-Err.ensures.cause _ c.refused-in-Err.ensures

pub returns-in-Some-2-clause-reads : goal.returns-in-Some-2-clause-reads
returns-in-Some-2-clause-reads g c = reads_whole c.args.texts.policy.now c.args.due _ _ _ _ _ c.in_ok-next.ensures.advances c.in-End.is _ c.in_ok-schedule-in-End.ensures _ c.in-Some-2.is

pub returns-in-None-2-clause-reads : goal.returns-in-None-2-clause-reads
returns-in-None-2-clause-reads g c =
    reads_early_end c.args.texts.policy.now c.args.due _ _ _ _ _ c.in_ok-next.ensures.advances c.in-End.is _ c.in_ok-schedule-in-End.ensures c.in-None-2.is _ c.refused-in-None-2.ensures

pub returns-in-Unended-clause-reads : goal.returns-in-Unended-clause-reads
returns-in-Unended-clause-reads g c = reads_unended c.args.texts.policy.now c.args.due _ _ _ _ _ c.in_ok-next.ensures.advances c.in-Unended.is _ c.refused-in-Unended.ensures

pub returns-in-LongLine-clause-reads : goal.returns-in-LongLine-clause-reads
returns-in-LongLine-clause-reads g c = reads_long_line c.args.texts.policy.now c.args.due _ _ _ _ _ c.in_ok-next.ensures.advances c.in-LongLine.is _ c.refused-in-LongLine.ensures

pub returns-in-TooMuch-clause-reads : goal.returns-in-TooMuch-clause-reads
returns-in-TooMuch-clause-reads g c = reads_too_much c.args.texts.policy.now c.args.due _ _ _ _ _ c.in_ok-next.ensures.advances c.in-TooMuch.is
