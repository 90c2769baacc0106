use Rattle.lab_engine.proofs.ReadLemmas.{counts_failed, counts_memory, line_fails, reads_more, reads_no_line, reads_refused, reads_too_much, reads_world}
use Rattle.std.proofs.Common.{ap}
use Rattle.lab_engine.specs.Counts.{counts}
use Rattle.lab_engine.proofs.reading.read_world_line.Goals as goal

pub returns-in_err-next-clause-reads : goal.returns-in_err-next-clause-reads
returns-in_err-next-clause-reads g c = line_fails _ _ _ _ c.from_residual.result c.args.expecting _ c.from_residual.ensures.1 c.in_err-next.ensures.advances

pub returns-in_err-next-clause-counts : goal.returns-in_err-next-clause-counts
returns-in_err-next-clause-counts g c = counts_failed c.from_residual.result _ c.from_residual.ensures.1 _ _ c.in_err-next.ensures.counts

pub returns-in_err-after-in-Line-clause-counts : goal.returns-in_err-after-in-Line-clause-counts
returns-in_err-after-in-Line-clause-counts g c = counts_memory _ c.from_residual-in_err-after-in-Line.ensures.1 _ _ c.in_ok-next.ensures.counts

pub returns-in-GoesOn-clause-reads : goal.returns-in-GoesOn-clause-reads
returns-in-GoesOn-clause-reads g c = reads_more _ _ _ _ _ c.in_ok-next.ensures.advances c.in-Line.is _ c.line.ensures c.args.expecting _ c.in_ok-after-in-Line.ensures.says _ c.in-GoesOn.is

pub returns-in-Begins-clause-reads : goal.returns-in-Begins-clause-reads
returns-in-Begins-clause-reads g c = reads_world _ _ _ _ _ c.in_ok-next.ensures.advances c.in-Line.is _ c.line.ensures c.args.expecting _ c.in_ok-after-in-Line.ensures.says _ c.in-Begins.is

pub returns-in-Refuses-clause-reads : goal.returns-in-Refuses-clause-reads
returns-in-Refuses-clause-reads g c = reads_refused _ _ _ _ _ c.in_ok-next.ensures.advances c.in-Line.is _ c.line.ensures c.args.expecting _ c.in_ok-after-in-Line.ensures.says _ c.in-Refuses.is _ c.refused-ending.ensures

pub returns-in-TooMuch-clause-reads : goal.returns-in-TooMuch-clause-reads
returns-in-TooMuch-clause-reads g c = reads_too_much _ _ _ _ _ c.in_ok-next.ensures.advances c.in-TooMuch.is c.args.expecting

pub returns-in-End : goal.returns-in-End
returns-in-End g c = record {
  reads = reads_no_line _ _ _ _ _ c.in_ok-next.ensures.advances c.in-End.is c.args.expecting _ c.refused-ending-in-End.ensures;
  counts = λ o t. ap (λ n. counts n o t) c.in_ok-next.ensures.counts;
}
