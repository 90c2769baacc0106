use Rattle.std.proofs.Common.{length}
use Rattle.io_ends.proofs.Parts.{Underway}
use Rattle.io_ends.proofs.whole.write_whole.Given as goal

abbrev pub invariant-loop-rest : goal.invariant-loop-rest
invariant-loop-rest g l = Underway l.fn.piece l.rest (g.K.Sink.view l.initial.sink).held (g.K.Sink.view l.sink).held (g.K.Sink.view l.initial.sink).faults (g.K.Sink.view l.sink).faults

abbrev pub decreases-loop-rest : goal.decreases-loop-rest
decreases-loop-rest g l = length l.rest
