use Rattle.std.proofs.Common.{◌+◌, ◌-◌, length}
use Rattle.io_ends.proofs.Parts.{Reading}
use Rattle.io_ends.proofs.whole.read_whole.Given as goal

abbrev pub invariant-loop-bytes : goal.invariant-loop-bytes
invariant-loop-bytes g l = Reading l.bytes (l.limit + 1) (g.S.Source.view l.initial.source).left (g.S.Source.view l.source).left (g.S.Source.view l.initial.source).faults (g.S.Source.view l.source).faults

abbrev pub decreases-loop-bytes : goal.decreases-loop-bytes
decreases-loop-bytes g l = l.limit + 1 - length l.bytes
