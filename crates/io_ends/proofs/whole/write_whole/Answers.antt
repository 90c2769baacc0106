use Rattle.io_ends.proofs.Parts.{underway_more}
use Rattle.io_ends.proofs.whole.write_whole.Goals as goal

pub loop-rest-preserved : goal.loop-rest-preserved
loop-rest-preserved g c = underway_more _ _ _ _ _ _ _ _ _ c.loop-rest.invariant c.in_ok-count.ensures.bytes c.in_ok-count.ensures.counts.still
