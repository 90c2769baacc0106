use Rattle.std.proofs.Common.{length}
use Rattle.world_text.specs.Chains.{IsAlong}
use Rattle.world_text.proofs.chains.Chains.last_before.Given as goal

abbrev pub invariant-loop-at : goal.invariant-loop-at
invariant-loop-at l = IsAlong (length l.self-inside.heads.items) l.hash l.self l.count l.at

abbrev pub decreases-loop-at : goal.decreases-loop-at
decreases-loop-at l = l.at
