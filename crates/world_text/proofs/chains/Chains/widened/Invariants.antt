use Rattle.std.proofs.Common.{◌≡◌, take}
use Rattle.world_text.specs.Chains.{hashes_of}
use Rattle.world_text.proofs.chains.Chains.widened.Given as goal

-- the first links have their items
abbrev pub invariant-loop-link : goal.invariant-loop-link
invariant-loop-link l = l.chains ≡ hashes_of (take l.link-index l.link-items)
