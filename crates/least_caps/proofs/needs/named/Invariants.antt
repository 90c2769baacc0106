use Rattle.std.proofs.Common.{◌≡◌, take}
use Rattle.least_caps.specs.Named.{named}
use Rattle.least_caps.proofs.needs.named.Given as goal

abbrev pub invariant-loop-rec : goal.invariant-loop-rec
invariant-loop-rec l = l.caps ≡ named (take l.rec-index l.rec-items)
