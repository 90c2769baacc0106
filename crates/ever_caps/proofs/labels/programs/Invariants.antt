use Rattle.std.proofs.Common.{◌≡◌, take}
use Rattle.ever_caps.specs.Crossing.{programs}
use Rattle.ever_caps.proofs.labels.programs.Given as goal

abbrev pub invariant-loop-object : goal.invariant-loop-object
invariant-loop-object l = l.found.items ≡ programs (take l.object-index l.object-items)
