use Rattle.std.proofs.Common.{◌≡◌, take}
use Rattle.ever_caps.specs.Crossing.{crossing_labels}
use Rattle.ever_caps.proofs.labels.crossing_labels.Given as goal

abbrev pub invariant-loop-process : goal.invariant-loop-process
invariant-loop-process l = l.labels.items ≡ crossing_labels l.world.bound l.programs (take l.process-index l.process-items)
