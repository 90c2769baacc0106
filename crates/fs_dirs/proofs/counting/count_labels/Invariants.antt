use Rattle.std.proofs.Common.{take}
use Rattle.fs_dirs.specs.HolderLabels.{AreNames, names_held}
use Rattle.fs_dirs.proofs.counting.count_labels.Given as goal

-- the names in the directories so far are counted
abbrev pub invariant-loop-holder : goal.invariant-loop-holder
invariant-loop-holder l = AreNames l.counts (names_held l.nodes.table.objects (take l.holder-index l.holders))
