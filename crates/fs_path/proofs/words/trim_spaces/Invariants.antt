use Rattle.std.proofs.Common.{◌≡◌, length}
use Rattle.fs_path.specs.Words.{trim_spaces}
use Rattle.fs_path.proofs.words.trim_spaces.Given as goal

abbrev pub invariant-loop-left : goal.invariant-loop-left
invariant-loop-left l = trim_spaces l.text ≡ trim_spaces l.left

abbrev pub decreases-loop-left : goal.decreases-loop-left
decreases-loop-left l = length l.left
