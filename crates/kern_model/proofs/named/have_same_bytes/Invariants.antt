use Rattle.std.proofs.Common.{◌≡◌, ◌==◌, length}
use Rattle.std.specs.Cmp.Lexicographic.{pointwise}
use Rattle.kern_model.proofs.named.have_same_bytes.Given as goal

abbrev pub invariant-loop-left : goal.invariant-loop-left
invariant-loop-left l = (pointwise ◌==◌ l.left l.right ≡ pointwise ◌==◌ l.word l.other) × (length l.left ≡ length l.right)

abbrev pub decreases-loop-left : goal.decreases-loop-left
decreases-loop-left l = length l.left
