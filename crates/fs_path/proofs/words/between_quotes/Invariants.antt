use Rattle.std.proofs.Common.{◌≡◌, length}
use Rattle.fs_path.specs.Words.{items_of}
use Rattle.fs_path.proofs.WordLemmas.{after_bytes}
use Rattle.fs_path.proofs.words.between_quotes.Given as goal

abbrev pub invariant-loop-left : goal.invariant-loop-left
invariant-loop-left l = items_of l.text ≡ after_bytes l.bytes (items_of l.left)

abbrev pub decreases-loop-left : goal.decreases-loop-left
decreases-loop-left l = length l.left
