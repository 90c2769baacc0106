use Rattle.std.proofs.Common.{◌≡◌, length}
use Rattle.fs_path.specs.Words.{words_of, words_by}
use Rattle.fs_path.proofs.WordLemmas.{after_words}
use Rattle.fs_path.proofs.words.words_of.Given as goal

abbrev pub invariant-loop-left : goal.invariant-loop-left
invariant-loop-left l = words_of l.line ≡ after_words l.words (words_by words_of l.left)

abbrev pub decreases-loop-left : goal.decreases-loop-left
decreases-loop-left l = length l.left
