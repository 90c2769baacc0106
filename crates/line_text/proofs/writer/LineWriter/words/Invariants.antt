use Rattle.std.proofs.Common.{◌≡◌, ◌++◌, take}
use Rattle.fs_path.specs.Words.{after_spaces}
use Rattle.line_text.proofs.writer.LineWriter.words.Given as goal

abbrev pub invariant-loop-word : goal.invariant-loop-word
invariant-loop-word l = l.self ≡ l.fn.self ++ after_spaces (take l.word-index l.words)
