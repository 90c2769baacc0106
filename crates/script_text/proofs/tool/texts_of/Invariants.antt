use Rattle.std.proofs.Common.{◌≡◌, take}
use Rattle.script_text.specs.Line.{bytes_in}
use Rattle.script_text.proofs.tool.texts_of.Given as goal

abbrev pub invariant-loop-word : goal.invariant-loop-word
invariant-loop-word l = l.texts ≡ bytes_in (take l.word-index l.words)
