use Rattle.std.proofs.Common.{◌≡◌, take}
use Rattle.world_text.specs.Values.{bytes_in}
use Rattle.world_text.proofs.head.names_of.Given as goal

abbrev pub invariant-loop-word : goal.invariant-loop-word
invariant-loop-word l = l.names ≡ bytes_in (take l.word-index l.words)
