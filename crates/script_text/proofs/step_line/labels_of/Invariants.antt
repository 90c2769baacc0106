use Rattle.std.proofs.Common.{◌≡◌, ◌++◌, List, drop}
use Rattle.std.specs.Option.{option_map}
use Rattle.lab_lattice.specs.Label.{Label}
use Rattle.script_text.specs.Line.{bytes_in}
use Rattle.script_text.specs.Step.{labels_of}
use Rattle.script_text.proofs.step_line.labels_of.Given as goal

-- the labels so far, and those of the words that are left, are the labels of all words
abbrev pub invariant-loop-word : goal.invariant-loop-word
invariant-loop-word l = labels_of l.policy (bytes_in l.words) ≡ option_map (λ (ls : List Label). l.labels ++ ls) (labels_of l.policy (bytes_in (drop l.word-index l.words)))
