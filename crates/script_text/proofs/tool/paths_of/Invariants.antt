use Rattle.std.proofs.Common.{◌≡◌, ◌++◌, List, drop}
use Rattle.std.specs.Option.{option_map}
use Rattle.fs_path.specs.Path.{PathValue}
use Rattle.script_text.specs.Line.{bytes_in}
use Rattle.script_text.specs.Tools.{paths_of}
use Rattle.script_text.proofs.tool.paths_of.Given as goal

-- the paths so far, and those of the words that are left, are the paths of all words
abbrev pub invariant-loop-word : goal.invariant-loop-word
invariant-loop-word l = paths_of (bytes_in l.words) ≡ option_map (λ (ps : List PathValue). l.paths ++ ps) (paths_of (bytes_in (drop l.word-index l.words)))
