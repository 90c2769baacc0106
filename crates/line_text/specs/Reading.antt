-- Words that worlds, scripts and records read alike.
use Rattle.std.specs.Prelude.{ℕ, Bool, true, false, cond, List, Option, None, Some, is_none}
use Rattle.fs_path.specs.Path.{PathValue}
use Rattle.fs_path.specs.PathText.{path_fault, parse_path}
use Rattle.lab_text.specs.Names.{same_bytes}

-- the path that a word denotes, if it denotes one
abbrev pub path_of : List ℕ → Option PathValue
path_of word = cond (is_none (path_fault word)) (Some (parse_path word)) None

-- whether a word is the first of two, if it is one of them
unfoldable pub choice : List ℕ → List ℕ → List ℕ → Option Bool
choice first other word = cond (same_bytes word first) (Some true) (cond (same_bytes word other) (Some false) None)
