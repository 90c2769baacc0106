-- The utilities by their arguments.
use Rattle.std.specs.Prelude.{ℕ, List, [], ◌∷◌, Option, None, Some, Err}
use Rattle.std.specs.Option.{ok_or, option_and_then, option_map}
use Rattle.cap_bits.specs.State.{no_flags}
use Rattle.cap_bits.specs.declared.state.CapState.{CapState}
use Rattle.fs_path.specs.Path.{PathValue}
use Rattle.kern_model.specs.declared.numbers.Pid.{Pid}
use Rattle.lab_lattice.specs.Label.{Label}
use Rattle.lab_text.specs.Policy.{PolicyNames}
use Rattle.line_text.specs.Reading.{path_of}
use Rattle.sec_utils.specs.declared.util.Tool.{Tool}
use Rattle.sec_utils.specs.declared.util.Tool.TheVariants as tool
use Rattle.sec_utils.specs.declared.util.Util.{Util}
use Rattle.script_text.specs.declared.fault.LineError.TheVariants as error
use Rattle.script_text.specs.Reading.{Reading, both, map_reading}
use Rattle.script_text.specs.Argument as argument

-- the paths that words denote, where each denotes one
abbrev pub paths_of : List (List ℕ) → Option (List PathValue)
paths_of [] = Some []
paths_of (w ∷ ws) = option_and_then (λ path. option_map (λ paths. path ∷ paths) (paths_of ws)) (path_of w)

-- paths
unfoldable pub paths : List (List ℕ) → Reading (List PathValue)
paths words = ok_or (paths_of words) error.BadPath

-- a utility of a caller on paths, given with their texts, that sets nothing
abbrev pub plain : Tool → List (List ℕ) → Pid × List PathValue → Util
plain tool texts args = record { who = args.0; tool = tool; caps = no_flags; mark = None; texts = texts; paths = args.1 }

-- a utility with the capability sets that it sets
abbrev pub with_caps : Util × CapState → Util
with_caps args = record args.0 { caps = args.1 }

-- a utility with the label that it sets
abbrev pub with_mark : Util × Label → Util
with_mark args = record args.0 { mark = Some args.1 }

-- a utility that sets nothing: the tag, and one path or more
unfoldable pub on_paths : PolicyNames → List ℕ → Tool → List (List ℕ) → Reading Util
on_paths policy tag tool [] = Err error.Syntax
on_paths policy tag tool (w ∷ ws) = map_reading (plain tool (w ∷ ws)) (both (argument.tag policy tag) (paths (w ∷ ws)))

-- a utility with its tag and its arguments, or their first fault
unfoldable pub parse_tool : PolicyNames → List ℕ → Tool → List (List ℕ) → Reading Util
parse_tool policy tag tool.GetFcap words = on_paths policy tag tool.GetFcap words
parse_tool policy tag tool.GetFmac words = on_paths policy tag tool.GetFmac words
parse_tool policy tag tool.SetFcap (w ∷ ws) = map_reading with_caps (both (on_paths policy tag tool.SetFcap ws) (argument.caps w))
parse_tool policy tag tool.SetFmac (w ∷ ws) = map_reading with_mark (both (on_paths policy tag tool.SetFmac ws) (argument.label policy w))
parse_tool policy tag _ [] = Err error.Syntax
