-- The utilities by their words.
use Rattle.std.specs.Prelude.{ℕ, List, [], ◌∷◌, Option, codes}
use Rattle.kern_model.specs.Named.{find_named}
use Rattle.sec_utils.specs.declared.util.Tool.{Tool}
use Rattle.sec_utils.specs.declared.util.Tool.TheVariants as tool

-- the word of a utility
abbrev pub tool_word : Tool → List ℕ
tool_word tool.GetFcap = codes "getfcap"
tool_word tool.SetFcap = codes "setfcap"
tool_word tool.GetFmac = codes "getfmac"
tool_word tool.SetFmac = codes "setfmac"

abbrev pub all_tools : List Tool
all_tools = tool.GetFcap ∷ tool.SetFcap ∷ tool.GetFmac ∷ tool.SetFmac ∷ []

-- the utility with a word
abbrev pub tool_named : List ℕ → Option Tool
tool_named = find_named tool_word all_tools
