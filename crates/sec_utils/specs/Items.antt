-- The calls of a utility as items of a script.
use Rattle.std.specs.Prelude.{ℕ, ◌&&◌, Bool, List, [], ◌∷◌, ◌++◌, get_or, map, zip}
use Rattle.fs_path.specs.Words.{quoted_text}
use Rattle.kern_model.specs.Arguments.{has_names, is_call}
use Rattle.kern_model.specs.declared.calls.Call.{Call}
use Rattle.kern_model.specs.declared.world.ScriptItem.{ScriptItem}
use Rattle.lab_lattice.specs.Label.{Label}
use Rattle.sec_utils.specs.declared.util.Tool.{Tool}
use Rattle.sec_utils.specs.declared.util.Util.{Util}
use Rattle.sec_utils.specs.Calls.{calls_of}
use Rattle.sec_utils.specs.Tools.{tool_word}

-- what a reply shows of a call: the word of the utility, and the text of the path between quotes
abbrev pub head_of : Tool → List ℕ → List ℕ
head_of tool text = tool_word tool ++ 32 ∷ quoted_text text

-- the head of the call for the path at an index
abbrev pub head_at : Util → ℕ → List ℕ
head_at util at = head_of util.tool (get_or util.texts at [])

-- a call and the text of its path, as an item of the caller
abbrev pub item_of : Util → List ℕ → Call → ScriptItem
item_of util text call = record { who = util.who; head = head_of util.tool text; call = call }

-- each call with the text of its path, in order
unfoldable pub items_of : Util → List ScriptItem
items_of util = map (λ (p : List ℕ × Call). item_of util p.0 p.1) (zip util.texts (calls_of util))

-- whether a call may be played, where top is the highest label
abbrev pub may_be_made : Label → Call → Bool
may_be_made top call = is_call top call && has_names call
