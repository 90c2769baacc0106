-- Utilities by their words.
use Rattle.std.specs.Prelude.{◌≡◌, Some, refl}
use Rattle.kern_model.specs.Named.{find_named}
use Rattle.sec_utils.specs.declared.util.Tool.{Tool}
use Rattle.sec_utils.specs.declared.util.Tool.TheVariants as tool
use Rattle.sec_utils.specs.Tools.{tool_word, tool_named}

-- each utility is found by its word
pub tool_round_trip : (t : Tool) → tool_named (tool_word t) ≡ Some t
unfolding find_named
tool_round_trip tool.GetFcap = refl
tool_round_trip _ = refl
