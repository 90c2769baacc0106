-- What an input is whose capabilities are narrowed: its world, its script up to the first line that is refused or asks for capability sets, and how it ends.
use Rattle.std.specs.Prelude.{Bool, true, false, cond, List, ℕ, Some, None}
use Rattle.least_caps.specs.Asks.{asks}
use Rattle.line_text.specs.declared.fault.LineFault.TheVariants as fault
use Rattle.script_text.specs.declared.line.Line.{Line}
use Rattle.script_text.specs.declared.line.Line.TheVariants as line
use Rattle.sec_utils.specs.declared.util.Tool.{Tool}
use Rattle.sec_utils.specs.declared.util.Tool.TheVariants.{GetFcap, SetFcap}
use Rattle.world_text.specs.declared.format.Format.{Format}
use Rattle.world_text.specs.declared.format.Format.TheVariants.{Two}
use Rattle.lab_engine.specs.Input.{Begun, Input, Judge, begun_in, input_by}

-- ---- a line

-- whether a utility asks for capability sets
abbrev pub tool_asks : Tool → Bool
tool_asks GetFcap = true
tool_asks SetFcap = true
tool_asks _ = false

-- whether a line asks for capability sets, by its call or by its utility
abbrev pub line_asks : Line → Bool
line_asks line.Blank = false
line_asks (line.One who call) = asks call
line_asks (line.Tool util) = tool_asks util.tool

-- a line is refused that asks for capability sets
abbrev pub refuses_asked : Judge
refuses_asked line = cond (line_asks line) (Some fault.CapsAsked) None

-- ---- the input

-- an input, by what it is at the end of its world
abbrev pub least_by : Begun → Input
least_by b = input_by refuses_asked b

-- the same of bytes where a format is due
unfoldable pub least_in : Format → List ℕ → Input
least_in due text = least_by (begun_in due text)

-- the input that bytes are
abbrev pub least_of : List ℕ → Input
least_of text = least_in Two text
