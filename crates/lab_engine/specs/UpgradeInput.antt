-- What an input is that is upgraded: its world, the lines of its script up to the first refused one, and how it ends.
use Rattle.std.specs.Prelude.{Bool, false, cond, not, ℕ, List, [], ◌∷◌, ◌++◌, Option, Some, None}
use Rattle.std.specs.List.{flat_map}
use Rattle.cap_bits.specs.declared.state.CapState.{CapState}
use Rattle.cap_bits.specs.FileCaps.{is_uniform}
use Rattle.kern_model.specs.declared.calls.Call.{Call}
use Rattle.kern_model.specs.declared.calls.Call.TheVariants.{CapSetFile, CapSetFd}
use Rattle.line_text.specs.declared.fault.LineFault.TheVariants as fault
use Rattle.script_text.specs.declared.line.Line.{Line}
use Rattle.script_text.specs.declared.line.Line.TheVariants as line
use Rattle.sec_utils.specs.declared.util.Tool.{Tool}
use Rattle.sec_utils.specs.declared.util.Tool.TheVariants.{SetFcap}
use Rattle.world_text.specs.declared.format.Format.{Format}
use Rattle.world_text.specs.declared.format.Format.TheVariants.{One}
use Rattle.lab_engine.specs.declared.ending.InputEnd.{InputEnd}
use Rattle.lab_engine.specs.Input.{Accepted, Begun, HasWorld, Judge, NoWorld, ScriptLine, ScriptLines, begun_in, lines_from}

-- ---- a line

-- whether a call sets capability sets that no file can have, since they are not uniform
abbrev pub call_mixed : Call → Bool
call_mixed (CapSetFile path caps) = not (is_uniform caps)
call_mixed (CapSetFd fd caps) = not (is_uniform caps)
call_mixed _ = false

-- whether a utility sets such capability sets
abbrev pub tool_mixed : Tool → CapState → Bool
tool_mixed SetFcap caps = not (is_uniform caps)
tool_mixed _ caps = false

-- whether a line sets such capability sets
abbrev pub sets_mixed : Line → Bool
sets_mixed line.Blank = false
sets_mixed (line.One who call) = call_mixed call
sets_mixed (line.Tool util) = tool_mixed util.tool util.caps

-- a line is refused that sets such capability sets
abbrev pub refuses_mixed : Judge
refuses_mixed line = cond (sets_mixed line) (Some fault.MixedCaps) None

-- ---- the script

-- the lines of a script up to the first refused one, each with its line feed, and how the input ends
pub record UpgradeScript : Type 0 where
  pub text : List ℕ
  pub ending : InputEnd

abbrev pub kept_script : List ℕ → InputEnd → UpgradeScript
kept_script text ending = record { text = text; ending = ending }

-- the bytes of lines, each with its line feed
abbrev pub text_of_lines : List ScriptLine → List ℕ
text_of_lines lines = flat_map (λ (l : ScriptLine). l.text ++ 10 ∷ []) lines

abbrev pub kept_of : ScriptLines → UpgradeScript
kept_of m = kept_script (text_of_lines m.lines) m.ending

-- ---- the input

pub record UpgradeInput : Type 0 where
  pub accepted : Option Accepted
  pub script : UpgradeScript

-- an input, by what it is at the end of its world
abbrev pub upgrade_by : Begun → UpgradeInput
upgrade_by (HasWorld w over n lines) = record { accepted = Some w; script = kept_of (lines_from refuses_mixed over w.policy n lines) }
upgrade_by (NoWorld ending) = record { accepted = None; script = kept_script [] ending }

-- the same of bytes where a format is due
unfoldable pub upgrade_in : Format → List ℕ → UpgradeInput
upgrade_in due text = upgrade_by (begun_in due text)

-- the input that bytes of the old format are
abbrev pub upgrade_of : List ℕ → UpgradeInput
upgrade_of text = upgrade_in One text
