-- The meaning of an input: its world, its script up to the first refused line, and how it ends.
use Rattle.std.specs.Prelude.{ℕ, ◌+◌, Bool, true, false, cond, nat_lt, List, [], ◌∷◌, length, take, Option, Some, None, Result, Ok, Err}
use Rattle.std.specs.List.{flat_map}
use Rattle.kern_model.specs.declared.calls.Call.{Call}
use Rattle.kern_model.specs.declared.numbers.Pid.{Pid}
use Rattle.kern_model.specs.declared.world.ScriptItem.{ScriptItem}
use Rattle.fs_path.specs.declared.words.TheConstants.{MAX_LINE}
use Rattle.kern_model.specs.declared.limits.TheConstants.{MAX_INPUT}
use Rattle.kern_model.specs.Names.{name_of, word_of}
use Rattle.lab_text.specs.Policy.{PolicyNames}
use Rattle.line_text.specs.declared.fault.LineFault.{LineFault}
use Rattle.line_text.specs.declared.fault.LineFault.TheVariants as fault
use Rattle.script_text.specs.declared.line.Line.{Line}
use Rattle.script_text.specs.declared.line.Line.TheVariants as line
use Rattle.script_text.specs.declared.fault.LineError.{LineError}
use Rattle.script_text.specs.Line.{parse_line}
use Rattle.script_text.specs.Reading.{fault_of}
use Rattle.sec_utils.specs.Items.{items_of}
use Rattle.world_text.specs.declared.format.Format.{Format}
use Rattle.world_text.specs.declared.format.Format.TheVariants.{One, Two}
use Rattle.world_text.specs.declared.world.WorldText.{WorldText}
use Rattle.world_text.specs.Reading as world
use Rattle.world_text.specs.Reading.{read_text}
use Rattle.lab_engine.specs.declared.ending.InputEnd.{InputEnd}
use Rattle.lab_engine.specs.declared.ending.InputEnd.TheVariants.{Whole, Refused, TooMuch}
use Rattle.lab_engine.specs.declared.ending.Part.{Part}
use Rattle.lab_engine.specs.declared.ending.Part.TheVariants as part

-- a world that was accepted, with the names of its labels
abbrev pub Accepted : Type 0
Accepted = WorldText

-- the items of a script up to the first refused line, and how the input ends
pub record Script : Type 0 where
  pub items : List ScriptItem
  pub ending : InputEnd

pub record Input : Type 0 where
  pub accepted : Option Accepted
  pub script : Script

abbrev pub script : List ScriptItem → InputEnd → Script
script items ending = record { items = items; ending = ending }

-- no world is accepted
abbrev pub no_world : InputEnd → Input
no_world ending = record { accepted = None; script = script [] ending }

-- how an input ends at a last piece that goes on past the limit: the piece is refused where it is too long for a line
abbrev pub cut_off : ℕ → Part → LineFault → List ℕ → InputEnd
cut_off n p why last = cond (nat_lt MAX_LINE (length last)) (Refused n p why) TooMuch

-- how an input ends inside its world at a last piece that no line feed ends; `over` where the input goes on past the limit
abbrev pub ends_at : Bool → ℕ → Part → LineFault → List ℕ → InputEnd
ends_at over n p why last = cond over (cut_off n p why last) (Refused n p why)

-- ---- the script

-- a call of a script, whose reply has the word of the call
abbrev pub item_of : Pid → Call → ScriptItem
item_of who call = record { who = who; head = word_of (name_of call); call = call }

-- the calls that a line stands for: none, one, or one for each path of a utility
abbrev pub items_in : Line → List ScriptItem
items_in line.Blank = []
items_in (line.One who call) = item_of who call ∷ []
items_in (line.Tool util) = items_of util

-- a line of a script: its bytes, and what it says
pub record ScriptLine : Type 0 where
  pub text : List ℕ
  pub says : Line

-- the lines of a script that are taken, and how the input ends after them
pub record ScriptLines : Type 0 where
  pub lines : List ScriptLine
  pub ending : InputEnd

abbrev pub script_line : List ℕ → Line → ScriptLine
script_line text says = record { text = text; says = says }

abbrev pub taken_lines : List ScriptLine → InputEnd → ScriptLines
taken_lines lines ending = record { lines = lines; ending = ending }

-- why a command refuses a line that can be read, if it does
abbrev pub Judge : Type 0
Judge = Line → Option LineFault

-- no such line is refused
abbrev pub takes_all : Judge
takes_all line = None

-- lines that begin with this one, where it is taken, and else end before it
abbrev pub judged : Option LineFault → ℕ → ScriptLine → ScriptLines → ScriptLines
judged (Some why) n line more = taken_lines [] (Refused n part.Script why)
judged None n line more = taken_lines (line ∷ more.lines) more.ending

-- the same of the bytes of a line, which is refused for what it says, or else as a judge finds
abbrev pub after_line : Judge → Result Line LineError → ℕ → List ℕ → ScriptLines → ScriptLines
after_line judge (Err e) n text more = taken_lines [] (Refused n part.Script (fault_of e))
after_line judge (Ok says) n text more = judged (judge says) n (script_line text says) more

-- why a last piece is refused that no line feed ends: it is too long, or it does not end
abbrev pub fault_of_last : List ℕ → LineFault
fault_of_last last = cond (nat_lt MAX_LINE (length last)) fault.TooLong fault.Syntax

-- how a script ends at its last piece, which no line feed ends
abbrev pub last_piece : Bool → ℕ → List ℕ → InputEnd
last_piece false n [] = Whole
last_piece false n last = Refused n part.Script (fault_of_last last)
last_piece true n last = cut_off n part.Script fault.TooLong last

-- the lines of a script from line n on, up to the first refused one, or to the end
unfoldable pub lines_from : Judge → Bool → PolicyNames → ℕ → List (List ℕ) → ScriptLines
lines_from judge over policy n [] = taken_lines [] Whole
lines_from judge over policy n (last ∷ []) = taken_lines [] (last_piece over n last)
lines_from judge over policy n (line ∷ next ∷ ls) = after_line judge (parse_line policy line) n line (lines_from judge over policy (n + 1) (next ∷ ls))

-- the calls of lines
abbrev pub items_of_lines : List ScriptLine → List ScriptItem
items_of_lines lines = flat_map (λ (l : ScriptLine). items_in l.says) lines

abbrev pub script_of : ScriptLines → Script
script_of m = script (items_of_lines m.lines) m.ending

-- ---- the world

-- what an input is at the end of its world
pub data Begun : Type 0 where
  -- with a world: whether the input goes on past the limit, the number of the first line of the script, and the pieces from there on
  HasWorld : (world : WorldText) (over : Bool) (n : ℕ) (script : List (List ℕ)) → Begun
  -- without a world it ends so
  NoWorld : (ending : InputEnd) → Begun

-- the same by what was read of the world; `over` where the input goes on past the limit
abbrev pub begun_by : Bool → world.Reading → Begun
begun_by over (world.Accepted w n lines) = HasWorld w over n lines
begun_by over (world.Refused n why) = NoWorld (Refused n part.World why)
begun_by over (world.Ended n last) = NoWorld (ends_at over n part.World fault.Syntax last)

-- the same of bytes where a format is due: by the lines of the first 16 MiB, and by whether there is more
unfoldable pub begun_in : Format → List ℕ → Begun
begun_in due text = begun_by (nat_lt MAX_INPUT (length text)) (read_text due (take MAX_INPUT text))

abbrev pub of_world : Judge → Bool → WorldText → ℕ → List (List ℕ) → Input
of_world judge over w n lines = record { accepted = Some w; script = script_of (lines_from judge over w.policy n lines) }

-- an input whose lines are judged, by what it is at the end of its world
abbrev pub input_by : Judge → Begun → Input
input_by judge (HasWorld w over n lines) = of_world judge over w n lines
input_by judge (NoWorld ending) = no_world ending

abbrev pub input_from : Begun → Input
input_from b = input_by takes_all b

-- the input that bytes are where a format is due
unfoldable pub input_in : Format → List ℕ → Input
input_in due text = input_from (begun_in due text)

-- the input that bytes are
abbrev pub input_of : List ℕ → Input
input_of text = input_in Two text

-- the input that bytes are in the old format
abbrev pub old_input_of : List ℕ → Input
old_input_of text = input_in One text
