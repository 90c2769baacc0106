-- What is written of an input that is viewed from a label.
use Rattle.std.specs.Prelude.{ℕ, List, Option, Some, None}
use Rattle.lab_lattice.specs.Label.{Label}
use Rattle.lab_text.specs.Text.{parse_label}
use Rattle.line_text.specs.declared.fault.LineFault.TheVariants as line_fault
use Rattle.lab_engine.specs.declared.ending.CommandWord.TheVariants as command_word
use Rattle.lab_engine.specs.declared.ending.InputEnd.{InputEnd}
use Rattle.lab_engine.specs.declared.ending.InputEnd.TheVariants.{RefusedWord}
use Rattle.lab_engine.specs.Input.{Accepted, Script}
use Rattle.lab_engine.specs.Session.{session_of}
use Rattle.lab_engine.specs.Texts.{last_text}
use Rattle.lab_engine.specs.Viewing.{view_text}

-- ---- an accepted world

-- how a view ends: the input is refused where the word of the label denotes none of the world, whatever the script has
abbrev pub viewed_ending : Option Label → InputEnd → InputEnd
viewed_ending None ending = RefusedWord command_word.View line_fault.BadLabel
viewed_ending (Some l) ending = ending

-- what a view of an accepted world and its script writes, by the label that the word denotes; where it denotes none,
-- that refusal alone
abbrev pub viewed_text : Option Label → Accepted → Script → List ℕ
viewed_text None a script = last_text 0 (RefusedWord command_word.View line_fault.BadLabel)
viewed_text (Some l) a script = view_text l (session_of a script)

-- ---- an input

-- what a view from the label of a word writes of an input; without a world it is the last line alone
abbrev pub text_of_view : List ℕ → Option Accepted → Script → List ℕ
text_of_view word None script = last_text 0 script.ending
text_of_view word (Some a) script = viewed_text (parse_label a.policy word) a script

-- how a view of an input ends
abbrev pub ending_of_view : List ℕ → Option Accepted → InputEnd → InputEnd
ending_of_view word None ending = ending
ending_of_view word (Some a) ending = viewed_ending (parse_label a.policy word) ending
