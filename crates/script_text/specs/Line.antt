-- The lines of a script.
use Rattle.std.specs.Prelude.{◌≡◌, ℕ, true, ◌||◌, nat_lt, cond, List, ◌∷◌, length, map, Option, None, Some, Ok, Err}
use Rattle.std.specs.List.{list_all}
use Rattle.fs_path.specs.declared.words.LineWord.{LineWord}
use Rattle.fs_path.specs.Words.{is_blank, words_of}
use Rattle.fs_path.specs.declared.words.TheConstants.{MAX_LINE}
use Rattle.kern_model.specs.Arguments.{has_names, is_call, is_number}
use Rattle.kern_model.specs.Named.{call_named}
use Rattle.kern_model.specs.declared.calls.CallName.{CallName}
use Rattle.lab_lattice.specs.Label.{Label}
use Rattle.lab_text.specs.Policy.{PolicyNames}
use Rattle.sec_utils.specs.Calls.{calls_of, IsWhole}
use Rattle.sec_utils.specs.Items.{may_be_made}
use Rattle.sec_utils.specs.Tools.{tool_named}
use Rattle.sec_utils.specs.declared.util.Tool.{Tool}
use Rattle.script_text.specs.declared.line.Line.{Line}
use Rattle.script_text.specs.declared.line.Line.TheVariants as line
use Rattle.script_text.specs.declared.fault.LineError.TheVariants as error
use Rattle.script_text.specs.Reading.{Reading, both, map_reading}
use Rattle.script_text.specs.Argument as argument
use Rattle.script_text.specs.Calls.{parse_call}
use Rattle.script_text.specs.Tools.{parse_tool}

-- the bytes of words
abbrev pub bytes_in : List LineWord → List (List ℕ)
bytes_in words = map (λ (w : LineWord). w.bytes) words

-- a call with its tag and its arguments, or their first fault
abbrev pub call_line : PolicyNames → List ℕ → List (List ℕ) → CallName → Reading Line
call_line policy tag arguments call = map_reading (λ item. line.One item.0 item.1) (both (argument.tag policy tag) (parse_call policy call arguments))

-- the call, or else the utility, that the second word names
abbrev pub item_by : PolicyNames → List ℕ → List (List ℕ) → Option CallName → Option Tool → Reading Line
item_by policy tag arguments (Some call) tool = call_line policy tag arguments call
item_by policy tag arguments None (Some tool) = map_reading line.Tool (parse_tool policy tag tool arguments)
item_by policy tag arguments None None = Err error.Syntax

-- `TAG CALL ARGUMENTS` or `TAG TOOL ARGUMENTS`, of which the first two stand bare
unfoldable pub parse_item : PolicyNames → List LineWord → Reading Line
parse_item policy (tag ∷ name ∷ arguments) =
    cond (tag.quoted || name.quoted) (Err error.Syntax) (item_by policy tag.bytes (bytes_in arguments) (call_named name.bytes) (tool_named name.bytes))
parse_item policy _ = Err error.Syntax

abbrev pub parse_words : PolicyNames → Option (List LineWord) → Reading Line
parse_words policy None = Err error.Syntax
parse_words policy (Some words) = parse_item policy words

-- what a line says, or its first fault
unfoldable pub parse_line : PolicyNames → List ℕ → Reading Line
parse_line policy text =
    cond (nat_lt MAX_LINE (length text)) (Err error.TooLong)
    (cond (is_blank text) (Ok line.Blank)
    (parse_words policy (words_of text)))

-- what a line says may be played, where top is the highest label
abbrev pub MayBePlayed : Label → Line → Type 0
MayBePlayed top line.Blank = Unit {0}
MayBePlayed top (line.One who call) = (is_number top who ≡ true) × (is_call top call ≡ true) × (has_names call ≡ true)
MayBePlayed top (line.Tool util) = (is_number top util.who ≡ true) × (list_all (may_be_made top) (calls_of util) ≡ true) × IsWhole util
