-- The lines of programs.
use Rattle.std.specs.Prelude.{◌≡◌, ℕ, ◌&&◌, nat_lt, true, Bool, cond, List, [], ◌∷◌, ◌++◌, length, Option, None, Some, Ok, Err, codes, is_none, is_some, false}
use Rattle.std.specs.List.{list_all}
use Rattle.std.specs.Option.{ok_or, option_and_then, option_map}
use Rattle.fs_path.specs.declared.words.LineWord.{LineWord}
use Rattle.fs_path.specs.Words.{is_apart, is_bare_text, is_blank, words_of}
use Rattle.fs_path.specs.declared.words.TheConstants.{MAX_LINE}
use Rattle.kern_model.specs.Arguments.{has_names, is_call, is_number}
use Rattle.kern_model.specs.Named.{call_named}
use Rattle.kern_model.specs.declared.calls.Call.{Call}
use Rattle.kern_model.specs.declared.calls.CallName.{CallName}
use Rattle.kern_model.specs.declared.numbers.Pid.{Pid}
use Rattle.lab_lattice.specs.Label.{Label, dominates}
use Rattle.lab_text.specs.Policy.{PolicyNames}
use Rattle.lab_text.specs.Text.{parse_label}
use Rattle.sec_utils.specs.Tools.{tool_named}
use Rattle.script_text.specs.declared.line.Line.{Line}
use Rattle.script_text.specs.declared.line.Line.TheVariants as script_line
use Rattle.script_text.specs.declared.fault.LineError.TheVariants as error
use Rattle.script_text.specs.declared.step.ProgStep.{ProgStep}
use Rattle.script_text.specs.declared.step.ProgStep.TheVariants as step
use Rattle.script_text.specs.declared.step.StepLine.{StepLine}
use Rattle.script_text.specs.declared.step.StepLine.TheVariants as line
use Rattle.script_text.specs.declared.step.When.{When}
use Rattle.script_text.specs.declared.step_word.StepKeyword.{StepKeyword}
use Rattle.script_text.specs.declared.step_word.StepKeyword.TheVariants as keyword
use Rattle.script_text.specs.declared.step_word.TheConstants.{MAX_PLACE}
use Rattle.script_text.specs.Reading.{Reading, both, map_reading}
use Rattle.script_text.specs.Argument as argument
use Rattle.script_text.specs.Calls.{parse_call}
use Rattle.script_text.specs.Line.{bytes_in, parse_words}
use Rattle.script_text.specs.StepWords.{keyword_named, number_condition, plain_condition}

-- ---- lines before steps

-- the labels that words denote, where each denotes one
abbrev pub labels_of : PolicyNames → List (List ℕ) → Option (List Label)
labels_of policy [] = Some []
labels_of policy (w ∷ ws) = option_and_then (λ at. option_map (λ others. at ∷ others) (labels_of policy ws)) (parse_label policy w)

-- labels
unfoldable pub labels : PolicyNames → List (List ℕ) → Reading (List Label)
labels policy words = ok_or (labels_of policy words) error.BadLabel

-- what stands after `slices`: one label or more
unfoldable pub parse_slices : PolicyNames → List (List ℕ) → Reading StepLine
parse_slices policy [] = Err error.Syntax
parse_slices policy (w ∷ ws) = map_reading line.Slices (labels policy (w ∷ ws))

-- what stands after `rounds`: a number
unfoldable pub parse_rounds : List (List ℕ) → Reading StepLine
parse_rounds (n ∷ []) = map_reading line.Rounds (argument.number n)
parse_rounds _ = Err error.Syntax

-- what stands after `program`: a tag, which stands bare
unfoldable pub parse_program : PolicyNames → List LineWord → Reading StepLine
parse_program policy (tag ∷ []) = cond tag.quoted (Err error.Syntax) (map_reading line.Program (argument.tag policy tag.bytes))
parse_program policy _ = Err error.Syntax

-- ---- steps

abbrev pub call_by : PolicyNames → List (List ℕ) → Option CallName → Reading Call
call_by policy arguments None = Err error.Syntax
call_by policy arguments (Some call) = parse_call policy call arguments

-- what stands after `do`: a call, which stands bare, and its arguments
unfoldable pub parse_do : PolicyNames → List LineWord → Reading Call
parse_do policy (name ∷ arguments) = cond name.quoted (Err error.Syntax) (call_by policy (bytes_in arguments) (call_named name.bytes))
parse_do policy [] = Err error.Syntax

-- a jump to the step with a number
abbrev pub jump_by : Reading When → List ℕ → Reading ProgStep
jump_by when to = map_reading (λ args. step.Jump args.0 args.1) (both when (argument.up_to MAX_PLACE to))

-- what stands after `jump`: a condition, and the number of a step
unfoldable pub parse_jump : List (List ℕ) → Reading ProgStep
parse_jump (w ∷ to ∷ []) = jump_by (plain_condition w) to
parse_jump (w ∷ n ∷ to ∷ []) = jump_by (number_condition w n) to
parse_jump _ = Err error.Syntax

-- what stands after `stop`: nothing
unfoldable pub parse_stop : List LineWord → Reading ProgStep
parse_stop [] = Ok step.Stop
parse_stop _ = Err error.Syntax

-- a step, by its keyword and the words after it
unfoldable pub step_by : PolicyNames → StepKeyword → List LineWord → Reading ProgStep
step_by policy keyword.Do words = map_reading step.Do (parse_do policy words)
step_by policy keyword.Jump words = parse_jump (bytes_in words)
step_by policy keyword.Stop words = parse_stop words
step_by policy _ words = Err error.Syntax

-- ---- lines

-- a line, by its keyword and the words after it
unfoldable pub line_by : PolicyNames → Option StepKeyword → List LineWord → Reading StepLine
line_by policy None words = Err error.Syntax
line_by policy (Some keyword.Slices) words = parse_slices policy (bytes_in words)
line_by policy (Some keyword.Rounds) words = parse_rounds (bytes_in words)
line_by policy (Some keyword.Program) words = parse_program policy words
line_by policy (Some k) words = map_reading line.One (step_by policy k words)

-- what words say, of which the first stands bare
unfoldable pub step_of_words : PolicyNames → List LineWord → Reading StepLine
step_of_words policy (first ∷ words) = cond first.quoted (Err error.Syntax) (line_by policy (keyword_named first.bytes) words)
step_of_words policy [] = Err error.Syntax

abbrev pub parse_step_words : PolicyNames → Option (List LineWord) → Reading StepLine
parse_step_words policy None = Err error.Syntax
parse_step_words policy (Some words) = step_of_words policy words

-- what a line of programs says, or its first fault
unfoldable pub parse_step : PolicyNames → List ℕ → Reading StepLine
parse_step policy text =
    cond (nat_lt MAX_LINE (length text)) (Err error.TooLong)
    (cond (is_blank text) (Ok line.Blank)
    (parse_step_words policy (words_of text)))

-- a step may be made, where top is the highest label
abbrev pub MayBeMade : Label → ProgStep → Type 0
MayBeMade top (step.Do call) = (is_call top call ≡ true) × (has_names call ≡ true)
MayBeMade top (step.Jump when to) = Unit {0}
MayBeMade top step.Stop = Unit {0}

-- what a line of programs says may be played, where top is the highest label
abbrev pub StepMayBePlayed : Label → StepLine → Type 0
StepMayBePlayed top line.Blank = Unit {0}
StepMayBePlayed top (line.Slices labels) = list_all (dominates top) labels ≡ true
StepMayBePlayed top (line.Rounds n) = Unit {0}
StepMayBePlayed top (line.Program who) = is_number top who ≡ true
StepMayBePlayed top (line.One made) = MayBeMade top made

-- ---- calls of programs and of scripts

-- whether the first of words names a utility, and no call
abbrev pub begins_with_tool : Option (List LineWord) → Bool
begins_with_tool (Some (name ∷ words)) = is_none (call_named name.bytes) && is_some (tool_named name.bytes)
begins_with_tool _ = false

-- the step that makes the call of a line of a script
abbrev pub step_of_line : Reading Line → Reading StepLine
step_of_line (Ok (script_line.One who call)) = Ok (line.One (step.Do call))
step_of_line (Ok _) = Err error.Syntax
step_of_line (Err fault) = Err fault

-- a line that begins with `do` is judged as the line of a script that has the tag of a process in place of `do`, but for its length; a utility is a fault of form
abbrev pub DoLine : Type 0
DoLine = (policy : PolicyNames) (tag rest : List ℕ) (who : Pid) → is_bare_text tag ≡ true → argument.process_of_tag policy tag ≡ Some who → is_apart rest ≡ true
    → parse_step policy (codes "do" ++ rest) ≡
    cond (nat_lt MAX_LINE (length (codes "do" ++ rest))) (Err error.TooLong)
    (cond (begins_with_tool (words_of rest)) (Err error.Syntax)
    (step_of_line (parse_words policy (words_of (tag ++ rest)))))
