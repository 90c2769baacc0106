-- The words of lines of programs: their keywords, and the conditions of jumps.
use Rattle.std.specs.Prelude.{ℕ, cond, List, [], ◌∷◌, Option, Err, codes}
use Rattle.kern_model.specs.Named.{find_named}
use Rattle.lab_text.specs.Names.{same_bytes}
use Rattle.script_text.specs.declared.fault.LineError.TheVariants as error
use Rattle.script_text.specs.declared.step.When.{When}
use Rattle.script_text.specs.declared.step.When.TheVariants.{Always, Fresh, Done, Denied, Refused, Number}
use Rattle.script_text.specs.declared.step_word.StepKeyword.{StepKeyword}
use Rattle.script_text.specs.declared.step_word.StepKeyword.TheVariants.{Slices, Rounds, Program, Do, Jump, Stop}
use Rattle.script_text.specs.Reading.{Reading, map_reading}
use Rattle.script_text.specs.Argument as argument

-- how a keyword is written
abbrev pub keyword_word : StepKeyword → List ℕ
keyword_word Slices = codes "slices"
keyword_word Rounds = codes "rounds"
keyword_word Program = codes "program"
keyword_word Do = codes "do"
keyword_word Jump = codes "jump"
keyword_word Stop = codes "stop"

-- each keyword once
abbrev pub all_keywords : List StepKeyword
all_keywords = Slices ∷ Rounds ∷ Program ∷ Do ∷ Jump ∷ Stop ∷ []

-- the keyword with a word
abbrev pub keyword_named : List ℕ → Option StepKeyword
keyword_named = find_named keyword_word all_keywords

-- the first word of a condition
abbrev pub condition_word : When → List ℕ
condition_word Always = codes "always"
condition_word Fresh = codes "fresh"
condition_word Done = codes "done"
condition_word Denied = codes "denied"
condition_word Refused = codes "refused"
condition_word (Number n) = codes "number"

-- each condition of one word
abbrev pub plain_conditions : List When
plain_conditions = Always ∷ Fresh ∷ Done ∷ Denied ∷ Refused ∷ []

-- the condition of one word with a word
abbrev pub condition_named : List ℕ → Option When
condition_named = find_named condition_word plain_conditions

-- a condition of one word
unfoldable pub plain_condition : List ℕ → Reading When
plain_condition word = argument.value_or_syntax (condition_named word)

-- a condition of two words: `number` and a number
unfoldable pub number_condition : List ℕ → List ℕ → Reading When
number_condition word n = cond (same_bytes word (codes "number")) (map_reading Number (argument.number n)) (Err error.Syntax)
