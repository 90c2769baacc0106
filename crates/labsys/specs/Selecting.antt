-- What is written of a trail of which some records are picked.
use Rattle.std.specs.Prelude.{ℕ, cond, List, [], ◌∷◌, ◌++◌, Result, Ok, Err, filter, length}
use Rattle.std.specs.List.{flat_map}
use Rattle.lab_text.specs.Policy.{PolicyNames}
use Rattle.line_text.specs.declared.fault.LineFault.TheVariants as fault
use Rattle.aud_record.specs.declared.reading.ReadRec.{ReadRec}
use Rattle.aud_red.specs.declared.select.Select.{Select}
use Rattle.aud_red.specs.declared.select.SelectError.{SelectError}
use Rattle.aud_red.specs.declared.select.SelectError.TheVariants as error
use Rattle.aud_red.specs.declared.trail.Trail.{Trail}
use Rattle.aud_red.specs.Json.{json_line}
use Rattle.aud_red.specs.Select.{parse_select, picks}
use Rattle.lab_engine.specs.declared.ending.CommandWord.TheVariants as command_word
use Rattle.lab_engine.specs.declared.ending.InputEnd.{InputEnd}
use Rattle.lab_engine.specs.declared.ending.InputEnd.TheVariants.{Whole, RefusedWord}
use Rattle.lab_engine.specs.Texts.{last_text}
use Rattle.labsys.specs.declared.trails.ReadTrail.{ReadTrail}
use Rattle.labsys.specs.declared.trails.ReadTrail.TheVariants as read_is

-- ---- a selection

-- the line of a record: its JSON text, where it is picked
abbrev pub selected_line : PolicyNames → Select → ReadRec → List ℕ
selected_line policy select r = cond (picks select r.rec) (json_line policy r ++ 10 ∷ []) []

-- how many records are picked
abbrev pub count_selected : Select → List ReadRec → ℕ
count_selected select recs = length (filter (λ (r : ReadRec). picks select r.rec) recs)

-- the lines of the records of a trail that are picked, and their number
unfoldable pub selected_text : Select → Trail → List ℕ
selected_text select t =
    flat_map (selected_line t.policy select) t.recs ++ last_text (count_selected select t.recs) Whole

-- ---- the word of a selection

-- how an input ends where the word denotes no selection
abbrev pub ending_of_select : SelectError → InputEnd
ending_of_select error.Syntax = RefusedWord command_word.Select fault.Syntax
ending_of_select error.UnknownName = RefusedWord command_word.Select fault.UnknownName

-- how an input ends by what the word denotes
abbrev pub ending_of_selection : Result Select SelectError → InputEnd
ending_of_selection (Ok select) = Whole
ending_of_selection (Err e) = ending_of_select e

-- what is written of a trail, by what the word denotes; where it denotes no selection, that refusal alone
abbrev pub text_of_selection : Trail → Result Select SelectError → List ℕ
text_of_selection t (Ok select) = selected_text select t
text_of_selection t (Err e) = last_text 0 (ending_of_select e)

-- ---- an input

-- what is written of an input by the word; without a trail it is the last line alone
abbrev pub text_of_select : List ℕ → ReadTrail → List ℕ
text_of_select word (read_is.Trail t) = text_of_selection t (parse_select t.policy word)
text_of_select word (read_is.Ended ending) = last_text 0 ending

-- how an input ends by the word
abbrev pub ending_by_word : List ℕ → ReadTrail → InputEnd
ending_by_word word (read_is.Trail t) = ending_of_selection (parse_select t.policy word)
ending_by_word word (read_is.Ended ending) = ending
