-- The text of a label: `level`, `level:category,category`, `level/grade` or `level:category,category/grade`.
use Rattle.std.specs.Prelude.{◌≡◌, ℕ, ◌+◌, ◌-◌, ◌≤◌, ◌<◌, Bool, true, false, ◌&&◌, ◌==◌, nat_lt, cond, List, [], ◌∷◌, ◌++◌, length, take, get_or, Option, None, Some, option_and_then, is_some}
use Rattle.std.specs.Option.{option_map, option_or, option_to_list}
use Rattle.std.specs.List.{list_all, list_any, before_first}
use Rattle.fs_path.specs.Split.{pieces_of_rest, after_first_of}
use Rattle.lab_lattice.specs.Cats.{CatSet, has_cat}
use Rattle.lab_lattice.specs.Grade.{Grade, highest_grade}
use Rattle.lab_lattice.specs.Label.{Label}
use Rattle.lab_text.specs.Names.{Names, is_label_name, same_bytes, place_of}
use Rattle.lab_text.specs.Policy.{PolicyNames, grade_at, label_with}
use Rattle.lab_text.specs.declared.text.LabelError.{LabelError}
use Rattle.lab_text.specs.declared.text.LabelError.TheVariants as error

abbrev pub is_slash : ℕ → Bool
is_slash b = b == 47

abbrev pub is_colon : ℕ → Bool
is_colon b = b == 58

-- ---- the grammar

-- the names in a label's text
pub record LabelWords : Type 0 where
  pub level : List ℕ
  pub cats : Names
  pub grade : Option (List ℕ)

-- the text before a slash
abbrev pub before_slash : List ℕ → List ℕ
before_slash text = before_first is_slash text

-- the text before a colon, the pieces between commas after it, and the text after a slash
abbrev pub parts_of : List ℕ → LabelWords
parts_of text = record {
  level = before_first is_colon (before_slash text);
  cats = pieces_of_rest 44 (after_first_of 58 (before_slash text));
  grade = after_first_of 47 text;
}

-- whether each can be the name of its part
abbrev pub are_names : LabelWords → Bool
are_names w = is_label_name w.level && list_all is_label_name w.cats && list_all is_label_name (option_to_list w.grade)

-- the names in a text that has the form of a label's: a name, then `:` and a comma list of names or nothing, then `/` and a name or
-- nothing
unfoldable pub label_words : List ℕ → Option LabelWords
label_words text = cond (are_names (parts_of text)) (Some (parts_of text)) None

-- whether a text has the form of a label's
abbrev pub is_label_text : List ℕ → Bool
is_label_text text = is_some (label_words text)

-- ---- the label that a text denotes

-- the places of names in their list, where each is in it
abbrev pub places_of : Names → Names → Option (List ℕ)
places_of names [] = Some []
places_of names (w ∷ ws) = option_and_then (λ i. option_map (λ is. i ∷ is) (places_of names ws)) (place_of names w)

-- the grade of a name, where it is in its list, and 15 where no grade is named
abbrev pub grade_named : Names → Option (List ℕ) → Option Grade
grade_named names None = Some highest_grade
grade_named names (Some word) = option_map (grade_at names) (place_of names word)

-- the label of a level, categories and a grade, where there are all of these
abbrev pub label_of_parts : Option ℕ → Option (List ℕ) → Option Grade → Option Label
label_of_parts level cats grade = option_and_then (λ level. option_and_then (λ cats. option_map (label_with level cats) grade) cats) level

-- the label of names
abbrev pub label_of : PolicyNames → LabelWords → Option Label
label_of p w = label_of_parts (place_of p.levels w.level) (places_of p.cats w.cats) (grade_named p.grades w.grade)

-- the label that a text denotes
unfoldable pub parse_label : PolicyNames → List ℕ → Option Label
parse_label p text = option_and_then (label_of p) (label_words text)

-- ---- why a text denotes none

-- bytes that begin some label's text
pub record CanGoOn (prefix : List ℕ) : Type 0 where
  pub rest : List ℕ
  pub is_label : is_label_text (prefix ++ rest) ≡ true

-- a text has not the form of a label's, and this is the first place at which no text of that form goes on as it does, or its length
-- where it ends too early
pub record Breaks (text : List ℕ) (at : ℕ) : Type 0 where
  pub is_none : is_label_text text ≡ false
  pub within : at ≤ length text
  pub so_far : CanGoOn (take at text)
  pub no_further : at < length text → (rest : List ℕ) → is_label_text (take (at + 1) text ++ rest) ≡ false

-- the place of the first name that is not in a list, among names with one byte between them, the first of them at a place
abbrev pub first_unknown : Names → ℕ → Names → Option ℕ
first_unknown known at [] = None
first_unknown known at (w ∷ ws) = cond (list_any (same_bytes w) known) (first_unknown known (at + length w + 1) ws) (Some at)

-- the first name that the policy does not know, in a text of these names
abbrev pub unknown_in : PolicyNames → List ℕ → LabelWords → Option LabelError
unknown_in p text w =
    option_or (option_map error.UnknownLevel (first_unknown p.levels 0 (w.level ∷ [])))
    (option_or (option_map error.UnknownCategory (first_unknown p.cats (length w.level + 1) w.cats))
    (option_map error.UnknownGrade (first_unknown p.grades (length (before_slash text) + 1) (option_to_list w.grade))))

-- a text denotes no label for this cause: its form, and only then its first unknown name
abbrev pub SaysNone : PolicyNames → List ℕ → LabelError → Type 0
SaysNone p text (error.Syntax at) = Breaks text at
SaysNone p text e = option_and_then (unknown_in p text) (label_words text) ≡ Some e

-- ---- the text that is written

-- the names whose places, counted from i, are in a set
abbrev pub names_in : CatSet → ℕ → Names → Names
names_in cats i [] = []
names_in cats i (n ∷ ns) = cond (has_cat cats i) (n ∷ names_in cats (i + 1) ns) (names_in cats (i + 1) ns)

-- names, the first after a mark and each further one after a comma
abbrev pub past_mark : ℕ → Names → List ℕ
past_mark mark [] = []
past_mark mark (n ∷ ns) = mark ∷ n ++ past_mark 44 ns

-- the name of a grade, or no bytes where it has none
abbrev pub grade_name : Names → Grade → List ℕ
grade_name names grade = cond (nat_lt (grade.number + length names) 16) [] (get_or names (grade.number + length names - 16) [])

-- the name that is written for a grade: none for 15
abbrev pub written_grade : Names → Grade → Option (List ℕ)
written_grade names grade = cond (grade.number == 15) None (Some (grade_name names grade))

-- a slash and a name, if there is one
abbrev pub past_slash : Option (List ℕ) → List ℕ
past_slash None = []
past_slash (Some n) = 47 ∷ n

-- the level's name, after a colon the names of the categories in the policy's order, and after a slash the grade's name
unfoldable pub label_text : PolicyNames → Label → List ℕ
label_text p label = (get_or p.levels label.first.first [] ++ past_mark 58 (names_in label.first.second 0 p.cats)) ++ past_slash (written_grade p.grades label.second.inner)
