-- Names and labels can be written as bare words of a line.
use Rattle.std.specs.Prelude.{◌≡◌, ℕ, ◌&&◌, nat_le, nat_lt, true, List, [], ◌∷◌, ◌++◌, length, Option, None, Some, refl}
use Rattle.std.proofs.Common.{ap, ◌∙◌, arith}
use Rattle.std.specs.List.{list_all}
use Rattle.std.specs.Option.{option_to_list}
use Rattle.std.proofs.lemmas.Bool.{and_parts, and_from, ltb-true, lt-ltb}
use Rattle.std.proofs.lemmas.Bool.Decides.{nat_tests}
use Rattle.std.proofs.lemmas.List.{length-append}
use Rattle.std.proofs.lemmas.List.Folds.{list_all-append}
use Rattle.fs_path.specs.Words.{is_bare, is_bare_text}
use Rattle.lab_lattice.specs.Label.{Label}
use Rattle.lab_text.specs.Names.{is_letter, is_name_part, is_label_name}
use Rattle.lab_text.specs.Policy.{PolicyNames, MakePolicy, is_valid}
use Rattle.lab_text.specs.Text.{past_mark, past_slash, label_text}
use Rattle.lab_text.proofs.Parsed.{text_names}
use Rattle.lab_text.proofs.PartLemmas.{name_parts, parts_all, marked_all}

-- ---- words

-- each byte of a bare word may be in one
pub all_bare : (w : List ℕ) → is_bare_text w ≡ true → list_all is_bare w ≡ true
all_bare w bare = (and_parts (nat_lt 0 (length w)) (list_all is_bare w) bare).1

-- a bare word with further bytes that bare words may have is a bare word
pub bare_with : (a b : List ℕ) → is_bare_text a ≡ true → list_all is_bare b ≡ true → is_bare_text (a ++ b) ≡ true
bare_with a b first second =
    let some = ltb-true 0 (length a) (and_parts (nat_lt 0 (length a)) (list_all is_bare a) first).0 in
    let size = length-append a b in
    and_from (nat_lt 0 (length (a ++ b))) _ (lt-ltb 0 (length (a ++ b)) (omega arith)) (list_all-append is_bare a b ∙ and_from _ _ (all_bare a first) second)

-- a byte and further bytes that bare words may have are a bare word
pub bare_begins : (b : ℕ) (w : List ℕ) → is_bare b ≡ true → list_all is_bare w ≡ true → is_bare_text (b ∷ w) ≡ true
bare_begins b w first rest = and_from (nat_lt 0 (length (b ∷ w))) _ (lt-ltb 0 (length (b ∷ w)) (omega arith)) (and_from (is_bare b) (list_all is_bare w) first rest)

-- ---- labels

letter_bare : (b : ℕ) → is_letter b ≡ true → is_bare b ≡ true
letter_bare b h = grind (arith, nat_tests)

part_bare : (b : ℕ) → is_name_part b ≡ true → is_bare b ≡ true
part_bare b h = grind (arith, nat_tests)

-- the name of a level, of a category or of a grade is a bare word
pub label_name_bare : (n : List ℕ) → is_label_name n ≡ true → is_bare_text n ≡ true
label_name_bare [] h = absurd (cc)
label_name_bare (b ∷ bs) h =
    let parts = and_parts (is_letter b && nat_le (length bs) 30) (list_all is_name_part bs) h in
    bare_begins b bs (letter_bare b (and_parts (is_letter b) (nat_le (length bs) 30) parts.0).0) (parts_all is_bare part_bare bs parts.1)

-- a slash and the name of a grade, if there is one
graded_bare : (g : Option (List ℕ)) → list_all is_label_name (option_to_list g) ≡ true → list_all is_bare (past_slash g) ≡ true
graded_bare None h = refl
graded_bare (Some n) h = and_from (is_bare 47) (list_all is_bare n) refl (parts_all is_bare part_bare n (name_parts n (and_parts (is_label_name n) true h).0))

-- the text of a valid label is a bare word
pub label_bare : (p : PolicyNames) (label : Label) → MakePolicy p → is_valid p label ≡ true → is_bare_text (label_text p label) ≡ true
label_bare p label h valid =
    let names = text_names p label h valid in
    let secrecy = bare_with names.level (past_mark 58 names.cats) (label_name_bare names.level names.level_name) (marked_all is_bare part_bare 58 names.cats refl refl names.cat_names) in
    ap is_bare_text names.text_is ∙ bare_with (names.level ++ past_mark 58 names.cats) (past_slash names.grade) secrecy (graded_bare names.grade names.grade_names)
