-- The texts of the trail are printable, and all but those of notes are plain: they have neither `"` nor `\`.
use Rattle.std.specs.Prelude.{◌≡◌, ℕ, zero, suc, ◌+◌, ◌/◌, ◌%◌, ◌<◌, ◌^◌, ◌==◌, ◌||◌, nat_le, nat_lt, Bool, true, false, cond, List, [], ◌∷◌, ◌++◌, None, Some, length, get_or, refl}
use Rattle.std.specs.Fmt.{decimal}
use Rattle.std.specs.List.{flat_map, list_all}
use Rattle.std.specs.Str.{IsAscii, IsUtf8}
use Rattle.std.proofs.Common.{◌∙◌, arith}
use Rattle.std.proofs.lemmas.Bool.{and_parts, and_from, cond_both, le-leb, ltb-true, leb-true}
use Rattle.std.proofs.lemmas.Bool.Decides.{nat_tests}
use Rattle.std.proofs.lemmas.List.Folds.{list_all-append}
use Rattle.std.proofs.lemmas.Str.{IsUtf8-from_ascii}
use Rattle.cap_bits.specs.Cap.{cap_name}
use Rattle.cap_bits.specs.declared.cap.Cap.{Cap}
use Rattle.cap_bits.specs.declared.cap.Cap.TheVariants as cap
use Rattle.cap_bits.specs.declared.state.CapState.{CapState}
use Rattle.cap_clause.specs.Written.{caps_text}
use Rattle.cap_clause.proofs.Steps.{all_weaker}
use Rattle.cap_clause.proofs.WrittenRoundTrip.{caps_text_plain}
use Rattle.fs_path.specs.Words.{is_plain, is_bare, is_bare_text, hex_digit, item_text}
use Rattle.fs_path.proofs.RoundTrip.{decimal_bare}
use Rattle.lab_lattice.specs.Label.{Label}
use Rattle.lab_text.specs.Names.{Names, is_label_name}
use Rattle.lab_text.specs.Numbered.{numbered_text}
use Rattle.lab_text.specs.Policy.{PolicyNames, MakePolicy}
use Rattle.lab_text.specs.Text.{names_in, past_mark, grade_name, past_slash, written_grade, label_text}
use Rattle.lab_text.specs.declared.lists.NameList.{NameList}
use Rattle.lab_text.specs.declared.lists.NameList.TheVariants.{Levels, Categories, Grades}
use Rattle.lab_text.proofs.BareLemmas.{all_bare, label_name_bare}
use Rattle.lab_text.proofs.PolicyFacts.{policy_facts}
use Rattle.kern_model.specs.Names.{word_of, check_word, errno_word, place_text}
use Rattle.kern_model.specs.declared.calls.CallName.{CallName}
use Rattle.kern_model.specs.declared.calls.CallName.TheVariants as name
use Rattle.kern_model.specs.declared.calls.Ending.{Ending}
use Rattle.kern_model.specs.declared.calls.Ending.TheVariants as ending
use Rattle.kern_model.specs.declared.calls.Errno.{Errno}
use Rattle.kern_model.specs.declared.calls.Errno.TheVariants as errno
use Rattle.kern_model.specs.declared.checks.CheckName.{CheckName}
use Rattle.kern_model.specs.declared.checks.CheckName.TheVariants as check
use Rattle.kern_model.specs.declared.checks.Place.{Place}
use Rattle.kern_model.specs.declared.checks.Place.TheVariants as place
use Rattle.line_text.specs.Ranges.{are_bytes, PlaceInRange}
use Rattle.aud_record.specs.Events.{event_word}
use Rattle.aud_record.specs.Written.{switch_word}
use Rattle.aud_record.specs.declared.event.Event.{Event}
use Rattle.aud_record.specs.declared.event.Event.TheVariants as event
use Rattle.aud_red.specs.Json.{is_printable, are_printable, ending_kind}
use Rattle.aud_red.specs.Objects.{are_plain}

-- ---- bytes

plain_byte : (b : ℕ) → is_plain b ≡ true → is_printable b ≡ true
plain_byte b h = grind (arith, nat_tests)

bare_byte : (b : ℕ) → is_bare b ≡ true → is_plain b ≡ true
bare_byte b h = (and_parts (is_plain b) _ h).0

printable_small : (b : ℕ) → is_printable b ≡ true → b < 128
printable_small b h = let high = leb-true b 126 (and_parts (nat_le 32 b) (nat_le b 126) h).1 in omega arith

printable_ascii : (text : List ℕ) → are_printable text ≡ true → IsAscii text
printable_ascii [] h i = omega arith
printable_ascii (b ∷ bs) h zero = printable_small b (and_parts (is_printable b) (are_printable bs) h).0
printable_ascii (b ∷ bs) h (suc i) = printable_ascii bs (and_parts (is_printable b) (are_printable bs) h).1 i

pub printable_utf8 : (text : List ℕ) → are_printable text ≡ true → IsUtf8 text
printable_utf8 text h = IsUtf8-from_ascii text (printable_ascii text h)

-- ---- texts

pub append_printable : (a b : List ℕ) → are_printable a ≡ true → are_printable b ≡ true → are_printable (a ++ b) ≡ true
append_printable a b first second = list_all-append is_printable a b ∙ and_from _ _ first second

pub append_plain : (a b : List ℕ) → are_plain a ≡ true → are_plain b ≡ true → are_plain (a ++ b) ≡ true
append_plain a b first second = list_all-append is_plain a b ∙ and_from _ _ first second

pub plain_printable : (text : List ℕ) → are_plain text ≡ true → are_printable text ≡ true
plain_printable text plain = all_weaker is_plain is_printable text plain_byte plain

bare_text_plain : (w : List ℕ) → is_bare_text w ≡ true → are_plain w ≡ true
bare_text_plain w bare = all_weaker is_bare is_plain w bare_byte (all_bare w bare)

pub of_decimal : (n : ℕ) → n < 2 ^ 64 → are_plain (decimal n) ≡ true
of_decimal n small = bare_text_plain (decimal n) (decimal_bare n small)

pub of_caps : (s : CapState) → are_plain (caps_text s) ≡ true
of_caps s = caps_text_plain s

pub of_place : (x : Place) → PlaceInRange x → are_plain (place_text x) ≡ true
of_place (place.First n) small = of_decimal n (omega arith)
of_place (place.Second n) small = of_decimal n (omega arith)
of_place _ small = refl

-- ---- words

pub of_event : (e : Event) → are_plain (event_word e) ≡ true
of_event event.Boot = refl
of_event _ = refl

pub of_cap : (c : Cap) → are_plain (cap_name c) ≡ true
of_cap cap.Chown = refl
of_cap _ = refl

pub of_check : (c : CheckName) → are_plain (check_word c) ≡ true
of_check check.MacRead = refl
of_check _ = refl

pub of_errno : (e : Errno) → are_plain (errno_word e) ≡ true
of_errno errno.EACCES = refl
of_errno _ = refl

pub of_call : (c : CallName) → are_plain (word_of c) ≡ true
of_call name.OpenPath = refl
of_call _ = refl

pub of_kind : (e : Ending) → are_plain (ending_kind e) ≡ true
of_kind (ending.Exit code) = refl
of_kind ending.Term = refl
of_kind ending.Kill = refl

pub of_switch : (on : Bool) → are_plain (switch_word on) ≡ true
of_switch true = refl
of_switch false = refl

-- ---- labels

name_plain : (n : List ℕ) → is_label_name n ≡ true → are_plain n ≡ true
name_plain n h = bare_text_plain n (label_name_bare n h)

name_at_plain : (names : Names) (i : ℕ) → list_all is_label_name names ≡ true → are_plain (get_or names i []) ≡ true
name_at_plain [] i h = refl
name_at_plain (n ∷ ns) zero h = name_plain n (and_parts (is_label_name n) (list_all is_label_name ns) h).0
name_at_plain (n ∷ ns) (suc i) h = name_at_plain ns i (and_parts (is_label_name n) (list_all is_label_name ns) h).1

cats_plain : (label : Label) (mark i : ℕ) (names : Names) → is_plain mark ≡ true → list_all is_label_name names ≡ true → are_plain (past_mark mark (names_in label.first.second i names)) ≡ true
cats_plain label mark i [] marked h = refl
cats_plain label mark i (n ∷ ns) marked h =
    let parts = and_parts (is_label_name n) (list_all is_label_name ns) h in
    cond_both _ (n ∷ names_in label.first.second (i + 1) ns) (names_in label.first.second (i + 1) ns) (λ written. are_plain (past_mark mark written) ≡ true)
    (λ _. and_from (is_plain mark) _ marked (append_plain n _ (name_plain n parts.0) (cats_plain label 44 (i + 1) ns refl parts.1)))
    (λ _. cats_plain label mark (i + 1) ns marked parts.1)

grade_plain : (names : Names) (label : Label) → list_all is_label_name names ≡ true → are_plain (past_slash (written_grade names label.second.inner)) ≡ true
grade_plain names label h =
    let number = label.second.inner.number in let at = number + length names in
    cond_both (number == 15) None (Some (grade_name names label.second.inner)) (λ written. are_plain (past_slash written) ≡ true)
    (λ _. refl)
    (λ _. cond_both (nat_lt at 16) [] _ (λ written. are_plain (47 ∷ written) ≡ true) (λ _. refl) (λ _. name_at_plain names _ h))

-- the text of a label is plain, also where the label is not valid
pub of_label : (p : PolicyNames) (label : Label) → MakePolicy p → are_plain (label_text p label) ≡ true
unfolding label_text
of_label p label h =
    let named = λ (list : NameList). (policy_facts p h list).named in
    append_plain (get_or p.levels label.first.first [] ++ past_mark 58 (names_in label.first.second 0 p.cats)) _
    (append_plain (get_or p.levels label.first.first []) _ (name_at_plain p.levels label.first.first (named Levels)) (cats_plain label 58 0 p.cats refl (named Categories)))
    (grade_plain p.grades label (named Grades))

pub of_numbered : (p : PolicyNames) (n : ℕ) (label : Label) → MakePolicy p → n < 2 ^ 16 → are_plain (numbered_text p n label) ≡ true
unfolding numbered_text
of_numbered p n label h small =
    append_plain (decimal n) (64 ∷ label_text p label) (of_decimal n (omega arith)) (and_from (is_plain 64) _ refl (of_label p label h))

-- ---- notes

digit_printable : (n : ℕ) → n < 16 → is_printable (hex_digit n) ≡ true
digit_printable n small =
    cond_both (nat_le n 9) (48 + n) (87 + n) (λ d. is_printable d ≡ true)
    (λ low. let le = leb-true n 9 low in and_from _ _ (le-leb 32 (48 + n) (omega arith)) (le-leb (48 + n) 126 (omega arith)))
    (λ _. and_from _ _ (le-leb 32 (87 + n) (omega arith)) (le-leb (87 + n) 126 (omega arith)))

marked_printable : (b : ℕ) → (b == 34 || b == 92) ≡ true → is_printable b ≡ true
marked_printable b h = grind (arith, nat_tests)

item_printable : (b : ℕ) → b < 256 → are_printable (item_text b) ≡ true
item_printable b small =
    cond_both (b == 34 || b == 92) (92 ∷ b ∷ []) (cond (is_plain b) (b ∷ []) (92 ∷ 120 ∷ hex_digit (b / 16) ∷ hex_digit (b % 16) ∷ [])) (λ t. are_printable t ≡ true)
    (λ mark. and_from (is_printable b) true (marked_printable b mark) refl)
    (λ _. cond_both (is_plain b) (b ∷ []) (92 ∷ 120 ∷ hex_digit (b / 16) ∷ hex_digit (b % 16) ∷ []) (λ t. are_printable t ≡ true)
    (λ plain. and_from (is_printable b) true (plain_byte b plain) refl)
    (λ _. and_from _ _ (digit_printable (b / 16) (omega arith)) (and_from _ _ (digit_printable (b % 16) (omega arith)) refl)))

pub of_items : (bytes : List ℕ) → are_bytes bytes ≡ true → are_printable (flat_map item_text bytes) ≡ true
of_items [] all = refl
of_items (b ∷ bs) all =
    let parts = and_parts (nat_lt b 256) (are_bytes bs) all in
    append_printable (item_text b) (flat_map item_text bs) (item_printable b (ltb-true b 256 parts.0)) (of_items bs parts.1)
