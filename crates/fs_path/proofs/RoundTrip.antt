-- Round trips of words, numbers, modes, groups and lines.
use Rattle.std.specs.Prelude.{◌≡◌, ℕ, ◌+◌, ◌*◌, ◌-◌, ◌/◌, ◌%◌, ◌≤◌, ◌<◌, ◌^◌, ◌==◌, ◌&&◌, ◌||◌, not, nat_le, nat_lt, Bool, true, false, cond, List, [], ◌∷◌, ◌++◌, length, drop, map, Option, Some, All, refl}
use Rattle.std.proofs.Common.{sym, ◌∙◌, ap, subst, arith, inl, inr}
use Rattle.std.specs.Cmp.Lexicographic.{pointwise}
use Rattle.std.specs.Fmt.{decimal}
use Rattle.std.specs.List.{flat_map, list_all, slice_split}
use Rattle.std.specs.Option.{option_and_then, option_map}
use Rattle.std.proofs.lemmas.Bool.{cases_Bool, and_parts, and_from, or_cases, eqb-true, ne_eqb, leb-true, leb-false, ltb-true, lt-ltb, le-leb, lt-leb, cond-true, cond-false}
use Rattle.std.proofs.lemmas.Fmt.{decimal_by_steps, decimal_nonempty, length-decimal-le}
use Rattle.std.proofs.lemmas.List.{append-nil, length-append, length-map}
use Rattle.std.proofs.lemmas.List.Elements.{All-nil, All-cons}
use Rattle.std.proofs.lemmas.List.Folds.{list_all-append}
use Rattle.std.proofs.lemmas.List.Splits.{slice_split_none, slice_split_at}
use Rattle.std.proofs.Math.Seq.{drop-append_seam}
use Rattle.std.proofs.Math.Nat.{div-div-eq-div-mul}
use Rattle.fs_path.specs.declared.values.TheConstants.{MAX_MODE}
use Rattle.fs_path.specs.declared.words.LineWord.{LineWord}
use Rattle.fs_path.specs.Options.{keep_if}
use Rattle.fs_path.specs.Values.{is_digit, digits_value, numeral, number_of, is_mode, mode_of, numbers_of, few_numbers, groups_of, mode_text, after_commas, groups_text}
use Rattle.fs_path.specs.Words.{is_plain, is_bare, is_bare_text, hex_value, is_apart, words_of, hex_digit, item_text, quoted_text, suffix_after, has_spelling, with_quotes_if_needed, spelling, after_spaces, line_text}
use Rattle.fs_path.specs.LineForm.{IsItem, Plain, Quote, Backslash, Coded, AreItems, NoItem, ItemMore, IsSpelling, Bare, Quoted, HasWords, NoWord, WordMore}
use Rattle.fs_path.proofs.FormLemmas.{words_read}

-- ---- items between quotes

digit_round_trip : (n : ℕ) → n < 16 → hex_value (hex_digit n) ≡ Some n
digit_round_trip n small = elim (cases_Bool (nat_le n 9)) [ inl e ↦ low e | inr e ↦ high e ]
  where
    low : nat_le n 9 ≡ true → hex_value (hex_digit n) ≡ Some n
    low e =
        let le = leb-true n 9 e in
        let is : 48 + n - 48 ≡ n = omega arith in
        let over : nat_le 48 (48 + n) ≡ true = le-leb 48 (48 + n) (omega arith) in
        let under : nat_le (48 + n) 57 ≡ true = le-leb (48 + n) 57 (omega arith) in
        rw (e, over, under, is)

    high : nat_le n 9 ≡ false → hex_value (hex_digit n) ≡ Some n
    high e =
        let gt = leb-false n 9 e in
        let is : 87 + n - 87 ≡ n = omega arith in
        let no_digit : nat_le (87 + n) 57 ≡ false = lt-leb (87 + n) 57 (omega arith) in
        let above : nat_le 48 (87 + n) ≡ true = le-leb 48 (87 + n) (omega arith) in
        let over : nat_le 97 (87 + n) ≡ true = le-leb 97 (87 + n) (omega arith) in
        let under : nat_le (87 + n) 102 ≡ true = le-leb (87 + n) 102 (omega arith) in
        rw (e, above, no_digit, over, under, is)

-- a written byte is an item that denotes it
item_is : (b : ℕ) → b < 256 → IsItem b (item_text b)
item_is b small = elim (cases_Bool (b == 34 || b == 92)) [ inl e ↦ marked e | inr e ↦ elim (cases_Bool (is_plain b)) [ inl p ↦ plain e p | inr p ↦ coded e p ] ]
  where
    marked : (b == 34 || b == 92) ≡ true → IsItem b (item_text b)
    marked e =
        subst (IsItem b) (sym (cond-true _ _ _ e)) (elim (or_cases (b == 34) (b == 92) e) [
          | inl quote ↦ subst (λ n. IsItem n (92 ∷ n ∷ [])) (sym (eqb-true b 34 quote)) Quote
          | inr slash ↦ subst (λ n. IsItem n (92 ∷ n ∷ [])) (sym (eqb-true b 92 slash)) Backslash
        ])

    plain : (b == 34 || b == 92) ≡ false → is_plain b ≡ true → IsItem b (item_text b)
    plain e p = subst (IsItem b) (sym (cond-false _ _ _ e ∙ cond-true _ _ _ p)) (Plain b p)

    coded : (b == 34 || b == 92) ≡ false → is_plain b ≡ false → IsItem b (item_text b)
    coded e p =
        let digits = 92 ∷ 120 ∷ hex_digit (b / 16) ∷ hex_digit (b % 16) ∷ [] in
        let whole : 16 * (b / 16) + b % 16 ≡ b = omega arith in
        let item = Coded (hex_digit (b / 16)) (hex_digit (b % 16)) (b / 16) (b % 16) (digit_round_trip (b / 16) (omega arith)) (digit_round_trip (b % 16) (omega arith)) in
        subst (IsItem b) (sym (cond-false _ _ _ e ∙ cond-false _ _ _ p)) (subst (λ n. IsItem n digits) whole item)

items_are : (bytes : List ℕ) → list_all (λ b. nat_lt b 256) bytes ≡ true → AreItems bytes (flat_map item_text bytes)
items_are [] small = NoItem
items_are (b ∷ bs) small =
    let parts = and_parts (nat_lt b 256) (list_all (λ b. nat_lt b 256) bs) small in
    ItemMore b bs (item_text b) (flat_map item_text bs) (item_is b (ltb-true b 256 parts.0)) (items_are bs parts.1)

-- ---- numbers, modes and groups

value_push : (base v d : ℕ) (ds : List ℕ) → digits_value base v (ds ++ d ∷ []) ≡ base * digits_value base v ds + (d - 48)
unfolding digits_value
value_push base v d [] = refl
value_push base v d (x ∷ xs) = value_push base (base * v + (x - 48)) d xs

digit_is : (base k : ℕ) → k < base → is_digit base (48 + k) ≡ true
digit_is base k small = and_from (nat_le 48 (48 + k)) (nat_lt (48 + k) (48 + base)) (le-leb 48 (48 + k) (omega arith)) (lt-ltb (48 + k) (48 + base) (omega arith))

numeral_is : (base most high v : ℕ) (w : List ℕ) → 0 < length w → length w ≤ most → list_all (is_digit base) w ≡ true → digits_value base 0 w ≡ v → v ≤ high → numeral base most 0 high w ≡ Some v
unfolding numeral
numeral_is base most high v w some few digits is le =
    let low : nat_le 0 (digits_value base 0 w) ≡ true = le-leb 0 (digits_value base 0 w) (omega arith) in
    let high : nat_le (digits_value base 0 w) high ≡ true = le-leb (digits_value base 0 w) high (omega arith) in
    let kept = and_from _ _ (and_from _ _ (and_from _ _ (and_from _ _ (le-leb 1 (length w) (omega arith)) (le-leb (length w) most few)) digits) low) high in
    ap (λ t. keep_if t (digits_value base 0 w)) kept ∙ ap Some is

abbrev Spells : ℕ → List ℕ → Type 0
Spells n ds = (list_all (is_digit 10) ds ≡ true) × (digits_value 10 0 ds ≡ n)

decimal_spells : (n : ℕ) → n < 2 ^ 64 → Spells n (decimal n)
unfolding digits_value
decimal_spells = decimal_by_steps Spells (λ n small. (and_from (is_digit 10 (48 + n)) true (digit_is 10 n small) refl, omega arith)) more
  where
    more : (n : ℕ) (ds : List ℕ) → 10 ≤ n → Spells (n / 10) ds → Spells n (ds ++ (48 + n % 10) ∷ [])
    more n ds some h =
        let last : n % 10 < 10 = omega arith in (
          list_all-append (is_digit 10) ds ((48 + n % 10) ∷ []) ∙ and_from (list_all (is_digit 10) ds) (is_digit 10 (48 + n % 10) && true) h.0 (and_from (is_digit 10 (48 + n % 10)) true (digit_is 10 (n % 10) last) refl),
          value_push 10 0 (48 + n % 10) ds ∙ omega (arith, h.1),
        )

-- a written number is read as that number
pub number_round_trip : (n : ℕ) → n ≤ 4294967295 → number_of (decimal n) ≡ Some n
number_round_trip n small =
    let spells = decimal_spells n (omega arith) in
    numeral_is 10 10 4294967295 n (decimal n) (decimal_nonempty n (omega arith)) (length-decimal-le 10 n (omega arith) (omega arith) (omega arith)) spells.0 spells.1 small

value_four : (a b c d : ℕ) → digits_value 8 0 ((48 + a) ∷ (48 + b) ∷ (48 + c) ∷ (48 + d) ∷ []) ≡ 512 * a + 64 * b + 8 * c + d
unfolding digits_value
value_four a b c d = omega arith

-- a written mode is read as that mode
pub mode_round_trip : (m : ℕ) → is_mode m ≡ true → mode_of (mode_text m) ≡ Some m
unfolding mode_text
mode_round_trip m is =
    let small = leb-true m MAX_MODE (and_parts _ _ is).0 in
    let digit = λ (k : ℕ). digit_is 8 (k % 8) (omega arith) in
    let digits : list_all (is_digit 8) (mode_text m) ≡ true = and_from _ _ (digit (m / 512)) (and_from _ _ (digit (m / 64)) (and_from _ _ (digit (m / 8)) (and_from _ _ (digit m) refl))) in
    let sixty_four = div-div-eq-div-mul m 8 8 in
    let whole : 512 * (m / 512 % 8) + 64 * (m / 64 % 8) + 8 * (m / 8 % 8) + m % 8 ≡ m = omega (arith, sixty_four, div-div-eq-div-mul m 64 8) in
    ap (option_and_then (λ mode. keep_if (is_mode mode) mode)) (numeral_is 8 4 MAX_MODE m (mode_text m) (omega arith) (omega arith) digits (value_four (m / 512 % 8) (m / 64 % 8) (m / 8 % 8) (m % 8) ∙ whole) small)
    ∙ ap (λ t. keep_if t m) is

-- ---- lists of numbers

abbrev is_group : ℕ → Bool
is_group g = nat_le g 4294967295

digit_from : (d : ℕ) → is_digit 10 d ≡ true → (48 ≤ d) × (d < 58)
digit_from d is = let parts = and_parts (nat_le 48 d) (nat_lt d 58) is in (leb-true 48 d parts.0, ltb-true d 58 parts.1)

no_commas : (ds : List ℕ) → list_all (is_digit 10) ds ≡ true → All (λ b. (b == 44) ≡ false) ds
no_commas [] digits = All-nil (λ b. (b == 44) ≡ false)
no_commas (d ∷ ds) digits =
    let parts = and_parts (is_digit 10 d) (list_all (is_digit 10) ds) digits in
    let range = digit_from d parts.0 in
    All-cons (λ b. (b == 44) ≡ false) d ds (ne_eqb d 44 (λ is. omega arith)) (no_commas ds parts.1)

no_dash : (ds rest : List ℕ) → 0 < length ds → list_all (is_digit 10) ds ≡ true → pointwise ◌==◌ (ds ++ rest) (45 ∷ []) ≡ false
no_dash [] rest some digits = absurd (omega arith)
no_dash (d ∷ ds) rest some digits =
    let range = digit_from d (and_parts (is_digit 10 d) (list_all (is_digit 10) ds) digits).0 in
    ap (λ v. v && pointwise ◌==◌ (ds ++ rest) []) (ne_eqb d 45 (λ is. omega arith))

group_digits : (g : ℕ) → is_group g ≡ true → list_all (is_digit 10) (decimal g) ≡ true
group_digits g small = let le = leb-true g 4294967295 small in (decimal_spells g (omega arith)).0

parts_round_trip : (g : ℕ) (gs : List ℕ) → list_all is_group (g ∷ gs) ≡ true → slice_split (λ b. b == 44) (decimal g ++ after_commas gs) ≡ map decimal (g ∷ gs)
parts_round_trip g [] small =
    let parts = and_parts (is_group g) true small in
    ap (slice_split (λ b. b == 44)) (append-nil (decimal g)) ∙ slice_split_none (λ b. b == 44) (decimal g) (no_commas (decimal g) (group_digits g parts.0))
parts_round_trip g (h ∷ hs) small =
    let parts = and_parts (is_group g) (list_all is_group (h ∷ hs)) small in
    slice_split_at (λ b. b == 44) (decimal g) 44 (decimal h ++ after_commas hs) (no_commas (decimal g) (group_digits g parts.0)) refl ∙ ap (λ (ps : List (List ℕ)). decimal g ∷ ps) (parts_round_trip h hs parts.1)

numbers_round_trip : (gs : List ℕ) → list_all is_group gs ≡ true → numbers_of (map decimal gs) ≡ Some gs
numbers_round_trip [] small = refl
numbers_round_trip (g ∷ gs) small =
    let parts = and_parts (is_group g) (list_all is_group gs) small in
    ap (λ (o : Option ℕ). option_and_then (λ n. option_map (λ ns. n ∷ ns) (numbers_of (map decimal gs))) o) (number_round_trip g (leb-true g 4294967295 parts.0))
    ∙ ap (option_map (λ ns. g ∷ ns)) (numbers_round_trip gs parts.1)

-- written groups are read as these groups
pub groups_round_trip : (gs : List ℕ) → list_all (λ g. nat_le g 4294967295) gs ≡ true → length gs ≤ 16 → groups_of (groups_text gs) ≡ Some gs
unfolding groups_of groups_text
groups_round_trip [] small few = refl
groups_round_trip (g ∷ gs) small few =
    let parts = and_parts (is_group g) (list_all is_group gs) small in
    let le = leb-true g 4294967295 parts.0 in
    cond-false _ (Some []) _ (no_dash (decimal g) (after_commas gs) (decimal_nonempty g (omega arith)) (group_digits g parts.0)) ∙ ap few_numbers (parts_round_trip g gs small)
    ∙ ap (λ t. option_and_then numbers_of (keep_if t (map decimal (g ∷ gs)))) (ap (λ n. nat_le n 16) (length-map (g ∷ gs) decimal) ∙ le-leb (length (g ∷ gs)) 16 few)
    ∙ numbers_round_trip (g ∷ gs) small

-- ---- values as bare words

digit_bare : (d : ℕ) → is_digit 10 d ≡ true → is_bare d ≡ true
digit_bare d is =
    let range = digit_from d is in
    let not_that : (n : ℕ) → (d ≡ n → ⊥) → not (d == n) ≡ true = λ n no. ap not (ne_eqb d n no) in
    and_from _ _ (and_from _ _ (and_from _ _ (and_from _ _ (le-leb 32 d (omega arith)) (le-leb d 126 (omega arith))) (not_that 34 (λ e. omega arith))) (not_that 92 (λ e. omega arith))) (not_that 32 (λ e. omega arith))

digits_bare : (ds : List ℕ) → list_all (is_digit 10) ds ≡ true → list_all is_bare ds ≡ true
digits_bare [] digits = refl
digits_bare (d ∷ ds) digits = let parts = and_parts (is_digit 10 d) (list_all (is_digit 10) ds) digits in and_from (is_bare d) (list_all is_bare ds) (digit_bare d parts.0) (digits_bare ds parts.1)

-- a number is written as a bare word
pub decimal_bare : (n : ℕ) → n < 2 ^ 64 → is_bare_text (decimal n) ≡ true
decimal_bare n small = and_from _ _ (lt-ltb 0 (length (decimal n)) (decimal_nonempty n small)) (digits_bare (decimal n) (decimal_spells n small).0)

-- a mode is written as a bare word
pub mode_bare : (m : ℕ) → is_bare_text (mode_text m) ≡ true
unfolding mode_text
mode_bare m =
    let digit = λ (k : ℕ). digit_is 10 (k % 8) (omega arith) in
    digits_bare (mode_text m) (and_from _ _ (digit (m / 512)) (and_from _ _ (digit (m / 64)) (and_from _ _ (digit (m / 8)) (and_from _ _ (digit m) refl))))

commas_bare : (gs : List ℕ) → list_all is_group gs ≡ true → list_all is_bare (after_commas gs) ≡ true
commas_bare [] small = refl
commas_bare (g ∷ gs) small =
    let parts = and_parts (is_group g) (list_all is_group gs) small in
    list_all-append is_bare (decimal g) (after_commas gs) ∙ and_from (list_all is_bare (decimal g)) (list_all is_bare (after_commas gs)) (digits_bare (decimal g) (group_digits g parts.0)) (commas_bare gs parts.1)

-- groups are written as a bare word
pub groups_bare : (gs : List ℕ) → list_all (λ g. nat_le g 4294967295) gs ≡ true → is_bare_text (groups_text gs) ≡ true
unfolding groups_text
groups_bare [] small = refl
groups_bare (g ∷ gs) small =
    let parts = and_parts (is_group g) (list_all is_group gs) small in
    let le = leb-true g 4294967295 parts.0 in
    let some = decimal_nonempty g (omega arith) in
    let all = list_all-append is_bare (decimal g) (after_commas gs) ∙ and_from (list_all is_bare (decimal g)) (list_all is_bare (after_commas gs)) (digits_bare (decimal g) (group_digits g parts.0)) (commas_bare gs parts.1) in
    and_from _ _ (lt-ltb 0 (length (decimal g ++ after_commas gs)) (omega (arith, length-append (decimal g) (after_commas gs)))) all

-- any bytes can be written as a word
pub word_spelling : (bytes : List ℕ) → list_all (λ b. nat_lt b 256) bytes ≡ true → has_spelling (with_quotes_if_needed bytes) ≡ true
word_spelling bytes small =
    elim (cases_Bool (is_bare_text bytes)) [
      | inl e ↦ ap (λ v. cond (not v) (list_all (λ b. nat_lt b 256) bytes) (is_bare_text bytes)) e ∙ e
      | inr e ↦ ap (λ v. cond (not v) (list_all (λ b. nat_lt b 256) bytes) (is_bare_text bytes)) e ∙ small
    ]

-- ---- lines

-- a written word is a spelling of it
spelling_is : (w : LineWord) → has_spelling w ≡ true → IsSpelling w (spelling w)
unfolding quoted_text
spelling_is w can = elim w.quoted as (λ v. cond v (list_all (λ b. nat_lt b 256) w.bytes) (is_bare_text w.bytes) ≡ true → IsSpelling (record { quoted = v; bytes = w.bytes }) (cond v (quoted_text w.bytes) w.bytes))
    [ true ↦ λ small. Quoted w.bytes (flat_map item_text w.bytes) (items_are w.bytes small) | false ↦ λ bare. Bare w.bytes bare ] can

pub spaces_apart : (ws : List (List ℕ)) → is_apart (after_spaces ws) ≡ true
spaces_apart [] = refl
spaces_apart (w ∷ ws) = refl

rest_has : (ws : List LineWord) → list_all has_spelling ws ≡ true → HasWords (after_spaces (map spelling ws)) ws
rest_has [] can = NoWord [] refl
rest_has (w ∷ ws) can =
    let parts = and_parts (has_spelling w) (list_all has_spelling ws) can in
    WordMore (32 ∷ []) (spelling w) (after_spaces (map spelling ws)) w ws refl (spelling_is w parts.0) (spaces_apart (map spelling ws)) (rest_has ws parts.1)

-- a line of written words has these words
line_has : (words : List LineWord) → list_all has_spelling words ≡ true → HasWords (line_text (map spelling words)) words
line_has [] can = NoWord [] refl
line_has (w ∷ ws) can =
    let parts = and_parts (has_spelling w) (list_all has_spelling ws) can in
    WordMore [] (spelling w) (after_spaces (map spelling ws)) w ws refl (spelling_is w parts.0) (spaces_apart (map spelling ws)) (rest_has ws parts.1)

-- written words, with a space between each two, are read as these words
pub line_round_trip : (words : List LineWord) → list_all has_spelling words ≡ true → words_of (line_text (map spelling words)) ≡ Some words
line_round_trip words can = words_read (line_text (map spelling words)) words (line_has words can)

-- a quoted text alone is read as one quoted word
pub quoted_round_trip : (bytes : List ℕ) → list_all (λ b. nat_lt b 256) bytes ≡ true → words_of (quoted_text bytes) ≡ Some (record { quoted = true; bytes = bytes } ∷ [])
quoted_round_trip bytes small =
    let word : LineWord = record { quoted = true; bytes = bytes } in
    ap words_of (sym (append-nil (quoted_text bytes))) ∙ line_round_trip (word ∷ []) (and_from (has_spelling word) true small refl)

-- ---- what was appended

-- what is appended to a text has what the appended text has
pub of_appended : (P : List ℕ → Type 0) (old new text : List ℕ) → new ≡ old ++ text → P text → P (suffix_after old new)
of_appended P old new text is h = subst P (sym (ap (drop (length old)) is ∙ drop-append_seam old text)) h
