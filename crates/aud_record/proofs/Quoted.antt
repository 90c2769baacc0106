-- The bytes that quoted words denote.
use Rattle.std.specs.Prelude.{◌≡◌, ℕ, zero, suc, ◌+◌, ◌-◌, ◌*◌, ◌<◌, ◌==◌, ◌&&◌, ◌||◌, not, nat_le, nat_lt, true, false, cond, List, [], ◌∷◌, length, drop, Option, None, Some, refl}
use Rattle.std.proofs.Common.{ap, sym, subst, ◌∙◌, inl, inr, arith}
use Rattle.std.specs.List.{prefix_len, take_while}
use Rattle.std.specs.Option.{option_and_then, option_map}
use Rattle.std.proofs.lemmas.Bool.{and_parts, and_from, cond_both, eqb-true, leb-true, lt-ltb, or_cases}
use Rattle.std.proofs.lemmas.List.{append-nil}
use Rattle.fs_path.proofs.RoundTrip.{line_round_trip}
use Rattle.fs_path.specs.Split.{onto_piece}
use Rattle.fs_path.specs.Words.{is_plain, is_bare, is_apart, hex_value, hex_pair, escape_value, first_item, items_within, items_of, quoted_word, leading_word, apart, first_word, trim_spaces, words_by, words_of, quoted_text, has_spelling}
use Rattle.fs_path.proofs.WordSteps.{words_are}
use Rattle.fs_path.specs.declared.words.LineWord.{LineWord}
use Rattle.line_text.specs.Ranges.{are_bytes}
use Rattle.aud_record.specs.Canonical.{only_quoted, bytes_of_quoted}
use Rattle.std.proofs.lemmas.Option.{cond_some}

-- ---- bytes that are read

abbrev IsDigit : Option ℕ → Type 0
IsDigit None = Unit {0}
IsDigit (Some v) = v < 16

hex_small : (b : ℕ) → IsDigit (hex_value b)
hex_small b = cond_both (nat_le 48 b && nat_le b 57) (Some (b - 48)) (cond (nat_le 97 b && nat_le b 102) (Some (b - 87)) (cond (nat_le 65 b && nat_le b 70) (Some (b - 55)) None)) IsDigit
    (λ is. let le = leb-true b 57 (and_parts (nat_le 48 b) (nat_le b 57) is).1 in omega arith)
    (λ _. cond_both (nat_le 97 b && nat_le b 102) (Some (b - 87)) (cond (nat_le 65 b && nat_le b 70) (Some (b - 55)) None) IsDigit
    (λ is. let le = leb-true b 102 (and_parts (nat_le 97 b) (nat_le b 102) is).1 in omega arith)
    (λ _. cond_both (nat_le 65 b && nat_le b 70) (Some (b - 55)) None IsDigit
    (λ is. let le = leb-true b 70 (and_parts (nat_le 65 b) (nat_le b 70) is).1 in omega arith)
    (λ _. tt)))

-- an item denotes a byte
abbrev IsByte : Option (ℕ × List ℕ) → Type 0
IsByte None = Unit {0}
IsByte (Some p) = p.0 < 256

pair_byte : (text : List ℕ) → IsByte (hex_pair text)
pair_byte [] = tt
pair_byte (h ∷ []) = tt
pair_byte (h ∷ l ∷ rest) = by_values (hex_value h) (hex_value l) (hex_small h) (hex_small l)
  where
    by_values : (high low : Option ℕ) → IsDigit high → IsDigit low → IsByte (option_and_then (λ high. option_map (λ low. (16 * high + low, rest)) low) high)
    by_values None low h k = tt
    by_values (Some high) None h k = tt
    by_values (Some high) (Some low) h k = omega arith

escape_byte : (text : List ℕ) → IsByte (escape_value text)
escape_byte [] = tt
escape_byte (b ∷ bs) = cond_both (b == 34 || b == 92) (Some (b, bs)) (cond (b == 120) (hex_pair bs) None) IsByte
    (λ mark. elim (or_cases (b == 34) (b == 92) mark) [ inl quote ↦ let is = eqb-true b 34 quote in omega arith | inr slash ↦ let is = eqb-true b 92 slash in omega arith ])
    (λ _. cond_both (b == 120) (hex_pair bs) None IsByte (λ _. pair_byte bs) (λ _. tt))

-- a byte that stands for itself is below 256
pub plain_small : (b : ℕ) → is_plain b ≡ true → b < 256
plain_small b plain =
    let range = (and_parts (nat_le 32 b && nat_le b 126) (not (b == 34)) (and_parts (nat_le 32 b && nat_le b 126 && not (b == 34)) (not (b == 92)) plain).0).0 in
    let high = leb-true b 126 (and_parts (nat_le 32 b) (nat_le b 126) range).1 in
    omega arith

item_byte : (text : List ℕ) → IsByte (first_item text)
item_byte [] = tt
item_byte (b ∷ bs) = cond_both (b == 92) (escape_value bs) (cond (is_plain b) (Some (b, bs)) None) IsByte (λ _. escape_byte bs)
    (λ _. cond_both (is_plain b) (Some (b, bs)) None IsByte (λ plain. plain_small b plain) (λ _. tt))

-- items denote bytes
abbrev AreBytes : Option (List ℕ × List ℕ) → Type 0
AreBytes None = Unit {0}
AreBytes (Some p) = are_bytes p.0 ≡ true

items_bytes : (n : ℕ) (text : List ℕ) → AreBytes (items_within n text)
items_bytes zero text = tt
items_bytes (suc n) [] = tt
items_bytes (suc n) (b ∷ bs) = cond_both (b == 34) (Some ([], bs)) (option_and_then (λ (p : ℕ × List ℕ). onto_piece p.0 (items_within n p.1)) (first_item (b ∷ bs))) AreBytes
    (λ _. refl) (λ _. by_item (first_item (b ∷ bs)) (item_byte (b ∷ bs)) (λ t. items_bytes n t))
  where
    onto_bytes : (x : ℕ) (o : Option (List ℕ × List ℕ)) → x < 256 → AreBytes o → AreBytes (onto_piece x o)
    onto_bytes x None small rest = tt
    onto_bytes x (Some p) small rest = and_from (nat_lt x 256) (are_bytes p.0) (lt-ltb x 256 small) rest

    by_item : (o : Option (ℕ × List ℕ)) → IsByte o → ((t : List ℕ) → AreBytes (items_within n t)) → AreBytes (option_and_then (λ (p : ℕ × List ℕ). onto_piece p.0 (items_within n p.1)) o)
    by_item None small more = tt
    by_item (Some p) small more = onto_bytes p.0 (items_within n p.1) small (more p.1)

-- a quoted word denotes bytes
abbrev WordBytes : LineWord → Type 0
WordBytes w = w.quoted ≡ true → are_bytes w.bytes ≡ true

abbrev FirstBytes : Option (LineWord × List ℕ) → Type 0
FirstBytes None = Unit {0}
FirstBytes (Some p) = WordBytes p.0

begun_bytes : (text : List ℕ) → FirstBytes (leading_word text)
begun_bytes [] = tt
begun_bytes (b ∷ bs) = cond_both (b == 34) (option_map quoted_word (items_of bs)) (cond (is_bare b) bare None) FirstBytes (λ _. by_items (items_of bs) (items_bytes (length bs) bs))
    (λ _. cond_both (is_bare b) bare None FirstBytes (λ _ quoted. absurd (cc)) (λ _. tt))
  where
    bare : Option (LineWord × List ℕ)
    bare = Some (record { quoted = false; bytes = take_while is_bare (b ∷ bs) }, drop (prefix_len is_bare (b ∷ bs)) (b ∷ bs))

    by_items : (o : Option (List ℕ × List ℕ)) → AreBytes o → FirstBytes (option_map quoted_word o)
    by_items None all = tt
    by_items (Some p) all = λ _. all

first_bytes : (text : List ℕ) → FirstBytes (first_word text)
first_bytes text = by_word (leading_word text) (begun_bytes text)
  where
    by_word : (o : Option (LineWord × List ℕ)) → FirstBytes o → FirstBytes (option_and_then apart o)
    by_word None all = tt
    by_word (Some p) all = cond_both (is_apart p.1) (Some p) None FirstBytes (λ _. all) (λ _. tt)

-- the first word denotes bytes, where it is quoted
abbrev OnlyBytes : Option (List LineWord) → Type 0
OnlyBytes None = Unit {0}
OnlyBytes (Some []) = Unit {0}
OnlyBytes (Some (w ∷ ws)) = WordBytes w

words_bytes : (text : List ℕ) → OnlyBytes (words_by words_of text)
words_bytes [] = tt
words_bytes (b ∷ bs) = by_word (first_word (b ∷ bs)) (first_bytes (b ∷ bs))
  where
    by_rest : (p : LineWord × List ℕ) (o : Option (List LineWord)) → WordBytes p.0 → OnlyBytes (option_map (λ ws. p.0 ∷ ws) o)
    by_rest p None all = tt
    by_rest p (Some ws) all = all

    by_word : (o : Option (LineWord × List ℕ)) → FirstBytes o → OnlyBytes (option_and_then (λ (p : LineWord × List ℕ). option_map (λ ws. p.0 ∷ ws) (words_of p.1)) o)
    by_word None all = tt
    by_word (Some p) all = by_rest p (words_of p.1) all

pub unquoted_bytes : (word bytes : List ℕ) → bytes_of_quoted word ≡ Some bytes → are_bytes bytes ≡ true
unfolding bytes_of_quoted
unquoted_bytes word bytes h = by_words (words_of word) (subst OnlyBytes (sym (words_are word)) (words_bytes (trim_spaces word))) h
  where
    by_words : (o : Option (List LineWord)) → OnlyBytes o → option_and_then only_quoted o ≡ Some bytes → are_bytes bytes ≡ true
    by_words None all h = absurd (cc)
    by_words (Some []) all h = absurd (cc)
    by_words (Some (w ∷ [])) all h = let kept = cond_some w.quoted w.bytes bytes h in ap are_bytes (sym kept.1) ∙ all kept.0
    by_words (Some (w ∷ v ∷ ws)) all h = absurd (cc)

-- ---- the round trip of a quoted text

pub quoted_unquoted : (bytes : List ℕ) → are_bytes bytes ≡ true → bytes_of_quoted (quoted_text bytes) ≡ Some bytes
unfolding bytes_of_quoted
quoted_unquoted bytes all =
    let word : LineWord = record { quoted = true; bytes = bytes } in
    ap (option_and_then only_quoted) (ap words_of (sym (append-nil (quoted_text bytes))) ∙ line_round_trip (word ∷ []) (and_from (has_spelling word) true all refl))
