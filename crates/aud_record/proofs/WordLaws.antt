-- Where the words of a line end.
use Rattle.std.specs.Prelude.{◌≡◌, ℕ, ◌+◌, ◌/◌, ◌%◌, ◌==◌, ◌&&◌, ◌||◌, not, nat_le, nat_lt, Bool, true, false, cond, List, [], ◌∷◌, ◌++◌, length, Option, None, Some, refl}
use Rattle.std.proofs.Common.{ap, sym, ◌∙◌, ◌⊎◌, inl, inr, arith, append_assoc}
use Rattle.std.specs.List.{flat_map, list_all, prefix_len}
use Rattle.std.proofs.lemmas.Bool.{and_parts, and_from, and_right, or_parts, cond_both, cond-false, eqb-true, eq-eqb, ne_eqb, leb-true, leb-false, not_from_false, not-true, both_ways}
use Rattle.std.proofs.lemmas.Option.{some_pair_parts}
use Rattle.std.proofs.lemmas.List.{length-append, take_at, drop_at}
use Rattle.std.proofs.lemmas.List.Folds.{list_all-append}
use Rattle.fs_path.specs.Split.{onto_piece, split_once}
use Rattle.fs_path.specs.Words.{is_space, is_plain, is_bare, is_bare_text, is_apart, hex_digit, item_text, quoted_text}
use Rattle.aud_record.specs.Words.{quoted_len, word_len, first_word, after_word}
use Rattle.fs_path.proofs.FormLemmas.{no_quote}

-- ---- a text split at a byte

-- whether a text does not have a byte
abbrev pub lacks : ℕ → List ℕ → Bool
lacks at text = list_all (λ b. not (b == at)) text

pub lacks-append : (at : ℕ) (a b : List ℕ) → lacks at a ≡ true → lacks at b ≡ true → lacks at (a ++ b) ≡ true
lacks-append at a b first second = list_all-append (λ b. not (b == at)) a b ∙ and_from (lacks at a) (lacks at b) first second

-- a text is split at the first occurrence of the byte
pub split_round_trip : (at : ℕ) (prefix rest : List ℕ) → lacks at prefix ≡ true → split_once at (prefix ++ at ∷ rest) ≡ Some (prefix, rest)
unfolding split_once
split_round_trip at [] rest none = ap (λ v. cond v (Some ([], rest)) (onto_piece at (split_once at rest))) (same at)
  where
    same : (n : ℕ) → (n == n) ≡ true
    same n = eq-eqb n n refl
split_round_trip at (b ∷ bs) rest none =
    let parts = and_parts (not (b == at)) (lacks at bs) none in
    ap (λ v. cond v (Some ([], bs ++ at ∷ rest)) (onto_piece b (split_once at (bs ++ at ∷ rest)))) (not-true (b == at) parts.0) ∙ ap (onto_piece b) (split_round_trip at bs rest parts.1)

-- a text that was split is its parts with the byte between them
pub split_is : (at : ℕ) (text prefix rest : List ℕ) → split_once at text ≡ Some (prefix, rest) → text ≡ prefix ++ at ∷ rest
unfolding split_once
split_is at [] prefix rest h = absurd (cc)
split_is at (b ∷ bs) prefix rest h = by_test (b == at) refl (λ f r e. split_is at bs f r e) h
  where
    by_rest : (o : Option (List ℕ × List ℕ)) → ((f r : List ℕ) → o ≡ Some (f, r) → bs ≡ f ++ at ∷ r) → onto_piece b o ≡ Some (prefix, rest) → b ∷ bs ≡ prefix ++ at ∷ rest
    by_rest None more h = absurd (cc)
    by_rest (Some (f, r)) more h = let parts = some_pair_parts (b ∷ f) prefix r rest h in ap (λ t. b ∷ t) (more f r refl) ∙ (λ i. parts.0 i ++ at ∷ parts.1 i)

    by_test : (v : Bool) → (b == at) ≡ v → ((f r : List ℕ) → split_once at bs ≡ Some (f, r) → bs ≡ f ++ at ∷ r) → cond v (Some ([], bs)) (onto_piece b (split_once at bs)) ≡ Some (prefix, rest) → b ∷ bs ≡ prefix ++ at ∷ rest
    by_test true e more h = let parts = some_pair_parts [] prefix bs rest h in (λ i. eqb-true b at e i ∷ bs) ∙ (λ i. parts.0 i ++ at ∷ parts.1 i)
    by_test false e more h = by_rest (split_once at bs) more h

-- ---- items between quotes

escaped_byte : (b : ℕ) (t : List ℕ) → quoted_len true (b ∷ t) ≡ 1 + quoted_len false t
escaped_byte b t = λ i. cond (and_right (b == 34) false refl i) 1 (1 + quoted_len (and_right (b == 92) false refl i) t)

plain_byte : (b : ℕ) (t : List ℕ) → (b == 34) ≡ false → (b == 92) ≡ false → quoted_len false (b ∷ t) ≡ 1 + quoted_len false t
plain_byte b t quote slash = λ i. cond (quote i && true) 1 (1 + quoted_len (slash i && true) t)

-- a hexadecimal digit is no quote, no backslash and no line feed
record IsHex (b : ℕ) : Type 0 where
  quote : (b == 34) ≡ false
  slash : (b == 92) ≡ false
  feed : not (b == 10) ≡ true

hex_is : (n : ℕ) → IsHex (hex_digit n)
hex_is n = cond_both (nat_le n 9) (48 + n) (87 + n) IsHex
    (λ low. let le = leb-true n 9 low in record { quote = ne_eqb (48 + n) 34 (λ e. omega arith); slash = ne_eqb (48 + n) 92 (λ e. omega arith); feed = not_from_false (48 + n == 10) (ne_eqb (48 + n) 10 (λ e. omega arith)) })
    (λ high. let lt = leb-false n 9 high in record { quote = ne_eqb (87 + n) 34 (λ e. omega arith); slash = ne_eqb (87 + n) 92 (λ e. omega arith); feed = not_from_false (87 + n == 10) (ne_eqb (87 + n) 10 (λ e. omega arith)) })

-- the text of an item does not close a quoted word
item_open : (b : ℕ) (t : List ℕ) → quoted_len false (item_text b ++ t) ≡ length (item_text b) + quoted_len false t
item_open b t = by_mark (b == 34 || b == 92) refl
  where
    high : IsHex (hex_digit (b / 16))
    high = hex_is (b / 16)

    low : IsHex (hex_digit (b % 16))
    low = hex_is (b % 16)

    two : (n : ℕ) → 1 + (1 + n) ≡ 2 + n
    two n = omega arith

    four : (n : ℕ) → 1 + (1 + (1 + (1 + n))) ≡ 4 + n
    four n = omega arith

    by_plain : (v : Bool) → (b == 34 || b == 92) ≡ false → quoted_len false (cond v (b ∷ []) (92 ∷ 120 ∷ hex_digit (b / 16) ∷ hex_digit (b % 16) ∷ []) ++ t)
        ≡ length (cond v (b ∷ []) (92 ∷ 120 ∷ hex_digit (b / 16) ∷ hex_digit (b % 16) ∷ [])) + quoted_len false t
    by_plain true marks = let parts = or_parts (b == 34) (b == 92) marks in plain_byte b t parts.0 parts.1
    by_plain false marks =
        ap (λ n. 1 + n) (escaped_byte 120 (hex_digit (b / 16) ∷ hex_digit (b % 16) ∷ t)) ∙ ap (λ n. 1 + (1 + n)) (plain_byte (hex_digit (b / 16)) (hex_digit (b % 16) ∷ t) high.quote high.slash)
        ∙ ap (λ n. 1 + (1 + (1 + n))) (plain_byte (hex_digit (b % 16)) t low.quote low.slash) ∙ four (quoted_len false t)

    by_mark : (v : Bool) → (b == 34 || b == 92) ≡ v
        → quoted_len false (cond v (92 ∷ b ∷ []) (cond (is_plain b) (b ∷ []) (92 ∷ 120 ∷ hex_digit (b / 16) ∷ hex_digit (b % 16) ∷ [])) ++ t)
        ≡ length (cond v (92 ∷ b ∷ []) (cond (is_plain b) (b ∷ []) (92 ∷ 120 ∷ hex_digit (b / 16) ∷ hex_digit (b % 16) ∷ []))) + quoted_len false t
    by_mark true marks = ap (λ n. 1 + n) (escaped_byte b t) ∙ two (quoted_len false t)
    by_mark false marks = by_plain (is_plain b) marks

-- a quoted word ends at its closing quote
items_closed : (bytes t : List ℕ) → quoted_len false (flat_map item_text bytes ++ 34 ∷ t) ≡ length (flat_map item_text bytes) + 1
items_closed [] t = refl
items_closed (b ∷ bs) t =
    let size = length-append (item_text b) (flat_map item_text bs) in
    let rest = items_closed bs t in
    let first = item_open b (flat_map item_text bs ++ 34 ∷ t) in
    ap (quoted_len false) (append_assoc (item_text b) (flat_map item_text bs) (34 ∷ t)) ∙ omega (arith, size, rest, first)

quoted_cut : (bytes rest : List ℕ) → word_len (quoted_text bytes ++ rest) ≡ length (quoted_text bytes)
unfolding word_len quoted_text
quoted_cut bytes rest =
    let size = length-append (flat_map item_text bytes) (34 ∷ []) in
    let closed = items_closed bytes rest in
    ap (λ t. 1 + quoted_len false t) (append_assoc (flat_map item_text bytes) (34 ∷ []) rest) ∙ omega (arith, size, closed)

-- ---- bare words

bare_prefix : (w rest : List ℕ) → list_all is_bare w ≡ true → is_apart rest ≡ true → prefix_len (λ c. not (is_space c)) (w ++ rest) ≡ length w
bare_prefix [] [] bare ends = refl
bare_prefix [] (c ∷ cs) bare ends = ap (λ v. cond (not v) (1 + prefix_len (λ c. not (is_space c)) cs) 0) ends
bare_prefix (b ∷ bs) rest bare ends =
    let parts = and_parts (is_bare b) (list_all is_bare bs) bare in
    let more = bare_prefix bs rest parts.1 ends in
    ap (λ v. cond v (1 + prefix_len (λ c. not (is_space c)) (bs ++ rest)) 0) (and_parts (is_plain b) (not (is_space b)) parts.0).1 ∙ omega (arith, more)

bare_cut : (w rest : List ℕ) → is_bare_text w ≡ true → is_apart rest ≡ true → word_len (w ++ rest) ≡ length w
unfolding word_len
bare_cut [] rest bare ends = absurd (cc)
bare_cut (b ∷ bs) rest bare ends =
    let all = (and_parts (nat_lt 0 (length (b ∷ bs))) (list_all is_bare (b ∷ bs)) bare).1 in
    cond-false (b == 34) (1 + quoted_len false (bs ++ rest)) (prefix_len (λ c. not (is_space c)) (b ∷ bs ++ rest)) (no_quote b (and_parts (is_bare b) (list_all is_bare bs) all).0) ∙ bare_prefix (b ∷ bs) rest all ends

-- ---- words

-- the text of a word, bare or quoted
abbrev pub IsWord : List ℕ → Type 0
IsWord w = (is_bare_text w ≡ true) ⊎ ((bytes : List ℕ) × (w ≡ quoted_text bytes))

word_cut : (w rest : List ℕ) → IsWord w → is_apart rest ≡ true → length w ≡ word_len (w ++ rest)
word_cut w rest (inl bare) ends = sym (bare_cut w rest bare ends)
word_cut w rest (inr (bytes, is)) ends = sym (ap (λ v. word_len (v ++ rest)) is ∙ quoted_cut bytes rest ∙ ap length (sym is))

pub first_round_trip : (w rest : List ℕ) → IsWord w → is_apart rest ≡ true → first_word (w ++ rest) ≡ w
first_round_trip w rest is ends = take_at w rest (word_len (w ++ rest)) (word_cut w rest is ends)

pub after_round_trip : (w rest : List ℕ) → IsWord w → is_apart rest ≡ true → after_word (w ++ rest) ≡ rest
after_round_trip w rest is ends = drop_at w rest (word_len (w ++ rest)) (word_cut w rest is ends)

-- ---- words have no line feed

bare_feed : (b : ℕ) → is_plain b ≡ true → not (b == 10) ≡ true
bare_feed b plain =
    let range = (and_parts (nat_le 32 b && nat_le b 126) (not (b == 34)) (and_parts (nat_le 32 b && nat_le b 126 && not (b == 34)) (not (b == 92)) plain).0).0 in
    let low = leb-true 32 b (and_parts (nat_le 32 b) (nat_le b 126) range).0 in
    not_from_false (b == 10) (ne_eqb b 10 (λ e. omega arith))

bare_lacks : (w : List ℕ) → list_all is_bare w ≡ true → lacks 10 w ≡ true
bare_lacks [] bare = refl
bare_lacks (b ∷ bs) bare =
    let parts = and_parts (is_bare b) (list_all is_bare bs) bare in
    and_from (not (b == 10)) (lacks 10 bs) (bare_feed b (and_parts (is_plain b) (not (is_space b)) parts.0).0) (bare_lacks bs parts.1)

item_lacks : (b : ℕ) → lacks 10 (item_text b) ≡ true
item_lacks b = cond_both (b == 34 || b == 92) (92 ∷ b ∷ []) (cond (is_plain b) (b ∷ []) (92 ∷ 120 ∷ hex_digit (b / 16) ∷ hex_digit (b % 16) ∷ [])) (λ t. lacks 10 t ≡ true)
    (λ mark. and_from (not (b == 10)) true (not_from_false (b == 10) (ne_eqb b 10 (λ e. both_ways (b == 34 || b == 92) (ap (λ n. n == 34 || n == 92) e) mark))) refl)
    (λ _. cond_both (is_plain b) (b ∷ []) (92 ∷ 120 ∷ hex_digit (b / 16) ∷ hex_digit (b % 16) ∷ []) (λ t. lacks 10 t ≡ true)
    (λ plain. and_from (not (b == 10)) true (bare_feed b plain) refl)
    (λ _. let high = hex_is (b / 16) in let low = hex_is (b % 16) in and_from (not (hex_digit (b / 16) == 10)) _ high.feed (and_from (not (hex_digit (b % 16) == 10)) true low.feed refl)))

items_lack : (bytes : List ℕ) → lacks 10 (flat_map item_text bytes) ≡ true
items_lack [] = refl
items_lack (b ∷ bs) = lacks-append 10 (item_text b) (flat_map item_text bs) (item_lacks b) (items_lack bs)

quoted_lacks : (bytes : List ℕ) → lacks 10 (quoted_text bytes) ≡ true
unfolding quoted_text
quoted_lacks bytes = lacks-append 10 (flat_map item_text bytes) (34 ∷ []) (items_lack bytes) refl

pub word_lacks : (w : List ℕ) → IsWord w → lacks 10 w ≡ true
word_lacks w (inl bare) = bare_lacks w (and_parts (nat_lt 0 (length w)) (list_all is_bare w) bare).1
word_lacks w (inr (bytes, is)) = ap (lacks 10) is ∙ quoted_lacks bytes
