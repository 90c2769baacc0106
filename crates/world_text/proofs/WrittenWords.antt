-- Written lines are read as their words.
use Rattle.std.specs.Prelude.{◌≡◌, ℕ, ◌+◌, ◌/◌, ◌%◌, ◌≤◌, ◌==◌, ◌&&◌, ◌||◌, not, nat_le, nat_lt, Bool, true, false, cond, List, [], ◌∷◌, ◌++◌, length, drop, map, Option, refl}
use Rattle.std.proofs.Common.{ap, ◌∙◌, append_assoc, arith}
use Rattle.std.specs.List.{flat_map, list_all, onto_first, prefix_len}
use Rattle.std.proofs.lemmas.Bool.{and_parts, and_from, not-true, le-leb, le-ltb, cond-false}
use Rattle.std.proofs.lemmas.Bool.Decides.{nat_tests}
use Rattle.std.proofs.lemmas.List.Folds.{list_all-append}
use Rattle.fs_path.specs.declared.words.LineWord.{LineWord}
use Rattle.fs_path.proofs.RoundTrip.{line_round_trip}
use Rattle.fs_path.specs.Split.{pieces}
use Rattle.fs_path.specs.Words.{is_space, is_plain, is_bare, is_bare_text, is_blank, hex_digit, item_text, quoted_text, has_spelling, spelling, after_spaces, line_text, is_empty_or_comment}
use Rattle.fs_path.specs.declared.words.TheConstants.{MAX_LINE}
use Rattle.world_text.specs.declared.expecting.Expecting.{Expecting}
use Rattle.world_text.specs.Values.{with_form}
use Rattle.world_text.specs.Expecting.{parse_words, parse_line}
use Rattle.world_text.specs.Written.{bare, line_of}

-- ---- line feeds

-- a byte from 32 on, which is no line feed
abbrev is_high : ℕ → Bool
is_high b = nat_le 32 b

bare_high : (b : ℕ) → is_bare b ≡ true → is_high b ≡ true
bare_high b h = grind (arith, nat_tests)

plain_high : (b : ℕ) → is_plain b ≡ true → is_high b ≡ true
plain_high b h = grind (arith, nat_tests)

all_bare_high : (bytes : List ℕ) → list_all is_bare bytes ≡ true → list_all is_high bytes ≡ true
all_bare_high [] h = refl
all_bare_high (b ∷ bs) h = let parts = and_parts (is_bare b) (list_all is_bare bs) h in and_from (is_high b) (list_all is_high bs) (bare_high b parts.0) (all_bare_high bs parts.1)

digit_high : (n : ℕ) → is_high (hex_digit n) ≡ true
digit_high n = elim (nat_le n 9) as (λ v. is_high (cond v (48 + n) (87 + n)) ≡ true) [ true ↦ le-leb 32 (48 + n) (omega arith) | false ↦ le-leb 32 (87 + n) (omega arith) ]

marked_high : (b : ℕ) → (b == 34 || b == 92) ≡ true → is_high b ≡ true
marked_high b h = grind (arith, nat_tests)

item_high : (b : ℕ) → list_all is_high (item_text b) ≡ true
item_high b = by_tests (b == 34 || b == 92) (is_plain b) refl refl
  where
    by_tests : (u v : Bool) → (b == 34 || b == 92) ≡ u → is_plain b ≡ v
        → list_all is_high (cond u (92 ∷ b ∷ []) (cond v (b ∷ []) (92 ∷ 120 ∷ hex_digit (b / 16) ∷ hex_digit (b % 16) ∷ []))) ≡ true
    by_tests true v e f = and_from (is_high b) true (marked_high b e) refl
    by_tests false true e f = and_from (is_high b) true (plain_high b f) refl
    by_tests false false e f = and_from _ _ (digit_high (b / 16)) (and_from _ _ (digit_high (b % 16)) refl)

items_high : (bytes : List ℕ) → list_all is_high (flat_map item_text bytes) ≡ true
items_high [] = refl
items_high (b ∷ bs) = list_all-append is_high (item_text b) (flat_map item_text bs) ∙ and_from _ _ (item_high b) (items_high bs)

quoted_high : (bytes : List ℕ) → list_all is_high (quoted_text bytes) ≡ true
unfolding quoted_text
quoted_high bytes = list_all-append is_high (flat_map item_text bytes) (34 ∷ []) ∙ and_from _ _ (items_high bytes) refl

word_high : (w : LineWord) → has_spelling w ≡ true → list_all is_high (spelling w) ≡ true
word_high w can = by_quotes w.quoted can
  where
    by_quotes : (v : Bool) → cond v (list_all (λ b. nat_lt b 256) w.bytes) (is_bare_text w.bytes) ≡ true → list_all is_high (cond v (quoted_text w.bytes) w.bytes) ≡ true
    by_quotes true can = quoted_high w.bytes
    by_quotes false can = all_bare_high w.bytes (and_parts (nat_lt 0 (length w.bytes)) (list_all is_bare w.bytes) can).1

after_high : (ws : List LineWord) → list_all has_spelling ws ≡ true → list_all is_high (after_spaces (map spelling ws)) ≡ true
after_high [] can = refl
after_high (w ∷ ws) can =
    let parts = and_parts (has_spelling w) (list_all has_spelling ws) can in
    list_all-append is_high (spelling w) (after_spaces (map spelling ws)) ∙ and_from _ _ (word_high w parts.0) (after_high ws parts.1)

line_high : (ws : List LineWord) → list_all has_spelling ws ≡ true → list_all is_high (line_text (map spelling ws)) ≡ true
line_high [] can = refl
line_high (w ∷ ws) can =
    let parts = and_parts (has_spelling w) (list_all has_spelling ws) can in
    list_all-append is_high (spelling w) (after_spaces (map spelling ws)) ∙ and_from _ _ (word_high w parts.0) (after_high ws parts.1)

no_feed : (b : ℕ) → is_high b ≡ true → (b == 10) ≡ false
no_feed b h = grind (arith, nat_tests)

-- the first line feed ends the first piece
first_piece : (line rest : List ℕ) → list_all is_high line ≡ true → pieces 10 (line ++ 10 ∷ rest) ≡ line ∷ pieces 10 rest
first_piece [] rest high = refl
first_piece (b ∷ bs) rest high =
    let parts = and_parts (is_high b) (list_all is_high bs) high in
    cond-false (b == 10) ([] ∷ pieces 10 (bs ++ 10 ∷ rest)) (onto_first b (pieces 10 (bs ++ 10 ∷ rest))) (no_feed b parts.0) ∙ ap (onto_first b) (first_piece bs rest parts.1)

-- lines as they are written, and the pieces after them
abbrev pub written_pieces : List (List LineWord) → List (List ℕ) → List (List ℕ)
written_pieces lines rest = map (λ words. line_text (map spelling words)) lines ++ rest

pub pieces_round_trip : (lines : List (List LineWord)) (rest : List ℕ) → list_all (list_all has_spelling) lines ≡ true → pieces 10 (flat_map line_of lines ++ rest) ≡ written_pieces lines (pieces 10 rest)
unfolding line_of
pieces_round_trip [] rest can = refl
pieces_round_trip (words ∷ lines) rest can =
    let parts = and_parts (list_all has_spelling words) (list_all (list_all has_spelling) lines) can in
    let line = line_text (map spelling words) in
    ap (pieces 10) (append_assoc (line ++ 10 ∷ []) (flat_map line_of lines) rest ∙ append_assoc line (10 ∷ []) (flat_map line_of lines ++ rest)) ∙ first_piece line (flat_map line_of lines ++ rest) (line_high words parts.0)
    ∙ ap (λ (ls : List (List ℕ)). line ∷ ls) (pieces_round_trip lines rest parts.1)

-- ---- lines

-- a keyword begins with no space and no `#`
abbrev pub begins_line : List ℕ → Bool
begins_line [] = false
begins_line (b ∷ bs) = not (is_space b) && not (b == 35)

not_blank : (key rest : List ℕ) → begins_line key ≡ true → is_blank (key ++ rest) ≡ false
unfolding is_blank
not_blank [] rest begins = absurd (cc)
not_blank (b ∷ bs) rest begins =
    let parts = and_parts (not (is_space b)) (not (b == 35)) begins in
    ap (λ v. is_empty_or_comment (drop (cond v (1 + prefix_len is_space (bs ++ rest)) 0) (b ∷ (bs ++ rest)))) (not-true (is_space b) parts.0) ∙ not-true (b == 35) parts.1

-- a written line is parsed as its words are
pub line_is : (expecting : Expecting) (key : List ℕ) (ws : List LineWord) → begins_line key ≡ true → list_all has_spelling (bare key ∷ ws) ≡ true
    → length (line_text (map spelling (bare key ∷ ws))) ≤ MAX_LINE → parse_line expecting (line_text (map spelling (bare key ∷ ws))) ≡ parse_words expecting (bare key ∷ ws)
unfolding parse_line
line_is expecting key ws begins can short =
    cond-false _ _ _ (le-ltb MAX_LINE _ short) ∙ cond-false _ _ _ (not_blank key (after_spaces (map spelling ws)) begins)
    ∙ ap (λ (o : Option (List LineWord)). with_form o (parse_words expecting)) (line_round_trip (bare key ∷ ws) can)
