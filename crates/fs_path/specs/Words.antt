-- The words of a line. A word is seen as its bytes, without quotes and escapes.
use Rattle.std.specs.Prelude.{ℕ, zero, suc, ◌+◌, ◌*◌, ◌-◌, ◌/◌, ◌%◌, ◌==◌, ◌&&◌, ◌||◌, not, nat_le, nat_lt, Bool, true, false, cond, List, [], ◌∷◌, ◌++◌, length, drop, Option, None, Some}
use Rattle.std.specs.List.{flat_map, list_all, take_while, prefix_len}
use Rattle.std.specs.Option.{option_and_then, option_map}
use Rattle.fs_path.specs.Split.{onto_piece}
use Rattle.fs_path.specs.declared.words.LineWord.{LineWord}

abbrev pub is_space : ℕ → Bool
is_space b = b == 32

-- a byte that stands for itself between quotes: 0x20 to 0x7e, but not `"` and `\`
abbrev pub is_plain : ℕ → Bool
is_plain b = nat_le 32 b && nat_le b 126 && not (b == 34) && not (b == 92)

-- a byte that a bare word may have: a plain one, but no space
abbrev pub is_bare : ℕ → Bool
is_bare b = is_plain b && not (is_space b)

-- ---- what is read

-- the value of a hexadecimal digit of any case
abbrev pub hex_value : ℕ → Option ℕ
hex_value b =
    cond (nat_le 48 b && nat_le b 57) (Some (b - 48))
    (cond (nat_le 97 b && nat_le b 102) (Some (b - 87))
    (cond (nat_le 65 b && nat_le b 70) (Some (b - 55)) None))

-- the byte that two hexadecimal digits denote, and the text after them
abbrev pub hex_pair : List ℕ → Option (ℕ × List ℕ)
hex_pair [] = None
hex_pair (h ∷ []) = None
hex_pair (h ∷ l ∷ rest) = option_and_then (λ high. option_map (λ low. (16 * high + low, rest)) (hex_value l)) (hex_value h)

-- the byte that an escape denotes, and the text after it: after the backslash `"`, `\`, or `x` and two digits
abbrev pub escape_value : List ℕ → Option (ℕ × List ℕ)
escape_value [] = None
escape_value (b ∷ bs) = cond (b == 34 || b == 92) (Some (b, bs)) (cond (b == 120) (hex_pair bs) None)

-- the byte that the first item between quotes denotes, and the text after the item
abbrev pub first_item : List ℕ → Option (ℕ × List ℕ)
first_item [] = None
first_item (b ∷ bs) = cond (b == 92) (escape_value bs) (cond (is_plain b) (Some (b, bs)) None)

-- the bytes that up to n items denote, up to the closing quote, and the text after that
abbrev pub items_within : ℕ → List ℕ → Option (List ℕ × List ℕ)
items_within zero text = None
items_within (suc n) [] = None
items_within (suc n) (b ∷ bs) = cond (b == 34) (Some ([], bs)) (option_and_then (λ (p : ℕ × List ℕ). onto_piece p.0 (items_within n p.1)) (first_item (b ∷ bs)))

-- the bytes that items up to a closing quote denote, and the text after that; each item has at least one byte, so there are no more items than bytes
abbrev pub items_of : List ℕ → Option (List ℕ × List ℕ)
items_of text = items_within (length text) text

abbrev pub quoted_word : List ℕ × List ℕ → LineWord × List ℕ
quoted_word p = (record { quoted = true; bytes = p.0 }, p.1)

-- the word that begins a text, and the text after it, whatever that is
abbrev pub leading_word : List ℕ → Option (LineWord × List ℕ)
leading_word [] = None
leading_word (b ∷ bs) =
    cond (b == 34) (option_map quoted_word (items_of bs))
    (cond (is_bare b) (Some (record { quoted = false; bytes = take_while is_bare (b ∷ bs) }, drop (prefix_len is_bare (b ∷ bs)) (b ∷ bs))) None)

-- after a word comes a space or the end
abbrev pub is_apart : List ℕ → Bool
is_apart [] = true
is_apart (b ∷ bs) = is_space b

abbrev pub apart : LineWord × List ℕ → Option (LineWord × List ℕ)
apart p = cond (is_apart p.1) (Some p) None

-- the word that begins a text, and the text after it
abbrev pub first_word : List ℕ → Option (LineWord × List ℕ)
first_word text = option_and_then apart (leading_word text)

-- a text without the spaces that begin it
abbrev pub trim_spaces : List ℕ → List ℕ
trim_spaces text = drop (prefix_len is_space text) text

-- the words of a text that begins with no space: none, or a word and more words
abbrev pub words_by : (List ℕ → Option (List LineWord)) → List ℕ → Option (List LineWord)
words_by more [] = Some []
words_by more (b ∷ bs) = option_and_then (λ (p : LineWord × List ℕ). option_map (λ ws. p.0 ∷ ws) (more p.1)) (first_word (b ∷ bs))

-- up to n words, with spaces between them and at both ends
abbrev pub words_within : ℕ → List ℕ → Option (List LineWord)
words_within zero text = words_by (λ _. None) (trim_spaces text)
words_within (suc n) text = words_by (words_within n) (trim_spaces text)

-- the words of a line; each has at least one byte, so there are no more words than bytes
unfoldable pub words_of : List ℕ → Option (List LineWord)
words_of line = words_within (length line) line

-- whether a text that begins with no space is empty or begins with `#`
abbrev pub is_empty_or_comment : List ℕ → Bool
is_empty_or_comment [] = true
is_empty_or_comment (b ∷ bs) = b == 35

unfoldable pub is_blank : List ℕ → Bool
is_blank line = is_empty_or_comment (trim_spaces line)

-- ---- what is written

-- a hexadecimal digit in lower case
abbrev pub hex_digit : ℕ → ℕ
hex_digit n = cond (nat_le n 9) (48 + n) (87 + n)

-- a byte between quotes
abbrev pub item_text : ℕ → List ℕ
item_text b =
    cond (b == 34 || b == 92) (92 ∷ b ∷ [])
    (cond (is_plain b) (b ∷ [])
    (92 ∷ 120 ∷ hex_digit (b / 16) ∷ hex_digit (b % 16) ∷ []))

-- a quoted word
unfoldable pub quoted_text : List ℕ → List ℕ
quoted_text bytes = 34 ∷ flat_map item_text bytes ++ 34 ∷ []

-- what a bare word may be: some bytes, each one that such a word may have
abbrev pub is_bare_text : List ℕ → Bool
is_bare_text bytes = nat_lt 0 (length bytes) && list_all is_bare bytes

-- whether a word can be written: a quoted one with any bytes, a bare one with those of a bare word
abbrev pub has_spelling : LineWord → Bool
has_spelling word = cond word.quoted (list_all (λ b. nat_lt b 256) word.bytes) (is_bare_text word.bytes)

-- a word, quoted exactly where its bytes can't be a bare word
abbrev pub with_quotes_if_needed : List ℕ → LineWord
with_quotes_if_needed bytes = record { quoted = not (is_bare_text bytes); bytes = bytes }

abbrev pub spelling : LineWord → List ℕ
spelling word = cond word.quoted (quoted_text word.bytes) word.bytes

-- spellings, each after a space
abbrev pub after_spaces : List (List ℕ) → List ℕ
after_spaces words = flat_map (λ w. 32 ∷ w) words

-- spellings with one space between them
abbrev pub line_text : List (List ℕ) → List ℕ
line_text [] = []
line_text (w ∷ ws) = w ++ after_spaces ws

-- what a text has after an earlier one that it begins with
abbrev pub suffix_after : List ℕ → List ℕ → List ℕ
suffix_after old new = drop (length old) new
