-- Numbers, modes and groups as words.
use Rattle.std.specs.Prelude.{ℕ, ◌+◌, ◌*◌, ◌-◌, ◌/◌, ◌%◌, ◌==◌, ◌&&◌, nat_le, nat_lt, Bool, cond, List, [], ◌∷◌, ◌++◌, length, Option, Some, codes}
use Rattle.std.specs.Cmp.Lexicographic.{pointwise}
use Rattle.std.specs.Fmt.{decimal}
use Rattle.std.specs.List.{flat_map, list_all, slice_split}
use Rattle.std.specs.Option.{option_and_then, option_map}
use Rattle.fs_path.specs.Options.{keep_if}
use Rattle.fs_path.specs.declared.values.TheConstants.{MAX_MODE, STICKY}

-- ---- what is read

-- a digit of a base up to 10
abbrev pub is_digit : ℕ → ℕ → Bool
is_digit base d = nat_le 48 d && nat_lt d (48 + base)

-- the value of digits after digits of a value
unfoldable pub digits_value : ℕ → ℕ → List ℕ → ℕ
digits_value base v [] = v
digits_value base v (d ∷ ds) = digits_value base (base * v + (d - 48)) ds

-- a number of 1 to `most` digits, from `low` to `high`
unfoldable pub numeral : (base most low high : ℕ) → List ℕ → Option ℕ
numeral base most low high w =
    keep_if (nat_le 1 (length w) && nat_le (length w) most && list_all (is_digit base) w && nat_le low (digits_value base 0 w) && nat_le (digits_value base 0 w) high) (digits_value base 0 w)

-- 1 to 10 digits, with a value that fits 32 bits
abbrev pub number_of : List ℕ → Option ℕ
number_of word = numeral 10 10 0 4294967295 word

-- a mode lies within octal 6777
abbrev pub is_mode : ℕ → Bool
is_mode mode = nat_le mode MAX_MODE && (mode / STICKY) % 2 == 0

-- 1 to 4 octal digits that are a mode
abbrev pub mode_of : List ℕ → Option ℕ
mode_of word = option_and_then (λ mode. keep_if (is_mode mode) mode) (numeral 8 4 0 MAX_MODE word)

-- the numbers that words denote, where each denotes one
abbrev pub numbers_of : List (List ℕ) → Option (List ℕ)
numbers_of [] = Some []
numbers_of (w ∷ ws) = option_and_then (λ n. option_map (λ ns. n ∷ ns) (numbers_of ws)) (number_of w)

abbrev pub few_numbers : List (List ℕ) → Option (List ℕ)
few_numbers words = option_and_then numbers_of (keep_if (nat_le (length words) 16) words)

-- `-`, or 1 to 16 numbers with commas between them
unfoldable pub groups_of : List ℕ → Option (List ℕ)
groups_of word = cond (pointwise ◌==◌ word (codes "-")) (Some []) (few_numbers (slice_split (λ b. b == 44) word))

-- ---- what is written

-- four octal digits
unfoldable pub mode_text : ℕ → List ℕ
mode_text mode = (48 + mode / 512 % 8) ∷ (48 + mode / 64 % 8) ∷ (48 + mode / 8 % 8) ∷ (48 + mode % 8) ∷ []

-- numbers, each after a comma
abbrev pub after_commas : List ℕ → List ℕ
after_commas ns = flat_map (λ n. 44 ∷ decimal n) ns

-- `-` where there are none, else the numbers with commas between them
unfoldable pub groups_text : List ℕ → List ℕ
groups_text [] = codes "-"
groups_text (n ∷ ns) = decimal n ++ after_commas ns
