-- The names of levels, categories and grades.
use Rattle.std.specs.Prelude.{ℕ, Bool, true, false, not, ◌&&◌, ◌||◌, ◌==◌, nat_le, List, [], ◌∷◌, length, Option, position}
use Rattle.std.specs.Cmp.Lexicographic.{pointwise}
use Rattle.std.specs.List.{list_all, list_any}

abbrev pub Names : Type 0
Names = List (List ℕ)

abbrev pub same_bytes : List ℕ → List ℕ → Bool
same_bytes a b = pointwise ◌==◌ a b

-- a letter of ASCII
abbrev pub is_letter : ℕ → Bool
is_letter b = (nat_le 65 b && nat_le b 90) || (nat_le 97 b && nat_le b 122)

-- a letter, a digit, `_` or `-`
abbrev pub is_name_part : ℕ → Bool
is_name_part b = is_letter b || (nat_le 48 b && nat_le b 57) || b == 95 || b == 45

-- the name of a level, a category or a grade: a letter, and up to 30 name parts
abbrev pub is_label_name : List ℕ → Bool
is_label_name [] = false
is_label_name (b ∷ bs) = is_letter b && nat_le (length bs) 30 && list_all is_name_part bs

-- no two names are equal
abbrev pub are_distinct : Names → Bool
are_distinct [] = true
are_distinct (x ∷ xs) = not (list_any (same_bytes x) xs) && are_distinct xs

-- the place of a name in its list, counted from 0
abbrev pub place_of : Names → List ℕ → Option ℕ
place_of names word = position (same_bytes word) names
