-- Names of entries, seen as their bytes.
use Rattle.std.specs.Prelude.{ℕ, List, [], ◌∷◌, length, Bool, false, not, ◌&&◌, ◌==◌, nat_le}
use Rattle.std.specs.List.{list_all}

abbrev pub Name : Type 0
Name = List ℕ

-- a byte that a name may have: neither 0 nor `/`
abbrev pub is_name_byte : ℕ → Bool
is_name_byte b = not (b == 0) && not (b == 47)

-- whether bytes are `.` or `..`, which denote directories themselves
abbrev pub is_dots : List ℕ → Bool
is_dots (a ∷ []) = a == 46
is_dots (a ∷ b ∷ []) = a == 46 && b == 46
is_dots _ = false

-- whether bytes are a name: 1 to 63 of them, each one that a name may have, and not dots alone
unfoldable pub is_name : List ℕ → Bool
is_name bytes = nat_le 1 (length bytes) && nat_le (length bytes) 63 && list_all is_name_byte bytes && not (is_dots bytes)
