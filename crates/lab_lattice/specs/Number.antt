-- Numbers, in their order. Levels are numbers, and grades are numbered.
use Rattle.std.specs.Prelude.{ℕ, Bool, nat_le, max, min}

-- the first number is at least the second
abbrev pub number_covers : ℕ → ℕ → Bool
number_covers x y = nat_le y x

-- the higher of two numbers
abbrev pub number_join : ℕ → ℕ → ℕ
number_join x y = max x y

-- the lower of two numbers
abbrev pub number_meet : ℕ → ℕ → ℕ
number_meet x y = min x y
