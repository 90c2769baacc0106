-- The keys of a list as they are kept.
use Rattle.std.specs.Prelude.{ℕ, ◌==◌, ◌-◌, ◌^◌, Option, None, Some, cond}

-- the key that a number of 32 bits stands for: the greatest number stands for none
abbrev pub kept_key : ℕ → Option ℕ
kept_key n = cond (n == 2 ^ 32 - 1) None (Some n)
