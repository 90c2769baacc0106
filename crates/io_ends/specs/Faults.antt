-- How a source or a sink counts its faults, and what a write that failed leaves.
use Rattle.std.specs.Prelude.{◌≡◌, ℕ, ◌+◌, ◌-◌, ◌^◌, ◌<◌, min, List, ◌++◌, length, OnOk, OnErr, Result}
use Rattle.std.specs.declared.option.Option.{Option}
use Rattle.std.specs.Io.KnownBytes.{Appends}

-- the next count of faults, or the next number of a call, which stays at 2^64 - 1 once there
abbrev pub next_count : ℕ → ℕ
next_count n = min (n + 1) (2 ^ 64 - 1)

-- a call that failed was counted once, and one that succeeded was not
pub record CountsFault {T E : Type 0} (before now : ℕ) (result : Result T E) : Type 0 where
  pub still : OnOk result (now ≡ before)
  pub once : OnErr result (now ≡ next_count before)

-- a proper prefix of the piece was appended
pub record AppendsPart (old new : Option (List ℕ)) (piece : List ℕ) : Type 0 where
  pub part : List ℕ
  pub rest : List ℕ
  pub piece_is : piece ≡ part ++ rest
  pub left : 0 < length rest
  pub wrote : Appends old new part
