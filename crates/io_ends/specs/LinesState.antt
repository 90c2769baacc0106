-- What contracts see of a reader of lines.
use Rattle.std.specs.Prelude.{ℕ, ◌+◌, ◌-◌, Bool, List, length}

pub record LinesState : Type 0 where
  -- the line that was given last
  pub line : List ℕ
  -- the bytes that were read and not given
  pub held : List ℕ
  -- how many bytes, from those that are held on, are within the limit
  pub room : ℕ
  -- the number of the line that was asked for last
  pub number : ℕ
  -- each answer so far was a line
  pub more : Bool

-- how many more bytes the reader may take from its source
abbrev pub may_take : LinesState → ℕ
may_take s = s.room + 1 - length s.held
