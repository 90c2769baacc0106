-- What contracts see of the generated input as a source.
use Rattle.std.specs.Prelude.{ℕ, ◌<◌, List, length}
use Rattle.std.specs.List.{All}

-- the bytes that are left, and how many faults there were
pub record GeneratedState : Type 0 where
  pub left : List ℕ
  pub faults : ℕ

-- no piece is empty
abbrev pub NoneEmpty : List (List ℕ) → Type 0
NoneEmpty pieces = All (λ piece. 0 < length piece) pieces
