-- What contracts see of a source over a reader.
use Rattle.std.specs.Prelude.{ℕ, List}
use Rattle.std.specs.declared.option.Option.{Option}

-- the bytes that the reader has left, where it reports them, and how many faults there were
pub record ReaderState : Type 0 where
  pub reported : Option (List ℕ)
  pub faults : ℕ
