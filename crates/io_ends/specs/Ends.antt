-- What contracts see of a source and of a sink.
use Rattle.std.specs.Prelude.{ℕ, List}
use Rattle.std.specs.declared.option.Option.{Option}

-- the bytes that a source has left, where it reports them, and how many faults it has counted
pub record SourceView : Type 0 where
  pub left : Option (List ℕ)
  pub faults : ℕ

-- the bytes that a sink holds, where it reports them, and how many faults it has counted
pub record SinkView : Type 0 where
  pub held : Option (List ℕ)
  pub faults : ℕ

abbrev pub sink_view : Option (List ℕ) → ℕ → SinkView
sink_view held faults = record { held = held; faults = faults }
