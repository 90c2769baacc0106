-- The counts of faults of a run.
use Rattle.std.specs.Prelude.{◌≡◌, ℕ, Result, MatchResult}
use Rattle.io_ends.specs.Faults.{next_count}
use Rattle.io_ends.specs.declared.whole.ReadError.{ReadError}
use Rattle.io_ends.specs.declared.whole.ReadError.TheVariants as read
use Rattle.lab_engine.specs.declared.ending.Fault.{Fault}
use Rattle.lab_engine.specs.declared.ending.Fault.TheVariants.{Read, Write, Trail, NoMemory as Memory}

-- how many faults the source, the output and the trail have counted
pub record Counts : Type 0 where
  pub source : ℕ
  pub out : ℕ
  pub trail : ℕ

abbrev pub counts : ℕ → ℕ → ℕ → Counts
counts source out trail = record { source = source; out = out; trail = trail }

-- the counts after this fault: one more at its end
unfoldable pub counted_by : Fault → Counts → Counts
counted_by Read c = record c { source = next_count c.source }
counted_by Write c = record c { out = next_count c.out }
counted_by Trail c = record c { trail = next_count c.trail }
counted_by Memory c = c

-- a function that succeeded counted no fault, and one that failed counted its fault once
abbrev pub CountsOnce : {T : Type 0} → Result T Fault → Counts → Counts → Type 0
CountsOnce result before after = MatchResult result (λ _. after ≡ before) (λ fault. after ≡ counted_by fault before)

-- the fault of a run whose read failed
abbrev pub fault_of_read : ReadError → Fault
fault_of_read read.Failed = Read
fault_of_read read.NoMemory = Memory
