-- The counts of faults beside a sink that counted none.
use Rattle.std.proofs.Common.{◌≡◌, ℕ, refl, ap, arith}
use Rattle.io_ends.specs.Faults.{next_count}
use Rattle.lab_engine.specs.declared.ending.Fault.{Fault}
use Rattle.lab_engine.specs.declared.ending.Fault.TheVariants.{Read, Write, Trail, NoMemory}
use Rattle.lab_engine.specs.Counts.{Counts, counted_by, counts}

no_first : (k : ℕ) → k ≡ 1 → 0 ≡ k → ⊥
no_first k is e = omega (arith, is, e)

-- a fault that the trail did not count is the same beside any trail
pub any_trail_counts : (fault : Fault) (n n' o o' : ℕ) → counts n' o' 0 ≡ counted_by fault (counts n o 0) → (t : ℕ) → counts n' o' t ≡ counted_by fault (counts n o t)
unfolding counted_by
any_trail_counts Read n n' o o' e t = ap (λ (c : Counts). counts c.source c.out t) e
any_trail_counts Write n n' o o' e t = ap (λ (c : Counts). counts c.source c.out t) e
any_trail_counts Trail n n' o o' e t = absurd (no_first (next_count 0) refl (ap (λ (c : Counts). c.trail) e))
any_trail_counts NoMemory n n' o o' e t = ap (λ (c : Counts). counts c.source c.out t) e

-- and one that the output did not count beside any output
any_out_counts : (fault : Fault) (n n' t t' : ℕ) → counts n' 0 t' ≡ counted_by fault (counts n 0 t) → (o : ℕ) → counts n' o t' ≡ counted_by fault (counts n o t)
unfolding counted_by
any_out_counts Read n n' t t' e o = ap (λ (c : Counts). counts c.source o c.trail) e
any_out_counts Write n n' t t' e o = absurd (no_first (next_count 0) refl (ap (λ (c : Counts). c.out) e))
any_out_counts Trail n n' t t' e o = ap (λ (c : Counts). counts c.source o c.trail) e
any_out_counts NoMemory n n' t t' e o = ap (λ (c : Counts). counts c.source o c.trail) e

pub any_sink_counts : (fault : Fault) (n n' : ℕ) → counts n' 0 0 ≡ counted_by fault (counts n 0 0) → (o t : ℕ) → counts n' o t ≡ counted_by fault (counts n o t)
any_sink_counts fault n n' e o t = any_out_counts fault n n' t t (any_trail_counts fault n n' 0 0 e t) o
