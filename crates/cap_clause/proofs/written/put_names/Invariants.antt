use Rattle.std.proofs.Common.{◌≡◌, ◌-◌, ◌≤◌, ◌++◌, []}
use Rattle.cap_bits.specs.Cap.{cap_number}
use Rattle.cap_bits.specs.CapSet.{has}
use Rattle.cap_bits.specs.declared.cap.Cap.{Cap}
use Rattle.cap_clause.proofs.WriteLemmas.{names_from}
use Rattle.cap_clause.proofs.written.put_names.Given as goal

abbrev pub invariant-loop-cap : goal.invariant-loop-cap
invariant-loop-cap l = record {
  text : l.text.items ++ names_from l.mark l.caps l.number ≡ l.initial.text.items ++ names_from [] l.caps 0;
  left : (q : Cap) → l.number ≤ cap_number q → has l.left q ≡ has l.caps q;
  within : l.number ≤ 18;
}

abbrev pub decreases-loop-cap : goal.decreases-loop-cap
decreases-loop-cap l = 18 - l.number
