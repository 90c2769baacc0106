use Rattle.lab_text.proofs.ScanLemmas.{ReadTo}
use Rattle.lab_text.proofs.scan.syntax_fault.Given as goal

abbrev pub invariant-loop-at : goal.invariant-loop-at
invariant-loop-at l = ReadTo l.text l.at l.scan
