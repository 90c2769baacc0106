use Rattle.std.proofs.Common.{◌≡◌, ◌≤◌, drop}
use Rattle.fs_path.proofs.ValueLemmas.{value_within}
use Rattle.fs_path.proofs.values.digits_value.Given as goal

abbrev pub invariant-loop-byte : goal.invariant-loop-byte
invariant-loop-byte l = (value_within l.base l.high 0 l.word ≡ value_within l.base l.high l.value (drop l.byte-index l.word)) × (l.value ≤ l.high)
