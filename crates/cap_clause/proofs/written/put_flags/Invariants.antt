use Rattle.std.proofs.Common.{◌≡◌, ◌++◌, map, drop}
use Rattle.std.specs.List.{filter}
use Rattle.cap_bits.specs.State.{has_flag}
use Rattle.cap_clause.specs.Clauses.{all_flags}
use Rattle.cap_clause.specs.Written.{flag_byte}
use Rattle.cap_clause.proofs.written.put_flags.Given as goal

abbrev pub invariant-loop-flag : goal.invariant-loop-flag
invariant-loop-flag l = l.text.items ++ map flag_byte (filter (has_flag l.state l.cap) (drop l.flag-index all_flags)) ≡ l.initial.text.items ++ map flag_byte (filter (has_flag l.state l.cap) all_flags)
