use Rattle.std.proofs.Common.{◌≡◌, drop}
use Rattle.std.specs.List.{filter_map}
use Rattle.cap_clause.specs.Clauses.{flag_of, put_flags}
use Rattle.cap_clause.proofs.action.put_flags.Given as goal

abbrev pub invariant-loop-byte : goal.invariant-loop-byte
invariant-loop-byte l = put_flags l.caps l.raised (filter_map flag_of l.flags) l.initial.state ≡ put_flags l.caps l.raised (filter_map flag_of (drop l.byte-index l.flags)) l.state
