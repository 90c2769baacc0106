use Rattle.std.proofs.Common.{◌≡◌, ◌-◌, ◌≤◌, length}
use Rattle.cap_clause.specs.Clauses.{is_blank, clauses_of}
use Rattle.cap_clause.specs.Parsed.{parse_caps}
use Rattle.cap_clause.proofs.Steps.{Stops, parse_clauses}
use Rattle.cap_clause.proofs.clause.cap_from_text.Given as goal

abbrev pub invariant-loop-left : goal.invariant-loop-left
invariant-loop-left l = record {
  parsed : parse_caps l.text ≡ parse_clauses (clauses_of (length l.text - length l.left) l.left) l.state;
  stops : Stops is_blank l.left;
  within : length l.left ≤ length l.text;
}

abbrev pub decreases-loop-left : goal.decreases-loop-left
decreases-loop-left l = length l.left
