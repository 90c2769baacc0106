use Rattle.std.proofs.Common.{◌≡◌, ◌+◌, length}
use Rattle.cap_clause.specs.Reading.{parse_actions}
use Rattle.cap_clause.proofs.action.read_actions.Given as goal

abbrev pub invariant-loop-operator : goal.invariant-loop-operator
invariant-loop-operator l = record {
  parsed : parse_actions l.start l.caps l.actions l.initial.state ≡ parse_actions l.at l.caps l.left l.state;
  place : l.at + length l.left ≡ l.start + length l.actions;
}

abbrev pub decreases-loop-operator : goal.decreases-loop-operator
decreases-loop-operator l = length l.left
