use Rattle.std.proofs.Common.{◌≡◌, ◌++◌, length, map}
use Rattle.std.specs.List.{join_with_byte}
use Rattle.cap_clause.specs.Written.{firsts_of, group_text}
use Rattle.cap_clause.proofs.WriteLemmas.{AreGroups, firsts_in, groups_left}
use Rattle.cap_clause.proofs.written.put_groups.Given as goal

abbrev pub invariant-loop-cap : goal.invariant-loop-cap
invariant-loop-cap l = record {
  text : l.text.items ++ groups_left l.mark l.state l.left ≡ l.initial.text.items ++ join_with_byte 32 (map (group_text l.state) (firsts_of l.state));
  groups : AreGroups l.state l.left;
}

abbrev pub decreases-loop-cap : goal.decreases-loop-cap
decreases-loop-cap l = length (firsts_in l.state l.left)
