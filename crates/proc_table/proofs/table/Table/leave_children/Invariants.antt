use Rattle.std.proofs.Common.{◌≡◌}
use Rattle.proc_table.specs.Children.{IsKept, child_count}
use Rattle.proc_table.specs.Procs.{all_without_parent}
use Rattle.proc_table.proofs.table.Table.leave_children.Given as goal

-- the children so far have lost their parent, as they have in the end
abbrev pub invariant-loop-child : goal.invariant-loop-child
invariant-loop-child l = record {
  kept : IsKept l.self.living l.self.children l.self.made;
  parted : all_without_parent l.who l.self.living ≡ all_without_parent l.who l.fn.self.living;
  numbers : l.self.numbers ≡ l.fn.self.numbers;
}

abbrev pub decreases-loop-child : goal.decreases-loop-child
decreases-loop-child l = child_count l.self.children l.who
