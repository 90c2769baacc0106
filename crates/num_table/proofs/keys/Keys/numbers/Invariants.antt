use Rattle.std.proofs.Common.{◌≡◌, ◌++◌}
use Rattle.std.specs.FinMap as map
use Rattle.num_table.proofs.InOrder.{left}
use Rattle.num_table.proofs.keys.Keys.numbers.Given as goal

-- the numbers so far and those of the labels that are left
abbrev pub invariant-loop-label : goal.invariant-loop-label
invariant-loop-label l = l.numbers.items ++ left l.self-inside.by_label l.label-items l.label-index ≡ map.keys l.self
