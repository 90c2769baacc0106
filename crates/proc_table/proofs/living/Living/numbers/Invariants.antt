use Rattle.std.proofs.Common.{◌≡◌, ◌++◌}
use Rattle.std.specs.Prelude.{map as map_list}
use Rattle.std.specs.Vec.Iter.{into_iter_items}
use Rattle.std.specs.FinMap as map
use Rattle.kern_model.specs.ByNumber.{pid_at}
use Rattle.proc_table.proofs.living.Living.numbers.Given as goal

-- the numbers so far and those that are left
abbrev pub invariant-loop-label : goal.invariant-loop-label
invariant-loop-label l = l.numbers ++ map_list pid_at (into_iter_items l.label-iterator) ≡ map.keys l.self
