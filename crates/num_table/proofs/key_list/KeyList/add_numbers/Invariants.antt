use Rattle.std.proofs.Common.{◌≡◌, ◌++◌, drop}
use Rattle.std.specs.Map.{keys_of}
use Rattle.kern_model.specs.LabelLists.{entries_from}
use Rattle.num_table.proofs.key_list.KeyList.add_numbers.Given as goal

-- the numbers so far and those that are left
abbrev pub invariant-loop-place : goal.invariant-loop-place
invariant-loop-place l = l.numbers.items ++ keys_of (entries_from l.label l.place (drop l.place l.self)) ≡ l.fn.numbers.items ++ keys_of (entries_from l.label 0 l.self)
