use Rattle.std.proofs.Common.{◌≡◌, ◌++◌, take}
use Rattle.fs_path.specs.Values.{after_commas}
use Rattle.fs_path.proofs.values.put_groups.Given as goal

abbrev pub invariant-loop-group : goal.invariant-loop-group
invariant-loop-group l = l.text.items ≡ l.initial.text.items ++ after_commas (take l.group-index l.more)
