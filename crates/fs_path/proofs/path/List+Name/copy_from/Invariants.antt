use Rattle.std.proofs.Common.{◌≡◌, take}
use Rattle.fs_path.proofs.path.List+Name.copy_from.Given as goal

abbrev pub invariant-loop-name : goal.invariant-loop-name
invariant-loop-name l = l.self ≡ take l.name-index l.names
