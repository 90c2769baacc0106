use Rattle.std.proofs.Common.{◌≡◌, ◌+◌, ◌-◌, ℕ, get_or, length}
use Rattle.std.specs.FinMap as map
use Rattle.fs_dirs.proofs.dirs.DirectoryList.reach.Given as goal

-- the list says of each count what it said
abbrev pub invariant-loop-alloc : goal.invariant-loop-alloc
invariant-loop-alloc l = (m : ℕ) → get_or l.self-inside.directories.items m map.empty ≡ get_or l.fn.self m map.empty

abbrev pub decreases-loop-alloc : goal.decreases-loop-alloc
decreases-loop-alloc l = l.n + 1 - length l.self-inside.directories.items
