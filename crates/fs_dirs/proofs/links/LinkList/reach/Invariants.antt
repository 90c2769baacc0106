use Rattle.std.proofs.Common.{◌≡◌, ◌+◌, ◌-◌, ℕ, [], get_or, length}
use Rattle.fs_dirs.proofs.links.LinkList.reach.Given as goal

-- the list says of each count what it said
abbrev pub invariant-loop-self : goal.invariant-loop-self
invariant-loop-self l = (m : ℕ) → get_or l.self-inside.links.items m [] ≡ get_or l.fn.self m []

abbrev pub decreases-loop-self : goal.decreases-loop-self
decreases-loop-self l = l.n + 1 - length l.self-inside.links.items
