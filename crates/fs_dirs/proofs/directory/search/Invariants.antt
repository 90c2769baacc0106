use Rattle.std.proofs.Common.{◌+◌, ◌-◌, ◌*◌, ◌^◌, ◌≤◌, length}
use Rattle.fs_dirs.specs.Directory.{IsBetween}
use Rattle.fs_dirs.proofs.directory.search.Given as goal

-- the name is nowhere else than in what is left; each step halves it
abbrev pub invariant-loop-low : goal.invariant-loop-low
invariant-loop-low g l = record {
  between : IsBetween l.entries l.name l.low l.high;
  counted : l.fn.steps ≤ l.steps;
  halved : 2 ^ (l.steps - l.fn.steps) * (l.high - l.low) ≤ length l.entries;
  few : 2 ^ (l.steps - l.fn.steps) ≤ 2 * length l.entries + 1;
}

abbrev pub decreases-loop-low : goal.decreases-loop-low
decreases-loop-low g l = l.high - l.low
