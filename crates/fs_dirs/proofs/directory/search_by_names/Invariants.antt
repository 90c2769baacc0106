use Rattle.std.proofs.Common.{◌-◌, ◌*◌, ◌^◌, ◌≤◌}
use Rattle.fs_dirs.specs.Directory.{IsBetween}
use Rattle.fs_dirs.proofs.directory.search_by_names.Given as goal

-- the name is nowhere else than in what is left; each step halves it
abbrev pub invariant-loop-from : goal.invariant-loop-from
invariant-loop-from g l = record {
  between : IsBetween l.entries l.name l.from l.to;
  counted : l.fn.steps ≤ l.steps;
  halved : 2 ^ (l.steps - l.fn.steps) * (l.to - l.from) ≤ l.initial.to - l.initial.from;
  few : 2 ^ (l.steps - l.fn.steps) ≤ 2 * (l.initial.to - l.initial.from);
}

abbrev pub decreases-loop-from : goal.decreases-loop-from
decreases-loop-from g l = l.to - l.from
