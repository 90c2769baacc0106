use Rattle.std.proofs.Common.{◌-◌, ◌+◌, ◌≡◌, ◌<◌, ◌≤◌, length}
use Rattle.fs_dirs.specs.Tiers.{HasSpare, all_items, first_size}
use Rattle.fs_dirs.proofs.tiers.spare_to_back.Given as goal

-- the spare place has come up to the tier `at`
abbrev pub invariant-loop-at : goal.invariant-loop-at
invariant-loop-at g l = record {
  ordered : l.at ≤ l.to;
  same : all_items l.tiers.items ≡ all_items l.fn.tiers.items;
  length : length l.tiers.items ≡ length l.fn.tiers.items;
  spare : HasSpare l.tiers.items l.at;
  none : l.at ≡ 0 → first_size l.tiers.items ≡ first_size l.fn.tiers.items;
  first : l.fn.from ≡ 0 → 0 < l.at → first_size l.tiers.items ≡ first_size l.fn.tiers.items + 1;
}

abbrev pub decreases-loop-at : goal.decreases-loop-at
decreases-loop-at g l = l.to - l.at
