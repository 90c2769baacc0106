use Rattle.std.proofs.Common.{◌-◌, ◌+◌, ◌≡◌, ◌<◌, ◌≤◌}
use Rattle.fs_dirs.specs.Tiers.{HasSpare, all_items, first_size}
use Rattle.fs_dirs.proofs.tiers.spare_to_front.Given as goal

-- the spare place has come down to the tier `at`
abbrev pub invariant-loop-at : goal.invariant-loop-at
invariant-loop-at g l = record {
  ordered : l.to ≤ l.at;
  same : all_items l.tiers.items ≡ all_items l.fn.tiers.items;
  spare : HasSpare l.tiers.items l.at;
  first : l.at ≡ 0 → first_size l.fn.tiers.items ≤ first_size l.tiers.items + 1;
  later : 0 < l.at → first_size l.tiers.items ≡ first_size l.fn.tiers.items;
}

abbrev pub decreases-loop-at : goal.decreases-loop-at
decreases-loop-at g l = l.at - l.to
