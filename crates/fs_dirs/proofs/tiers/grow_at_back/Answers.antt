use Rattle.std.proofs.Common.{ap, ◌∙◌}
use Rattle.fs_dirs.specs.Tiers.{Tier}
use Rattle.fs_dirs.proofs.TierLemmas.{same_items}
use Rattle.fs_dirs.proofs.tiers.grow_at_back.Goals as goal

pub returns-in_err-reserve-clause-same : goal.returns-in_err-reserve-clause-same
returns-in_err-reserve-clause-same g c =
    same_items (λ (t : Tier g.row.T.Denot). t.items) c.args.tiers.now.items _ c.reserve.new.self c.index_mut.result.now
    (c.in_err-reserve.ensures.items ∙ ap (λ (t : Tier g.row.T.Denot). t.items) c.index_mut.ensures.value)

pub returns-then-len-lt-TIER-clause-same : goal.returns-then-len-lt-TIER-clause-same
returns-then-len-lt-TIER-clause-same g c =
    same_items (λ (t : Tier g.row.T.Denot). t.items) c.args.tiers.now.items _ c.reserve.new.self c.index_mut.result.now
    (c.in_ok-reserve.ensures.items ∙ ap (λ (t : Tier g.row.T.Denot). t.items) c.index_mut.ensures.value)
