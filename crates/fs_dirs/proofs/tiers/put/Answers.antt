use Rattle.std.proofs.Common.{◌<◌, ◌∙◌, ap, subst, refl, sym, arith}
use Rattle.std.specs.List.{insert}
use Rattle.fs_dirs.specs.Tiers.{Tier}
use Rattle.fs_dirs.proofs.TierLemmas.{not_full, put_in}
use Rattle.fs_dirs.proofs.tiers.put.Goals as goal

pub returns-clause-inserted : goal.returns-clause-inserted
returns-clause-inserted g c =
    let before = c.requires.spare in
    let items = λ (t : Tier g.row.T.Denot). t.items in
    let spare = subst (λ (t : Tier g.row.T.Denot). t.len < t.cap) (sym c.index_mut.ensures.value) (before.spare c.index_mut.result.now) in
    let done = not_full c.insert-done.result c.insert-done.ensures.full (λ h. omega arith) c.insert-done.ensures.items in
    put_in items c.args.tiers.now.items c.args.tier before.within c.args.index _ refl c.insert-done.new.self c.index_mut.result.now c.args.item (c.requires.within c.index_mut.result.now)
    (done ∙ ap (λ (t : Tier g.row.T.Denot). insert t.items c.args.index c.args.item) c.index_mut.ensures.value)
