use Rattle.std.proofs.Common.{◌<◌, ◌∙◌, ap, subst, sym, length, arith, get_or, List}
use Rattle.fs_dirs.specs.Tiers.{Tier}
use Rattle.fs_dirs.proofs.TierLemmas.{item_found, item_there}
use Rattle.fs_dirs.proofs.tiers.Tiers.item.Goals as goal

pub index-requires : goal.index-requires
index-requires g c =
    let long = ap length c.self.view_is in
    let found = item_found c.self.inside.tiers.items _ _ _ _ _ c.self.invariant c.locate-tier.ensures (omega arith) in
    let there = found.there in
    let ok = c.self.inside.tiers.ok in
    omega arith

pub index-requires-2 : goal.index-requires-2
index-requires-2 g c =
    let ts = c.self.inside.tiers.items in
    let tier = c.locate-tier.result.0 in
    let index = c.locate-tier.result.1 in
    let here = c.index.result.now in
    let long = ap length c.self.view_is in
    let found = item_found ts _ _ _ _ _ c.self.invariant c.locate-tier.ensures (omega arith) in
    let within = found.within here in
    subst (λ (t : Tier g.row.T.Denot). index < t.len) (sym c.index.ensures)
    (let ok = (get_or ts tier here).ok.0 in omega arith)

pub returns : goal.returns
returns g c =
    let ts = c.self.inside.tiers.items in
    let tier = c.locate-tier.result.0 in
    let index = c.locate-tier.result.1 in
    let long = ap length c.self.view_is in
    let here = c.index.result.now in
    let item = c.index-2.result.now in
    let found = item_found ts _ _ _ _ _ c.self.invariant c.locate-tier.ensures (omega arith) in
    c.index-2.ensures ∙ ap (λ (t : Tier g.row.T.Denot). get_or t.items index item) c.index.ensures
    ∙ sym (item_there (λ (t : Tier g.row.T.Denot). t.items) ts tier found.there index c.args.place found.at here item (found.within here))
    ∙ ap (λ (xs : List g.row.T.Denot). get_or xs c.args.place item) c.self.view_is
