use Rattle.std.proofs.Common.{◌≡◌, ◌∙◌, ap, subst, refl, sym, get_or}
use Rattle.std.specs.Prelude.{Option, IfSome, OnSome}
use Rattle.std.specs.List.{remove}
use Rattle.fs_dirs.specs.Tiers.{Tier}
use Rattle.fs_dirs.proofs.TierLemmas.{item_there, taken_from}
use Rattle.fs_dirs.proofs.tiers.take_out.Goals as goal

pub returns-clause-value : goal.returns-clause-value
returns-clause-value g c =
    let item = c.unwrap.result in
    let here = c.index_mut.result.now in
    let read = subst (λ (r : Option g.row.T.Denot). IfSome r (λ y. y ≡ get_or here.items c.args.index y)) c.unwrap.ensures c.remove.ensures.value in
    read ∙ ap (λ (t : Tier g.row.T.Denot). get_or t.items c.args.index item) c.index_mut.ensures.value
    ∙ sym (item_there (λ (t : Tier g.row.T.Denot). t.items) c.args.tiers.now.items c.args.tier c.requires.there c.args.index _ refl here item (c.requires.within here))

pub returns-clause-left : goal.returns-clause-left
returns-clause-left g c =
    let here = c.index_mut.result.now in
    let left = subst (λ (r : Option g.row.T.Denot). OnSome r (c.remove.new.self.items ≡ remove here.items c.args.index)) c.unwrap.ensures c.remove.ensures.items in
    taken_from (λ (t : Tier g.row.T.Denot). t.items) c.args.tiers.now.items c.args.tier c.requires.there c.args.index _ refl c.remove.new.self here (c.requires.within here)
    (left ∙ ap (λ (t : Tier g.row.T.Denot). remove t.items c.args.index) c.index_mut.ensures.value)
