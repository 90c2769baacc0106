use Rattle.std.proofs.Common.{◌+◌, ◌∙◌, ap, length, arith, List, get_or}
use Rattle.std.specs.List.{remove}
use Rattle.std.proofs.lemmas.List.Edits.{length-remove}
use Rattle.fs_dirs.specs.Tiers.{all_items, items_before}
use Rattle.fs_dirs.proofs.TierLemmas.{item_found, same_edit}
use Rattle.fs_dirs.proofs.tiers.Tiers.remove.Goals as goal

pub take_out-item-requires-clause-there : goal.take_out-item-requires-clause-there
take_out-item-requires-clause-there g c =
    let long = ap length c.self.view_is in
    (item_found c.self.inside.tiers.items _ _ _ _ _ c.self.invariant c.locate-tier.ensures (omega arith)).there

pub take_out-item-requires-clause-within : goal.take_out-item-requires-clause-within
take_out-item-requires-clause-within g c =
    let long = ap length c.self.view_is in
    (item_found c.self.inside.tiers.items _ _ _ _ _ c.self.invariant c.locate-tier.ensures (omega arith)).within

pub invariant_of-self : goal.invariant_of-self
invariant_of-self g c =
    let ts = c.self.inside.tiers.items in
    let long = ap length c.self.view_is in
    let at = (item_found ts _ _ _ _ _ c.self.invariant c.locate-tier.ensures (omega arith)).at in
    let total = c.self.invariant.total in
    let shorter = length-remove (all_items ts) (items_before ts c.locate-tier.result.0 + c.locate-tier.result.1) (omega arith) in
    let left = ap length (c.close_up.ensures.same ∙ c.take_out-item.ensures.left) in
    record {
      sizes = c.close_up.ensures.tiers;
      total = omega arith;
      front = c.first_len-self-inside.ensures;
    }

pub returns-clause-value : goal.returns-clause-value
returns-clause-value g c =
    let ts = c.self.inside.tiers.items in
    let long = ap length c.self.view_is in
    let at = (item_found ts _ _ _ _ _ c.self.invariant c.locate-tier.ensures (omega arith)).at in
    c.take_out-item.ensures.value ∙ same_edit (λ (xs : List g.row.T.Denot) n. get_or xs n c.take_out-item.result) c.args.self.now (all_items ts) c.args.place _ c.self.view_is at

pub returns-clause-left : goal.returns-clause-left
returns-clause-left g c =
    let ts = c.self.inside.tiers.items in
    let long = ap length c.self.view_is in
    let at = (item_found ts _ _ _ _ _ c.self.invariant c.locate-tier.ensures (omega arith)).at in
    c.close_up.ensures.same ∙ c.take_out-item.ensures.left ∙ same_edit (λ (xs : List g.row.T.Denot) n. remove xs n) c.args.self.now (all_items ts) c.args.place _ c.self.view_is at
