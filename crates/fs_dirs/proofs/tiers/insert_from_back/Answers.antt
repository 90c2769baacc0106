use Rattle.std.proofs.Common.{◌∙◌, ap, subst, length, arith, List}
use Rattle.std.specs.List.{insert}
use Rattle.fs_dirs.specs.Tiers.{IsIndexOf, all_items}
use Rattle.fs_dirs.proofs.TierLemmas.{same_edit, spare_last, spare_place, spare_within}
use Rattle.fs_dirs.proofs.tiers.insert_from_back.Goals as goal

pub spare_to_front-requires-clause-order : goal.spare_to_front-requires-clause-order
spare_to_front-requires-clause-order g c =
    let ts = c.grow_at_back.new.tiers.items in
    let grown = c.in_ok-grow_at_back.ensures in
    let long = ap length grown.same in
    let many = c.requires.many in
    let there = spare_last ts c.args.place c.locate-tier.result.0 c.locate-tier.result.1 grown.ok (omega arith) (omega arith)
    (subst (λ n. IsIndexOf n c.args.place c.locate-tier.result.0 c.locate-tier.result.1) c.first_len.ensures c.locate-tier.ensures) in
    let ok = c.grow_at_back.new.tiers.ok in
    omega arith

pub put-requires-clause-within : goal.put-requires-clause-within
put-requires-clause-within g c =
    let us = c.spare_to_front.new.tiers.items in
    let moved = c.spare_to_front.ensures in
    let size = c.first_len.ensures in
    let long = ap length (moved.same ∙ c.in_ok-grow_at_back.ensures.same) in
    spare_within us _ c.args.place c.locate-tier.result.0 c.locate-tier.result.1 moved.spare c.locate-tier.ensures
    (λ p. (let l = moved.later p in omega arith)) (λ z. (let f = moved.first z in omega arith)) (omega arith)

pub returns-clause-ok : goal.returns-clause-ok
returns-clause-ok g c =
    let us = c.spare_to_front.new.tiers.items in
    let moved = c.spare_to_front.ensures in
    let size = c.first_len.ensures in
    let at = spare_place us _ c.args.place c.locate-tier.result.0 c.locate-tier.result.1 moved.spare c.locate-tier.ensures
    (λ p. (let l = moved.later p in omega arith)) (λ z. (let f = moved.first z in omega arith)) in
    c.put.ensures.inserted
    ∙ same_edit (λ (xs : List g.row.T.Denot) n. insert xs n c.args.item) (all_items c.args.tiers.now.items) (all_items us) c.args.place _ (moved.same ∙ c.in_ok-grow_at_back.ensures.same) at
