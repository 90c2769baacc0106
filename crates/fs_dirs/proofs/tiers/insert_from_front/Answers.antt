use Rattle.std.proofs.Common.{◌+◌, ◌∙◌, ap, subst, length, arith, refl, List}
use Rattle.std.specs.List.{insert}
use Rattle.fs_dirs.specs.Tiers.{IsIndexOf, all_items}
use Rattle.fs_dirs.proofs.TierLemmas.{same_edit, spare_first, spare_place, spare_small, spare_within}
use Rattle.fs_dirs.proofs.tiers.insert_from_front.Goals as goal

pub overflow_add-first_len : goal.overflow_add-first_len
overflow_add-first_len g c = let small = spare_small c.grow_at_front.new.tiers.items c.in_ok-grow_at_front.ensures.ok in omega arith

pub spare_to_back-requires-clause-within : goal.spare_to_back-requires-clause-within
spare_to_back-requires-clause-within g c =
    let ts = c.grow_at_front.new.tiers.items in
    let grown = c.in_ok-grow_at_front.ensures in
    let long = ap length grown.same in
    spare_first ts _ _ _ grown.ok (omega arith)
    (subst (λ n. IsIndexOf (n + 1) c.args.place c.locate-tier.result.0 c.locate-tier.result.1) c.first_len.ensures c.locate-tier.ensures)

pub put-requires-clause-within : goal.put-requires-clause-within
put-requires-clause-within g c =
    let us = c.spare_to_back.new.tiers.items in
    let moved = c.spare_to_back.ensures in
    let size = c.first_len.ensures in
    let long = ap length (moved.same ∙ c.in_ok-grow_at_front.ensures.same) in
    spare_within us _ c.args.place c.locate-tier.result.0 c.locate-tier.result.1 moved.spare c.locate-tier.ensures
    (λ p. (let f = moved.first refl p in omega arith)) (λ z. (let n = moved.none z in omega arith)) (omega arith)

pub returns-clause-ok : goal.returns-clause-ok
returns-clause-ok g c =
    let us = c.spare_to_back.new.tiers.items in
    let moved = c.spare_to_back.ensures in
    let size = c.first_len.ensures in
    let at = spare_place us _ c.args.place c.locate-tier.result.0 c.locate-tier.result.1 moved.spare c.locate-tier.ensures
    (λ p. (let f = moved.first refl p in omega arith)) (λ z. (let n = moved.none z in omega arith)) in
    c.put.ensures.inserted
    ∙ same_edit (λ (xs : List g.row.T.Denot) n. insert xs n c.args.item) (all_items c.args.tiers.now.items) (all_items us) c.args.place _ (moved.same ∙ c.in_ok-grow_at_front.ensures.same) at
