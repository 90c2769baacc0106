use Rattle.std.proofs.Common.{◌<◌, ◌∙◌, ap, subst, sym, length, length-set, arith, get_or, set, refl, List}
use Rattle.std.specs.Borrow.{MutBor}
use Rattle.std.specs.Prelude.{IsSome}
use Rattle.std.specs.VecDeque.{deque_with_item}
use Rattle.fs_dirs.specs.Tiers.{Tier, IsIndexOf}
use Rattle.fs_dirs.proofs.TierLemmas.{if_some, item_back, item_found, item_place, item_there, tiers_over, on_some, replaced, same_items}
use Rattle.fs_dirs.proofs.tiers.Tiers.get_mut.Goals as goal

pub invariant_of-self-lent : goal.invariant_of-self-lent
invariant_of-self-lent g c r =
    let ts = c.self.inside.tiers.items in
    let tier = c.in-Some.tier.now in
    let at = c.locate-tier.result.0 in
    let place = c.locate-tier.result.1 in
    let same = ap (λ (t : Tier g.row.T.Denot). length t.items) c.in-Some.ensures.value in (
      (λ w. tiers_over ts c.self.inside.len c.self.inside.first at (deque_with_item tier place w) tier c.self.invariant (length-set tier.items place w ∙ same)),
      tiers_over ts c.self.inside.len c.self.inside.first at tier tier c.self.invariant same,
    )

pub returns-in-Some : goal.returns-in-Some
returns-in-Some g c =
    let ts = c.self.inside.tiers.items in
    let items = λ (t : Tier g.row.T.Denot). t.items in
    let tier = c.in-Some.tier.now in
    let at = c.locate-tier.result.0 in
    let place = c.locate-tier.result.1 in
    let is = c.in-Some.ensures.value in
    let lent = c.get_mut-in-Some in
    let long = ap length c.self.view_is in
    let there : at < length ts = (let h = c.in-Some.ensures.variant.0 refl in let ok = c.self.inside.tiers.ok in omega arith) in
    let index_is = subst (λ n. IsIndexOf n c.args.place at place) c.self.invariant.front c.locate-tier.ensures in
    let is_at = item_place ts c.args.place at place c.self.invariant.sizes index_is there in
    let in_tier = λ (h : place < tier.len). subst (λ (t : Tier g.row.T.Denot). place < length t.items) is (let ok = tier.ok.0 in omega arith) in
    let within = λ (h : IsSome lent.result). in_tier (lent.ensures.variant.0 h) in (
      (
        refl,
        (λ w. on_some lent.result (λ h. replaced items ts at there place c.args.place is_at (deque_with_item tier place w) tier w (within h) (ap (λ (t : Tier g.row.T.Denot). set t.items place w) is) ∙ ap (λ (xs : List g.row.T.Denot). set xs c.args.place w) c.self.view_is)),
        same_items items ts at tier tier (ap items is) ∙ c.self.view_is,
      ),
      record {
        writes_back = tt;
        variant = (
          (λ h. (let b = item_back ts c.args.place at place c.self.invariant.sizes index_is there tier (within h) in omega arith)),
          (λ h. lent.ensures.variant.1 (let v = (item_found ts _ _ _ _ _ c.self.invariant c.locate-tier.ensures (omega arith)).within tier in let ok = tier.ok.0 in let same = ap (λ (t : Tier g.row.T.Denot). length t.items) is in omega arith)),
        );
        value = if_some lent.result (λ (b : MutBor g.row.T.Denot) h e. e ∙ ap (λ (t : Tier g.row.T.Denot). get_or t.items place b.now) is ∙ sym (item_there items ts at there place c.args.place is_at tier b.now (within h)) ∙ ap (λ (xs : List g.row.T.Denot). get_or xs c.args.place b.now) c.self.view_is) lent.ensures.value;
      },
    )

pub returns-in-None : goal.returns-in-None
returns-in-None g c =
    let long = ap length c.self.view_is in
    let ok = c.self.inside.tiers.ok in (
      (refl, (λ _. tt), c.self.view_is),
      record {
        writes_back = tt;
        variant = (
          (λ h. cc),
          (λ h. c.in-None.ensures.variant.1 (let t = (item_found c.self.inside.tiers.items _ _ _ _ _ c.self.invariant c.locate-tier.ensures (omega arith)).there in omega arith)),
        );
        value = tt;
      },
    )
