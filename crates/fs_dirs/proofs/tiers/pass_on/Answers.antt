use Rattle.std.proofs.Common.{◌≡◌, ◌++◌, ◌+◌, ◌∷◌, ◌∙◌, ap, subst, sym, arith, add-one, refl, get_or, length}
use Rattle.std.specs.Prelude.{Option, MatchOption, option_to_list}
use Rattle.std.proofs.lemmas.List.{get_or-set_other}
use Rattle.fs_dirs.specs.Tiers.{Tier}
use Rattle.fs_dirs.proofs.TierLemmas.{first_there, first_later, first_zeroth, same_together, up_together, spare_before}
use Rattle.fs_dirs.proofs.tiers.pass_on.Goals as goal

pub returns : goal.returns
returns g c =
    let ts = c.args.tiers.now.items in
    let items = λ (t : Tier g.row.T.Denot). t.items in
    let left = c.pop_back.new.self in
    let popped = c.index_mut.result.now in
    let next = c.index_mut-2.result.now in
    let item = c.unwrap-item.result in
    let within = c.requires.within in
    let shorter = sym (ap items c.index_mut.ensures.value) ∙ c.pop_back.ensures.items ∙ ap (λ (r : Option g.row.T.Denot). left.items ++ option_to_list r) c.unwrap-item.ensures in
    let read = c.index_mut-2.ensures.value ∙ get_or-set_other ts c.args.tier (c.args.tier + 1) left next (λ e. omega arith) in
    let longer = c.push_front_reserved.ensures.items ∙ ap (λ (t : Tier g.row.T.Denot). item ∷ t.items) read in
    let one = subst (λ (r : Option g.row.T.Denot). MatchOption r ((popped.len ≡ 0) × (left.len ≡ 0)) (λ _. left.len + 1 ≡ popped.len)) c.unwrap-item.ensures c.pop_back.ensures.cases in
    let small = popped.small in
    record {
      same = same_together items ts c.args.tier (c.args.tier + 1) left c.push_front_reserved.new.self popped next (add-one _) within (up_together _ _ left.items c.push_front_reserved.new.self.items item shorter longer);
      spare = spare_before ts c.args.tier (c.args.tier + 1) left c.push_front_reserved.new.self popped next item refl c.requires shorter longer (omega arith);
      first = λ z. (let e = first_zeroth ts c.args.tier left c.push_front_reserved.new.self (omega arith) z in let l = left.ok.0 in let p = popped.ok.0 in let was = first_there ts popped (omega arith) in let s = ap (λ (t : Tier g.row.T.Denot). length t.items) c.index_mut.ensures.value in let k = ap (λ n. length (get_or ts n popped).items) z in omega arith);
      later = λ p. first_later ts c.args.tier (c.args.tier + 1) left c.push_front_reserved.new.self p (omega arith);
    }
