use Rattle.std.proofs.Common.{◌++◌, ◌+◌, ◌∷◌, List, [], ◌∙◌, ap, sym, arith, add-one}
use Rattle.std.specs.Prelude.{Option, option_to_list, flat_map}
use Rattle.std.proofs.lemmas.List.{get_or-set_other, set_comm}
use Rattle.fs_dirs.specs.Tiers.{Tier}
use Rattle.fs_dirs.proofs.TierLemmas.{same_together, up_together}
use Rattle.fs_dirs.proofs.tiers.pull_in.Goals as goal

pub returns-clause-same : goal.returns-clause-same
returns-clause-same g c =
    let items = λ (t : Tier g.row.T.Denot). t.items in
    let ts = c.args.tiers.now.items in
    let here = c.index_mut-2.result.now in
    let shorter = sym (ap items c.index_mut.ensures.value) ∙ c.pop_front.ensures.items ∙ ap (λ (r : Option g.row.T.Denot). option_to_list r ++ c.pop_front.new.self.items) c.unwrap-item.ensures in
    let read = c.index_mut-2.ensures.value ∙ get_or-set_other ts (c.args.tier + 1) c.args.tier c.pop_front.new.self here (λ e. omega arith) in
    let longer = c.push_back_reserved.ensures.items ∙ ap (λ (t : Tier g.row.T.Denot). t.items ++ c.unwrap-item.result ∷ []) read in
    ap (λ (us : List (Tier g.row.T.Denot)). flat_map items us) (set_comm ts (c.args.tier + 1) c.args.tier c.pop_front.new.self c.push_back_reserved.new.self (λ e. omega arith))
    ∙ same_together items ts c.args.tier (c.args.tier + 1) c.push_back_reserved.new.self c.pop_front.new.self here c.index_mut.result.now (add-one _) c.requires.next
    (sym (up_together c.push_back_reserved.new.self.items c.pop_front.new.self.items _ _ c.unwrap-item.result longer shorter))
