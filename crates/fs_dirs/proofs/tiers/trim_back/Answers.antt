use Rattle.std.proofs.Common.{◌++◌, ◌-◌, ◌∙◌, ap, sym, length, arith, get_or}
use Rattle.std.specs.Prelude.{Option, option_to_list}
use Rattle.std.proofs.lemmas.Bool.{eqb-true}
use Rattle.std.proofs.lemmas.List.{nil_from_length}
use Rattle.fs_dirs.specs.Tiers.{Tier}
use Rattle.fs_dirs.proofs.TierLemmas.{same_without, tiers_without}
use Rattle.fs_dirs.proofs.tiers.trim_back.Goals as goal

pub returns-then-is_empty-clause-same : goal.returns-then-is_empty-clause-same
returns-then-is_empty-clause-same g c =
    let ts = c.args.tiers.now.items in
    let last = c.index.result.now in
    let within = c.requires.within in
    let none = eqb-true last.len 0 (sym c.is_empty.ensures ∙ c.if-is_empty.true) in
    let ok = last.ok.0 in
    let split = c.pop.ensures.items ∙ ap (λ (r : Option (Tier g.row.T.Denot)). c.pop.new.self.items ++ option_to_list r) (c.pop.ensures.value last (omega arith)) in
    same_without ts c.pop.new.self.items (get_or ts (c.args.tiers.now.len - 1) last) split
    (nil_from_length (get_or ts (c.args.tiers.now.len - 1) last).items (ap (λ n. length (get_or ts (n - 1) last).items) (sym c.len-last.ensures) ∙ ap (λ (t : Tier g.row.T.Denot). length t.items) (sym c.index.ensures) ∙ sym ok ∙ none))

pub returns-then-is_empty-clause-tiers : goal.returns-then-is_empty-clause-tiers
returns-then-is_empty-clause-tiers g c =
    let ts = c.args.tiers.now.items in
    let last = c.index.result.now in
    let within = c.requires.within in
    let split = c.pop.ensures.items ∙ ap (λ (r : Option (Tier g.row.T.Denot)). c.pop.new.self.items ++ option_to_list r) (c.pop.ensures.value last (omega arith)) in
    tiers_without ts c.pop.new.self.items _ split c.requires
