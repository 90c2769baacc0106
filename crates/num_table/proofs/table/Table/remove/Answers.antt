use Rattle.std.specs.Prelude.{ℕ}
use Rattle.std.specs.FinMap as map
use Rattle.std.specs.FinMap.{FinMap}
use Rattle.std.proofs.Common.{ap, sym, subst, ◌∙◌}
use Rattle.kern_model.specs.Numbers.{Num, num_cmp}
use Rattle.num_table.specs.Slots.{IsPlaced, values_in}
use Rattle.kern_model.proofs.NumberLaws.{num_cmp_exact, num_cmp_total}
use Rattle.num_table.proofs.Slots.{absent_removed, no_value, removed_placed, removed_value, same_keys, value_at}
use Rattle.num_table.proofs.table.Table.remove.Goals as goal

pub invariant_of-self : goal.invariant_of-self
invariant_of-self g c =
    subst (λ (keys : FinMap num_cmp ℕ). IsPlaced c.self.inside.slots keys)
    (sym (same_keys num_cmp_total num_cmp_exact c.self.inside.slots c.self.inside.keys c.args.self.now c.self.view_is (c.args.label.now, c.args.n) c.remove.result c.remove.ensures.removed c.in_err-key.was c.remove.new.self c.remove.ensures.left))
    c.self.invariant

pub returns-in_err-key-clause-removed : goal.returns-in_err-key-clause-removed
returns-in_err-key-clause-removed g c =
    c.from_residual.ensures
    ∙ no_value num_cmp_total num_cmp_exact c.self.inside.slots c.self.inside.keys c.args.self.now c.self.view_is (c.args.label.now, c.args.n) c.remove.result c.remove.ensures.removed c.in_err-key.was

pub returns-in_err-key-clause-left : goal.returns-in_err-key-clause-left
returns-in_err-key-clause-left g c =
    absent_removed num_cmp_total num_cmp_exact c.self.inside.slots c.self.inside.keys c.args.self.now c.self.view_is (c.args.label.now, c.args.n) c.remove.result c.remove.ensures.removed c.in_err-key.was c.remove.new.self c.remove.ensures.left

pub invariant_of-self-2 : goal.invariant_of-self-2
invariant_of-self-2 g c =
    let num : Num = (c.args.label.now, c.args.n) in
    let is = sym c.remove.ensures.removed ∙ c.in_ok-key.was in
    subst (λ (keys : FinMap num_cmp ℕ). IsPlaced c.remove-2.new.self keys) (sym c.remove.ensures.left)
    (removed_placed num_cmp_total num_cmp_exact c.self.invariant num c.in_ok-key.key c.remove-2.new.self is c.remove-2.ensures.updates c.remove-2.ensures.len)

pub returns-clause-removed : goal.returns-clause-removed
returns-clause-removed g c =
    sym c.remove-2.ensures.value
    ∙ value_at num_cmp_total num_cmp_exact c.self.inside.slots c.self.inside.keys c.args.self.now c.self.view_is (c.args.label.now, c.args.n) c.remove.result c.remove.ensures.removed c.in_ok-key.key c.in_ok-key.was

pub returns-clause-left : goal.returns-clause-left
returns-clause-left g c =
    let num : Num = (c.args.label.now, c.args.n) in
    let is = sym c.remove.ensures.removed ∙ c.in_ok-key.was in
    ap (values_in c.remove-2.new.self) c.remove.ensures.left
    ∙ removed_value num_cmp_total num_cmp_exact c.self.invariant num c.in_ok-key.key c.remove-2.new.self is c.remove-2.ensures.updates
    ∙ ap (λ (m : FinMap num_cmp g.row.T.Denot). map.remove m num) c.self.view_is
