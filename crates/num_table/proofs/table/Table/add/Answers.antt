use Rattle.std.specs.Prelude.{ℕ, Some}
use Rattle.std.specs.FinMap as map
use Rattle.std.specs.FinMap.{FinMap}
use Rattle.std.proofs.Common.{ap, sym, subst, ◌∙◌}
use Rattle.slab.specs.Slab.{Updates}
use Rattle.kern_model.specs.Numbers.{Num, num_cmp}
use Rattle.num_table.specs.Slots.{IsPlaced, values_in}
use Rattle.num_table.proofs.Outcomes.{where_err}
use Rattle.kern_model.proofs.NumberLaws.{num_cmp_exact, num_cmp_total}
use Rattle.num_table.proofs.Slots.{absent_key, added_placed, added_value, reserved, reserved_values}
use Rattle.num_table.proofs.table.Table.add.Goals as goal

pub returns-in_err-reserve-clause-err : goal.returns-in_err-reserve-clause-err
returns-in_err-reserve-clause-err g c = where_err c.from_residual.result (reserved_values c.self.inside.slots c.reserve.new.self c.self.inside.keys c.reserve.ensures.rest_kept ∙ c.self.view_is)

pub returns-then-key-clause-err : goal.returns-then-key-clause-err
returns-then-key-clause-err g c = reserved_values c.self.inside.slots c.reserve.new.self c.self.inside.keys c.reserve.ensures.rest_kept ∙ c.self.view_is

pub returns-in_err-set-clause-err : goal.returns-in_err-set-clause-err
returns-in_err-set-clause-err g c = where_err c.from_residual-in_err-set.result
    (ap (values_in c.reserve.new.self) c.in_err-set.ensures.err ∙ reserved_values c.self.inside.slots c.reserve.new.self c.self.inside.keys c.reserve.ensures.rest_kept ∙ c.self.view_is)

pub invariant_of-self-2 : goal.invariant_of-self-2
invariant_of-self-2 g c =
    let num : Num = (c.args.label.now, c.args.n) in
    let placed = reserved c.self.inside.slots c.reserve.new.self c.self.inside.keys c.reserve.ensures.rest_kept c.self.invariant in
    let updates = subst (λ (key : ℕ). Updates c.reserve.new.self c.insert_reserved.new.self key (Some c.args.item)) (c.insert_reserved.ensures.key ∙ sym c.vacant_key-key.ensures.value) c.insert_reserved.ensures.updates in
    subst (λ (keys : FinMap num_cmp ℕ). IsPlaced c.insert_reserved.new.self keys) (sym c.in_ok-set.ensures.ok)
    (added_placed num_cmp_total num_cmp_exact placed num c.vacant_key-key.result c.insert_reserved.new.self c.args.item c.vacant_key-key.ensures.vacant updates
    (absent_key num_cmp_total num_cmp_exact c.self.inside.slots c.self.inside.keys c.args.self.now c.self.view_is num c.self.invariant c.requires) c.insert_reserved.ensures.len)

pub returns-clause-ok : goal.returns-clause-ok
returns-clause-ok g c =
    let num : Num = (c.args.label.now, c.args.n) in
    let placed = reserved c.self.inside.slots c.reserve.new.self c.self.inside.keys c.reserve.ensures.rest_kept c.self.invariant in
    let updates = subst (λ (key : ℕ). Updates c.reserve.new.self c.insert_reserved.new.self key (Some c.args.item)) (c.insert_reserved.ensures.key ∙ sym c.vacant_key-key.ensures.value) c.insert_reserved.ensures.updates in
    ap (values_in c.insert_reserved.new.self) c.in_ok-set.ensures.ok
    ∙ added_value num_cmp_total num_cmp_exact placed num c.vacant_key-key.result c.insert_reserved.new.self c.args.item c.vacant_key-key.ensures.vacant updates
    ∙ ap (λ (m : FinMap num_cmp g.row.T.Denot). map.insert m num c.args.item) (reserved_values c.self.inside.slots c.reserve.new.self c.self.inside.keys c.reserve.ensures.rest_kept ∙ c.self.view_is)
