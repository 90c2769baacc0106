use Rattle.std.specs.Prelude.{ℕ, count_by, is_some}
use Rattle.std.specs.FinMap.{FinMap}
use Rattle.std.proofs.Common.{ap, sym, subst, ◌∙◌}
use Rattle.kern_model.specs.Numbers.{num_cmp}
use Rattle.num_table.specs.Slots.{IsPlaced, values_in}
use Rattle.kern_model.proofs.NumberLaws.{num_cmp_exact, num_cmp_total}
use Rattle.num_table.proofs.Slots.{none_placed, none_there}
use Rattle.num_table.proofs.table.Table.new.Goals as goal

pub invariant_of-result : goal.invariant_of-result
invariant_of-result g c = subst (λ (keys : FinMap num_cmp ℕ). IsPlaced c.new.result keys) (sym c.new-2.ensures) (none_placed num_cmp_total num_cmp_exact c.new.result (ap (count_by is_some) c.new.ensures.empty))

pub returns : goal.returns
returns g c = ap (values_in c.new.result) c.new-2.ensures ∙ none_there num_cmp_total num_cmp_exact c.new.result
