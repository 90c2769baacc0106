use Rattle.std.specs.FinMap as map
use Rattle.std.specs.FinMap.{FinMap}
use Rattle.std.proofs.Common.{ap, sym, ◌∙◌}
use Rattle.std.proofs.lemmas.Result.{IfOk-weaker}
use Rattle.kern_model.specs.Numbers.{num_cmp}
use Rattle.kern_model.proofs.NumberLaws.{num_cmp_exact, num_cmp_total}
use Rattle.num_table.proofs.Slots.{keys-values_in}
use Rattle.num_table.proofs.table.Table.numbers.Goals as goal

pub returns : goal.returns
returns g c = IfOk-weaker c.numbers.result _ _
    (λ numbers is. is ∙ sym (keys-values_in num_cmp_total num_cmp_exact c.self.inside.slots c.self.inside.keys c.self.invariant) ∙ ap (λ (m : FinMap num_cmp g.row.T.Denot). map.keys m) c.self.view_is)
    c.numbers.ensures
