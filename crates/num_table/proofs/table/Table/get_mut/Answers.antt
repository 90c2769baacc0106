use Rattle.std.specs.Prelude.{ℕ}
use Rattle.std.specs.Option.{ghost_name_of, option_copied_mut}
use Rattle.std.specs.FinMap as map
use Rattle.std.specs.FinMap.{FinMap}
use Rattle.std.proofs.Common.{ap, refl, subst, sym, ◌∙◌}
use Rattle.kern_model.proofs.LabelMaps.{at_none}
use Rattle.slab.specs.Slab.{with_value}
use Rattle.kern_model.specs.Numbers.{Num, num_cmp}
use Rattle.num_table.specs.Slots.{IsPlaced, values_in}
use Rattle.num_table.proofs.Outcomes.{always}
use Rattle.kern_model.proofs.NumberLaws.{num_cmp_exact, num_cmp_total}
use Rattle.num_table.proofs.Slots.{no_value, replaced_placed, replaced_value, value_at}
use Rattle.num_table.proofs.table.Table.get_mut.Goals as goal

pub invariant_of-self-lent : goal.invariant_of-self-lent
invariant_of-self-lent g c =
    let num : Num = (c.args.label.now, c.args.n) in
    let is = sym c.find.ensures.key ∙ c.in_ok-key.was in
    λ _. subst
    (λ (keys : FinMap num_cmp ℕ). ((x : g.row.T.Denot) → IsPlaced (with_value c.self.inside.slots c.in_ok-key.key x) keys) × IsPlaced c.self.inside.slots keys)
    (sym c.find.ensures.same) ((λ x. replaced_placed num_cmp_total num_cmp_exact c.self.invariant num c.in_ok-key.key is x), c.self.invariant)

pub returns-in_err-key : goal.returns-in_err-key
returns-in_err-key g c =
    let none = c.from_residual.ensures in (
      (ap ghost_name_of (sym none), (λ x. at_none _ none), ap (values_in c.self.inside.slots) c.find.ensures.same ∙ c.self.view_is),
      record {
        writes_back = tt;
        value =
            ap option_copied_mut none
            ∙ no_value num_cmp_total num_cmp_exact c.self.inside.slots c.self.inside.keys c.args.self.now c.self.view_is (c.args.label.now, c.args.n) c.find.result c.find.ensures.key c.in_err-key.was;
      },
    )

pub returns : goal.returns
returns g c =
    let num : Num = (c.args.label.now, c.args.n) in
    let is = sym c.find.ensures.key ∙ c.in_ok-key.was in (
      (
        refl {a = ghost_name_of c.get_mut.result},
        (λ x. always c.get_mut.result
            (ap (values_in (with_value c.self.inside.slots c.in_ok-key.key x)) c.find.ensures.same
            ∙ replaced_value num_cmp_total num_cmp_exact c.self.invariant num c.in_ok-key.key is x ∙ ap (λ (m : FinMap num_cmp g.row.T.Denot). map.insert m num x) c.self.view_is)),
        ap (values_in c.self.inside.slots) c.find.ensures.same ∙ c.self.view_is,
      ),
      record {
        writes_back = tt;
        value =
            c.get_mut.ensures.value
            ∙ value_at num_cmp_total num_cmp_exact c.self.inside.slots c.self.inside.keys c.args.self.now c.self.view_is num c.find.result c.find.ensures.key c.in_ok-key.key c.in_ok-key.was;
      },
    )
