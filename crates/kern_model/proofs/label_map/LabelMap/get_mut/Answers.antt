use Rattle.std.specs.FinMap as map
use Rattle.std.specs.Option.{ghost_name_of, option_copied_mut}
use Rattle.std.proofs.Common.{ap, arith, refl, sym, ◌∙◌}
use Rattle.kern_model.proofs.LabelMaps.{at_none, lent_placed, lent_value, place_within, value_absent, value_found}
use Rattle.kern_model.proofs.label_map.LabelMap.get_mut.Goals as goal

pub returns-in_err-place : goal.returns-in_err-place
returns-in_err-place g c =
    let none = c.from_residual.ensures in (
      (ap ghost_name_of (sym none), (λ w. at_none _ none), c.self.view_is),
      record {
        writes_back = tt;
        value =
            ap option_copied_mut none
            ∙ value_absent c.self.inside.entries.items (map.from_entries c.self.inside.places.entries) c.self.invariant c.args.self.now c.self.view_is c.args.label.now c.in_err-place.ensures;
      },
    )

pub invariant_of-self-lent : goal.invariant_of-self-lent
invariant_of-self-lent g c =
    lent_placed c.self.inside.entries.items (map.from_entries c.self.inside.places.entries) c.self.invariant c.args.self.now c.self.view_is c.args.label.now
    c.in_ok-place.place c.in_ok-place.ensures c.in-Some.entry.now c.in-Some.ensures.value

pub returns-in-Some : goal.returns-in-Some
returns-in-Some g c = (
  (
    refl,
    (λ w. lent_value c.self.inside.entries.items (map.from_entries c.self.inside.places.entries) c.self.invariant c.args.self.now c.self.view_is c.args.label.now
        c.in_ok-place.place c.in_ok-place.ensures c.in-Some.entry.now c.in-Some.ensures.value w),
    refl,
  ),
  record {
    writes_back = tt;
    value = value_found c.self.inside.entries.items (map.from_entries c.self.inside.places.entries) c.self.invariant c.args.self.now c.self.view_is c.args.label.now
        c.in_ok-place.place c.in_ok-place.ensures c.in-Some.entry.now c.in-Some.ensures.value;
  },
)

pub returns-in-None : goal.returns-in-None
returns-in-None g c =
    let low = place_within c.self.inside.entries.items (map.from_entries c.self.inside.places.entries) c.self.invariant c.args.label.now c.in_ok-place.place c.in_ok-place.ensures in
    absurd (omega (arith, c.in-None.ensures.item.3))
