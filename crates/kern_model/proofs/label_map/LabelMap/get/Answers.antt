use Rattle.std.specs.FinMap as map
use Rattle.std.specs.Option.{option_copied}
use Rattle.std.proofs.Common.{ap, arith, ◌∙◌}
use Rattle.kern_model.proofs.LabelMaps.{place_within, value_absent, value_found}
use Rattle.kern_model.proofs.label_map.LabelMap.get.Goals as goal

pub returns-in_err-place : goal.returns-in_err-place
returns-in_err-place g c =
    ap option_copied c.from_residual.ensures
    ∙ value_absent c.self.inside.entries.items (map.from_entries c.self.inside.places.entries) c.self.invariant c.args.self.now c.self.view_is c.args.label.now c.in_err-place.ensures

pub index-requires : goal.index-requires
index-requires g c =
    let h = place_within c.self.inside.entries.items (map.from_entries c.self.inside.places.entries) c.self.invariant c.args.label.now c.in_ok-place.place c.in_ok-place.ensures in
    let ok = c.self.inside.entries.ok in
    omega arith

pub returns : goal.returns
returns g c =
    value_found c.self.inside.entries.items (map.from_entries c.self.inside.places.entries) c.self.invariant c.args.self.now c.self.view_is c.args.label.now
    c.in_ok-place.place c.in_ok-place.ensures c.index.result.now c.index.ensures
