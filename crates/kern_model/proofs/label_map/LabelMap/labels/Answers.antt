use Rattle.std.specs.Prelude.{◌≡◌}
use Rattle.std.specs.Map.{keys_of}
use Rattle.std.specs.FinMap as map
use Rattle.std.specs.FinMap.{FinMap}
use Rattle.std.proofs.Common.{ap, rules, ◌∙◌}
use Rattle.lab_lattice.specs.Label.{label_cmp}
use Rattle.kern_model.proofs.LabelMaps.{keys-values_in}
use Rattle.kern_model.proofs.label_map.LabelMap.labels.Goals as goal

pub returns : goal.returns
returns g c =
    let listed : c.in_ok-labels.labels.items ≡ keys_of c.self.inside.places.entries = search rules in
    listed ∙ keys-values_in c.self.inside.entries.items c.self.inside.places.entries c.keys.ensures.ordered c.self.invariant
    ∙ ap (λ (m : FinMap label_cmp g.row.T.Denot). map.keys m) c.self.view_is
