use Rattle.std.specs.FinMap as map
use Rattle.std.proofs.Common.{arith}
use Rattle.lab_lattice.proofs.Labels.{label_cmp_total, label_cmp_exact}
use Rattle.kern_model.proofs.LabelMaps.{new_placed, new_value}
use Rattle.kern_model.proofs.TableLemmas.{one_set}
use Rattle.kern_model.proofs.label_map.LabelMap.add.Goals as goal

pub invariant_of-self-2 : goal.invariant_of-self-2
invariant_of-self-2 g c =
    let ok = c.self.inside.entries.ok in
    new_placed c.self.inside.entries.items (map.from_entries c.self.inside.places.entries) c.self.invariant c.args.self.now c.self.view_is c.args.label.now c.args.value c.requires
    c.reserve.new.self.items c.push_reserved.new.self.items c.in_ok-reserve.ensures.items c.push_reserved.ensures.items c.len-place.result (omega arith) (map.from_entries c.insert.new.self.entries)
    (one_set label_cmp_total label_cmp_exact c.self.inside.places.entries c.insert.new.self.entries c.args.label.now c.len-place.result c.in_ok-insert.ensures.updates.0)

pub returns-clause-ok : goal.returns-clause-ok
returns-clause-ok g c =
    let ok = c.self.inside.entries.ok in
    new_value c.self.inside.entries.items (map.from_entries c.self.inside.places.entries) c.self.invariant c.args.self.now c.self.view_is c.args.label.now c.args.value c.requires
    c.reserve.new.self.items c.push_reserved.new.self.items c.in_ok-reserve.ensures.items c.push_reserved.ensures.items c.len-place.result (omega arith) (map.from_entries c.insert.new.self.entries)
    (one_set label_cmp_total label_cmp_exact c.self.inside.places.entries c.insert.new.self.entries c.args.label.now c.len-place.result c.in_ok-insert.ensures.updates.0)
