use Rattle.std.specs.Prelude.{◌&&◌}
use Rattle.std.specs.FinMap as map
use Rattle.std.specs.List.{position}
use Rattle.std.proofs.Common.{sym, ◌∙◌, ap}
use Rattle.lab_lattice.specs.Label.{dominates}
use Rattle.lab_lattice.proofs.Labels.{label_cmp_total}
use Rattle.kern_model.specs.declared.label_map.Entry.{Entry}
use Rattle.kern_model.proofs.LabelMaps.{position_placed}
use Rattle.kern_model.proofs.TableLemmas.{get_at}
use Rattle.kern_model.proofs.label_map.find.Goals as goal

pub returns-then-len-le-FEW : goal.returns-then-len-le-FEW
returns-then-len-le-FEW g c =
    let label = c.args.label.now in
    c.position_of.ensures
    ∙ ap (position (λ (e : Entry g.row.T.Denot). dominates e.label label && dominates label e.label)) c.as_slice.ensures.value
    ∙ position_placed c.args.entries.now.items (map.from_entries c.args.places.now.entries) c.requires label

pub returns : goal.returns
returns g c = c.copied.ensures ∙ c.get.ensures.value ∙ sym (get_at label_cmp_total c.args.places.now.entries c.args.label.now)
