use Rattle.std.specs.Prelude.{List}
use Rattle.std.specs.FinMap as map
use Rattle.std.proofs.Common.{◌<◌, length, get_or, subst, ◌∙◌, ap}
use Rattle.kern_model.specs.declared.label_map.Entry.{Entry}
use Rattle.kern_model.proofs.LabelMaps.{place_equal}
use Rattle.kern_model.proofs.label_map.place.Goals as goal

pub returns-in-Some : goal.returns-in-Some
returns-in-Some g c =
    let entry = c.in-Some.entry.now in
    let place = c.args.last in
    let same = c.deref.ensures.value in
    let found = c.in-Some.ensures.lookup in
    place_equal c.args.entries.now.items (map.from_entries c.args.places.now.entries) c.requires place entry c.args.label.now
    (subst (λ (es : List (Entry g.row.T.Denot)). place < length es) same found.3.0)
    (found.1 ∙ ap (λ (es : List (Entry g.row.T.Denot)). get_or es place entry) same)
    c.if-equal.ensures
