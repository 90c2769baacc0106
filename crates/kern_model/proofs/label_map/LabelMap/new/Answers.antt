use Rattle.std.specs.Prelude.{ℕ, List, []}
use Rattle.std.proofs.Common.{ap, subst, sym, ◌∙◌}
use Rattle.std.specs.FinMap as map
use Rattle.lab_lattice.specs.Label.{Label, label_cmp}
use Rattle.kern_model.specs.declared.label_map.Entry.{Entry}
use Rattle.kern_model.specs.LabelMap.{ArePlaced, values_in}
use Rattle.kern_model.proofs.LabelMaps.{placed-empty, values_in-empty}
use Rattle.kern_model.proofs.label_map.LabelMap.new.Goals as goal

pub invariant_of-result : goal.invariant_of-result
invariant_of-result g c =
    subst (λ (es : List (Entry g.row.T.Denot)). ArePlaced es (map.from_entries {R = label_cmp} c.new-2.result.entries)) (sym c.new.ensures.items)
    (subst (λ (ps : List (Label × ℕ)). ArePlaced {X = g.row.T.Denot} [] (map.from_entries {R = label_cmp} ps)) (sym c.new-2.ensures.empty) placed-empty)

pub returns : goal.returns
returns g c =
    ap (λ (es : List (Entry g.row.T.Denot)). values_in es (map.from_entries {R = label_cmp} c.new-2.result.entries)) c.new.ensures.items
    ∙ ap (λ (ps : List (Label × ℕ)). values_in {X = g.row.T.Denot} [] (map.from_entries {R = label_cmp} ps)) c.new-2.ensures.empty ∙ values_in-empty
