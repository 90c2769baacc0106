use Rattle.std.proofs.Common.{◌∙◌, ap}
use Rattle.std.proofs.lemmas.Bool.Decides.{Decides-at}
use Rattle.lab_lattice.specs.Label.{Label, bottom, dominates}
use Rattle.lab_lattice.proofs.Labels.{dominates_both, dominates_bottom, dominates_itself}
use Rattle.kern_model.proofs.valid.is_lowest.Goals as goal

pub returns : goal.returns
returns c =
    let label = c.args.label.now in
    Decides-at _ (dominates bottom label) (c.dominates.ensures ∙ ap (λ (b : Label). dominates b label) c.bottom.ensures)
    (λ e. dominates_both label bottom (dominates_bottom label) e, λ h. ap (dominates bottom) h ∙ dominates_itself bottom)
