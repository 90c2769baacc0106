use Rattle.std.specs.Option.{option_copied_mut}
use Rattle.std.proofs.Common.{◌∙◌, ap, sym}
use Rattle.lab_lattice.proofs.Labels.{label_cmp_total, label_cmp_exact}
use Rattle.kern_model.proofs.LabelMaps.{at_some}
use Rattle.kern_model.proofs.MapLemmas.{insert-same}
use Rattle.world_text.proofs.builder.find_count.Goals as goal

pub returns-in-Some-clause-same : goal.returns-in-Some-clause-same
returns-in-Some-clause-same c =
    let count = c.in-Some.count.now in
    at_some c.in-Some.is (c.get_mut.follows.holds count)
    ∙ insert-same label_cmp_total label_cmp_exact c.args.counts.now c.args.label.now count (sym (sym (ap option_copied_mut c.in-Some.is) ∙ c.get_mut.ensures.value))
