use Rattle.std.proofs.Common.{ap, ◌∙◌}
use Rattle.fs_dirs.specs.HolderLabels.{labels_where}
use Rattle.fs_dirs.proofs.HolderLabelLemmas.{no_names}
use Rattle.fs_dirs.proofs.counting.count_labels.Goals as goal

pub loop-holder-init : goal.loop-holder-init
loop-holder-init c test = ap (labels_where test) c.new-counts.ensures ∙ no_names test
