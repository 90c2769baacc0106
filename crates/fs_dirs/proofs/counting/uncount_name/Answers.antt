use Rattle.std.specs.FinMap as map
use Rattle.std.proofs.Common.{subst, sym, ◌∙◌}
use Rattle.lab_lattice.specs.Label.{Label}
use Rattle.fs_dirs.specs.HolderLabels.{AreCounted, label_in, with_name}
use Rattle.fs_dirs.proofs.HolderLabelLemmas.{no_value, uncounted_taken}
use Rattle.fs_dirs.proofs.counting.uncount_name.Goals as goal

pub returns-then-is_counted : goal.returns-then-is_counted
returns-then-is_counted c names are =
    c.take_name.ensures names (subst (λ (l : Label). AreCounted c.args.labels.now (with_name names c.args.id.now l)) (sym c.label_of.ensures) are)

pub returns-else-is_counted : goal.returns-else-is_counted
returns-else-is_counted c names are =
    let none = no_value (map.get c.args.labels.now c.args.id.now) (sym c.is_counted.ensures ∙ c.if-is_counted.false) in
    uncounted_taken c.args.labels.now c.args.id.now none names (label_in c.args.nodes.now.table.objects c.args.dir.now) are
