use Rattle.std.specs.FinMap as map
use Rattle.std.proofs.Common.{subst, sym, ◌∙◌}
use Rattle.lab_lattice.specs.Label.{Label}
use Rattle.fs_dirs.specs.HolderLabels.{AreCounted, label_in, with_name}
use Rattle.fs_dirs.proofs.HolderLabelLemmas.{no_value, uncounted_added}
use Rattle.fs_dirs.proofs.counting.count_name.Goals as goal

pub returns-then-is_counted : goal.returns-then-is_counted
returns-then-is_counted c names are =
    subst (λ (l : Label). AreCounted c.add_name.new.self (with_name names c.args.id.now l)) c.label_of.ensures (c.add_name.ensures names are)

pub returns-else-is_counted : goal.returns-else-is_counted
returns-else-is_counted c names are =
    let none = no_value (map.get c.args.labels.now c.args.id.now) (sym c.is_counted.ensures ∙ c.if-is_counted.false) in
    uncounted_added c.args.labels.now c.args.id.now none names (label_in c.args.nodes.now.table.objects c.args.dir.now) are
