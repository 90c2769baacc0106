use Rattle.std.proofs.Common.{ap, ◌∙◌}
use Rattle.std.specs.FinMap as map
use Rattle.std.specs.FinMap.{FinMap}
use Rattle.kern_model.specs.Keys.{oid_cmp}
use Rattle.kern_model.proofs.KeyLaws.{oid_cmp_total, oid_cmp_exact}
use Rattle.fs_dirs.specs.HolderLabels.{Counts}
use Rattle.fs_dirs.proofs.HolderLabelLemmas.{one_gone}
use Rattle.fs_dirs.proofs.holder_labels.HolderLabels.forget.Goals as goal

pub returns : goal.returns
unfolding oid_cmp
returns c =
    one_gone oid_cmp_total oid_cmp_exact c.self.inside.by_object.entries c.remove.new.self.entries c.args.id.now c.remove.ensures.updates.0
    ∙ ap (λ (m : FinMap oid_cmp Counts). map.remove m c.args.id.now) c.self.view_is
