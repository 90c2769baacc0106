use Rattle.std.specs.Prelude.{◌==◌, length}
use Rattle.std.specs.FinMap as map
use Rattle.std.specs.FinMap.{FinMap}
use Rattle.std.proofs.Common.{ap, ◌∙◌}
use Rattle.kern_model.specs.Keys.{oid_cmp}
use Rattle.fs_dirs.specs.HolderLabels.{Counts}
use Rattle.fs_dirs.proofs.HolderLabelLemmas.{by_zero, none_by_len}
use Rattle.fs_dirs.proofs.holder_labels.HolderLabels.is_empty.Goals as goal

pub returns : goal.returns
returns c =
    let es = c.self.inside.by_object.entries in
    by_zero c.is_empty.result (length es) c.is_empty.ensures ∙ none_by_len es ∙ ap (λ (m : FinMap oid_cmp Counts). map.len m == 0) c.self.view_is
