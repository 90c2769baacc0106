use Rattle.std.specs.Prelude.{is_some}
use Rattle.std.specs.FinMap as map
use Rattle.std.specs.FinMap.{FinMap}
use Rattle.std.proofs.Common.{ap, sym, ◌∙◌}
use Rattle.kern_model.specs.Keys.{oid_cmp}
use Rattle.kern_model.proofs.KeyLaws.{oid_cmp_total}
use Rattle.kern_model.proofs.TableLemmas.{get_at}
use Rattle.fs_dirs.specs.HolderLabels.{Counts}
use Rattle.fs_dirs.proofs.holder_labels.HolderLabels.is_counted.Goals as goal

pub returns : goal.returns
unfolding oid_cmp
returns c =
    c.contains_key.ensures ∙ ap is_some (sym (get_at oid_cmp_total c.self.inside.by_object.entries c.args.id.now) ∙ ap (λ (m : FinMap oid_cmp Counts). map.get m c.args.id.now) c.self.view_is)
