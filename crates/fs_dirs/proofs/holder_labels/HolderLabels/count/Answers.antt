use Rattle.std.specs.Prelude.{Some, refl}
use Rattle.std.specs.FinMap as map
use Rattle.std.specs.FinMap.{FinMap}
use Rattle.std.proofs.Common.{subst, sym}
use Rattle.kern_model.specs.Keys.{oid_cmp}
use Rattle.fs_dirs.specs.HolderLabels.{AreCounted, Counts}
use Rattle.fs_dirs.proofs.Answering.{either_way}
use Rattle.fs_dirs.proofs.HolderLabelLemmas.{object_counted, one_changed}
use Rattle.fs_dirs.proofs.holder_labels.HolderLabels.count.Goals as goal

pub returns : goal.returns
unfolding oid_cmp
returns c names are here =
    let es = c.self.inside.by_object.entries in
    let fs = c.insert.new.self.entries in
    let before : FinMap oid_cmp Counts = map.from_entries es in
    let after : FinMap oid_cmp Counts = map.from_entries fs in
    let id = c.args.id.now in
    let kept : AreCounted before names = subst (λ (m : FinMap oid_cmp Counts). AreCounted m names) (sym c.self.view_is) are in
    either_way c.insert.result
    (λ updates. object_counted before after id (Some c.args.counts) (one_changed es fs id (Some c.args.counts) updates.0) names c.args.counts refl here kept)
    (λ same. subst (λ m. AreCounted (map.from_entries m) names) (sym same) kept)
    c.insert.ensures.updates c.insert.ensures.err
