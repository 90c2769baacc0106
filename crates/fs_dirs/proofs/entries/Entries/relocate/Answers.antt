use Rattle.std.proofs.Common.{ap, ◌∙◌}
use Rattle.std.specs.FinMap as map
use Rattle.std.specs.FinMap.{FinMap}
use Rattle.fs_path.specs.Name.{Name}
use Rattle.kern_model.specs.declared.numbers.Oid.{Oid}
use Rattle.kern_model.specs.Keys.{Spot, spot_cmp}
use Rattle.kern_model.proofs.KeyLaws.{spot_cmp_total, spot_cmp_exact}
use Rattle.fs_dirs.proofs.MoveLemmas.{remove-insert_other}
use Rattle.fs_dirs.proofs.entries.Entries.relocate.Goals as goal

pub returns-clause-moved : goal.returns-clause-moved
returns-clause-moved c =
    let from : Spot = (c.args.from.now.dir.now, c.args.from.now.name.now) in
    let to : Spot = (c.args.to.now.dir.now, c.args.to.now.name.now) in
    c.remove.ensures.removed ∙ ap (λ (m : FinMap spot_cmp Oid). map.remove m from) (c.in_ok-insert.ensures.ok ∙ ap (λ (n : Name). map.insert c.args.self.now (c.args.to.now.dir.now, n) c.args.id.now) c.in_ok-copy.ensures)
    ∙ remove-insert_other spot_cmp_total spot_cmp_exact c.args.self.now from to c.requires.apart c.args.id.now
