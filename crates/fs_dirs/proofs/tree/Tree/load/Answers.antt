use Rattle.std.proofs.Common.{sym, subst}
use Rattle.std.specs.FinMap.{FinMap}
use Rattle.kern_model.specs.declared.numbers.Oid.{Oid}
use Rattle.kern_model.specs.Keys.{spot_cmp}
use Rattle.fs_dirs.specs.Tree.{AreEntries}
use Rattle.fs_dirs.proofs.TreeLabelLemmas.{uncounted}
use Rattle.fs_dirs.proofs.tree.Tree.load.Goals as goal

pub invariant_of-result : goal.invariant_of-result
invariant_of-result c =
    uncounted c.args.nodes.table c.into_entries.result c.new.result (subst (λ (m : FinMap spot_cmp Oid). AreEntries c.args.nodes.table m) (sym c.into_entries.ensures) c.requires) c.new.ensures
