use Rattle.std.proofs.Common.{sym, subst}
use Rattle.fs_nodes.specs.Nodes.{NodeTable}
use Rattle.fs_dirs.specs.Tree.{AreEntries}
use Rattle.fs_dirs.proofs.TreeLemmas.{tree_alone}
use Rattle.fs_dirs.proofs.TreeLabelLemmas.{uncounted}
use Rattle.fs_dirs.proofs.tree.Tree.new.Goals as goal

pub invariant_of-result : goal.invariant_of-result
invariant_of-result c =
    uncounted c.in_ok-nodes.nodes.table c.new-entries.result c.new.result
    (subst (λ (table : NodeTable). AreEntries table c.new-entries.result) (sym c.in_ok-nodes.ensures) (tree_alone c.args.attr c.new-entries.result c.new-entries.ensures))
    c.new.ensures
