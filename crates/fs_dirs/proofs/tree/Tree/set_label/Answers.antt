use Rattle.std.proofs.Common.{ap, sym, subst, refl, ◌∙◌}
use Rattle.std.specs.FinMap as map
use Rattle.kern_model.specs.declared.objects.Object.{Object}
use Rattle.kern_model.specs.Valid.{IsThere}
use Rattle.fs_nodes.specs.Nodes.{NodeTable, with_object}
use Rattle.std.specs.Prelude.{◌≡◌}
use Rattle.fs_dirs.specs.HolderLabels.{AreCounted, names_by_label}
use Rattle.fs_dirs.specs.Tree.{IfObject, TreeView}
use Rattle.fs_dirs.proofs.TreeLabelLemmas.{names_of_empty}
use Rattle.fs_dirs.proofs.TreeLemmas.{tree_set}
use Rattle.fs_dirs.proofs.tree.Tree.set_label.Goals as goal

pub set_label-requires : goal.set_label-requires
set_label-requires c = subst (λ (t : TreeView). IsThere t.nodes.table.objects c.args.id.now) (sym c.self.view_is) c.requires

pub invariant_of-self : goal.invariant_of-self
invariant_of-self c =
    let id = c.args.id.now in
    let tree = c.self.inside in
    let here = subst (λ (t : TreeView). IsThere t.nodes.table.objects id) (sym c.self.view_is) c.requires in
    let after : Object = record here.value { label = c.args.label } in
    let made = c.set_label.ensures here.value here.is in
    let objects = tree.nodes.table.objects in
    record {
      are_entries = tree_set id (λ (o : Object). record o { label = c.args.label }) here.value c.self.invariant.are_entries here.is refl made;
      counted = subst (λ (table : NodeTable). AreCounted c.clear_counts.new.labels (names_by_label table.objects tree.entries)) (sym made)
          (c.clear_counts.ensures (names_by_label objects tree.entries) (names_by_label (map.insert objects id after) tree.entries) (names_of_empty objects tree.entries id after) c.self.invariant.counted);
    }

pub returns-clause-label : goal.returns-clause-label
returns-clause-label c o is =
    ap (λ (t : TreeView). t.nodes.table) c.count_holders.ensures
    ∙ subst (λ (t : TreeView). IfObject t c.args.id.now (λ (o : Object). c.set_label.new.self.table ≡ with_object t.nodes.table c.args.id.now (record o { label = c.args.label }))) c.self.view_is c.set_label.ensures o is
