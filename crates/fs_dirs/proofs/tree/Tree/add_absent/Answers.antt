use Rattle.std.specs.Prelude.{◌≡◌, None}
use Rattle.std.proofs.Common.{ap, sym, ◌∙◌, subst}
use Rattle.std.specs.FinMap as map
use Rattle.std.specs.FinMap.{FinMap}
use Rattle.fs_path.specs.Name.{Name}
use Rattle.kern_model.specs.declared.numbers.Oid.{Oid}
use Rattle.kern_model.specs.Keys.{spot_cmp}
use Rattle.kern_model.specs.State.{look}
use Rattle.kern_model.specs.Valid.{IsDir}
use Rattle.fs_dirs.specs.HolderLabels.{AreCounted, label_in, names_by_label, with_name}
use Rattle.fs_dirs.specs.Tree.{AreEntries, MayBeAdded, TreeView, state_of_tree}
use Rattle.fs_dirs.proofs.HolderLabelLemmas.{counted_as}
use Rattle.fs_dirs.proofs.TreeLabelLemmas.{names_inserted}
use Rattle.fs_dirs.proofs.TreeLemmas.{tree_added}
use Rattle.fs_dirs.proofs.tree.Tree.add_absent.Goals as goal

pub invariant_of-self-2 : goal.invariant_of-self-2
invariant_of-self-2 c =
    let v : TreeView = record { nodes = c.self.inside.nodes; entries = c.self.inside.entries } in
    let dir = c.args.dir.now in
    let name = c.args.name.now in
    let id = c.args.id.now in
    let absent : map.get v.entries (dir, name) ≡ None = ap (λ (t : TreeView). look (state_of_tree t) dir name) c.self.view_is ∙ c.requires.absent in
    let added : c.insert.new.self ≡ map.insert v.entries (dir, name) id = c.in_ok-insert.ensures.ok ∙ ap (λ (n : Name). map.insert v.entries (dir, n) id) c.in_ok-copy.ensures in
    let objects = v.nodes.table.objects in
    let after = map.insert v.entries (dir, name) id in
    record {
      are_entries = subst (λ (m : FinMap spot_cmp Oid). AreEntries v.nodes.table m) (sym added)
          (tree_added v c.self.invariant.are_entries dir name id (subst (λ (t : TreeView). IsDir t.nodes.table.objects dir) (sym c.self.view_is) c.requires.dir)
          (subst (λ (t : TreeView). MayBeAdded (state_of_tree t) id) (sym c.self.view_is) c.requires.may) absent);
      counted = subst (λ (m : FinMap spot_cmp Oid). AreCounted c.count_name.new.labels (names_by_label objects m)) (sym added)
          (counted_as c.count_name.new.labels (with_name (names_by_label objects v.entries) id (label_in objects dir)) (names_by_label objects after) (names_inserted objects v.entries (dir, name) id absent)
          (c.count_name.ensures (names_by_label objects v.entries) c.self.invariant.counted));
    }
