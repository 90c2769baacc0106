use Rattle.std.specs.Prelude.{Some}
use Rattle.std.proofs.Common.{◌≡◌, ◌∙◌, subst, sym}
use Rattle.std.specs.FinMap as map
use Rattle.std.specs.FinMap.{FinMap}
use Rattle.kern_model.specs.declared.numbers.Oid.{Oid}
use Rattle.kern_model.specs.Keys.{Spot, spot_cmp}
use Rattle.kern_model.proofs.KeyLaws.{spot_cmp_total, spot_cmp_exact}
use Rattle.kern_model.proofs.MapLemmas.{remove-absent}
use Rattle.fs_dirs.specs.HolderLabels.{AreCounted, label_in, names_by_label, with_name}
use Rattle.fs_dirs.specs.Tree.{AreEntries, IsTree, TreeView}
use Rattle.fs_dirs.proofs.HolderLabelLemmas.{counted_as}
use Rattle.fs_dirs.proofs.TreeLabelLemmas.{names_removed}
use Rattle.fs_dirs.proofs.TreeLemmas.{tree_removed}
use Rattle.fs_dirs.proofs.tree.Tree.remove.Goals as goal

pub invariant_of-self : goal.invariant_of-self
invariant_of-self c =
    let table = c.self.inside.nodes.table in
    let entries = c.self.inside.entries in
    let labels = c.self.inside.labels in
    let spot : Spot = (c.args.dir.now, c.args.name.now) in
    let id = c.in-Some.id in
    let there : map.get entries spot ≡ Some id = sym c.remove.ensures.found ∙ c.in-Some.is in
    let names = names_by_label table.objects (map.remove entries spot) in
    record {
      are_entries = subst (λ (m : FinMap spot_cmp Oid). AreEntries table m) (sym c.remove.ensures.removed) (tree_removed table entries c.self.invariant.are_entries spot);
      counted = subst (λ (m : FinMap spot_cmp Oid). AreCounted c.uncount_name.new.labels (names_by_label table.objects m)) (sym c.remove.ensures.removed)
          (c.uncount_name.ensures names (counted_as labels (names_by_label table.objects entries) (with_name names id (label_in table.objects spot.0)) (names_removed table.objects entries spot id there) c.self.invariant.counted));
    }

pub invariant_of-self-in-None : goal.invariant_of-self-in-None
invariant_of-self-in-None c =
    let entries = c.self.inside.entries in
    let spot : Spot = (c.args.dir.now, c.args.name.now) in
    let same = c.remove.ensures.removed ∙ remove-absent spot_cmp_total spot_cmp_exact entries spot (sym c.remove.ensures.found ∙ c.in-None.is) in
    subst (λ (m : FinMap spot_cmp Oid). IsTree c.self.inside.nodes.table m c.self.inside.labels) (sym same) c.self.invariant

pub returns-in-None-clause-err : goal.returns-in-None-clause-err
returns-in-None-clause-err c =
    let entries = c.self.inside.entries in
    let spot : Spot = (c.args.dir.now, c.args.name.now) in
    let same = c.remove.ensures.removed ∙ remove-absent spot_cmp_total spot_cmp_exact entries spot (sym c.remove.ensures.found ∙ c.in-None.is) in
    let both : ◌≡◌ {A = TreeView} (record { nodes = c.self.inside.nodes; entries = c.remove.new.self }) (record { nodes = c.self.inside.nodes; entries = entries }) =
    (λ i. record { nodes = c.self.inside.nodes; entries = same i }) in
    both ∙ c.self.view_is
