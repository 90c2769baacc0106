use Rattle.std.specs.Prelude.{◌≡◌, Some, false}
use Rattle.std.specs.Ordering.{eq_by_cmp}
use Rattle.std.proofs.Common.{ap, inl, inr, sym, ◌∙◌, subst}
use Rattle.std.specs.FinMap as map
use Rattle.std.specs.FinMap.{FinMap}
use Rattle.kern_model.specs.declared.numbers.Oid.{Oid}
use Rattle.kern_model.specs.Keys.{Spot, oid_cmp, spot_cmp}
use Rattle.kern_model.specs.Valid.{IsDir}
use Rattle.kern_model.proofs.KeyLaws.{spot_cmp_total, spot_cmp_exact}
use Rattle.kern_model.proofs.MapLemmas.{same_key}
use Rattle.fs_dirs.specs.HolderLabels.{AreCounted, Counts, label_in, names_by_label, with_found, with_name}
use Rattle.fs_dirs.specs.Tree.{AreEntries, TreeView}
use Rattle.fs_dirs.proofs.CountLemmas.{insert-remove}
use Rattle.fs_dirs.proofs.HolderLabelLemmas.{counted_as, none_counted}
use Rattle.fs_dirs.proofs.MoveLemmas.{remove-insert_other}
use Rattle.fs_dirs.proofs.TreeLabelLemmas.{names_found, names_removed, names_set, still_leads}
use Rattle.fs_dirs.proofs.TreeLemmas.{tree_moved}
use Rattle.fs_dirs.proofs.tree.Tree.move_entry.Goals as goal

pub returns-then-is_same-clause-moved : goal.returns-then-is_same-clause-moved
returns-then-is_same-clause-moved c id is =
    let tree = c.args.self.now in
    let spot : Spot = (c.args.from.now, c.args.old.now) in
    let new : Spot = (c.args.to.now, c.args.new.now) in
    let one : spot ≡ new = same_key spot_cmp_exact spot new (sym c.is_same.ensures ∙ c.if-is_same.true) in
    let same : map.insert (map.remove tree.entries spot) new id ≡ tree.entries =
    ap (λ (q : Spot). map.insert (map.remove tree.entries spot) q id) (sym one) ∙ insert-remove spot_cmp_total spot_cmp_exact tree.entries spot id is in
    ap (λ (m : FinMap spot_cmp Oid). record tree { entries = m }) (sym same)

pub invariant_of-self-2 : goal.invariant_of-self-2
invariant_of-self-2 c =
    let table = c.self.inside.nodes.table in
    let objects = table.objects in
    let entries = c.self.inside.entries in
    let labels = c.self.inside.labels in
    let from : Spot = (c.args.from.now, c.args.old.now) in
    let to : Spot = (c.args.to.now, c.args.new.now) in
    let id = c.in-Some.id in
    let there : map.get entries from ≡ Some id = sym c.look.ensures ∙ c.in-Some.is in
    let apart : eq_by_cmp spot_cmp from to ≡ false = sym c.is_same.ensures ∙ c.if-is_same.false in
    let left = names_by_label objects (map.remove entries to) in
    let replaced : AreCounted labels (with_found left c.look_where_counted-replaced.result (label_in objects to.0)) =
    (elim c.look_where_counted-replaced.ensures [
      | inl empty ↦ subst (λ (m : FinMap oid_cmp Counts). AreCounted m (with_found left c.look_where_counted-replaced.result (label_in objects to.0))) (sym empty) (none_counted (with_found left c.look_where_counted-replaced.result (label_in objects to.0)))
      | inr found ↦ counted_as labels (names_by_label objects entries) (with_found left c.look_where_counted-replaced.result (label_in objects to.0)) (names_found objects entries to c.look_where_counted-replaced.result (sym found)) c.self.invariant.counted
    ]) in
    let placed = map.insert entries to id in
    let added = counted_as c.count_name.new.labels (with_name left id (label_in objects to.0)) (names_by_label objects placed) (names_set objects entries to id) (c.count_name.ensures left (c.uncount_found.ensures left replaced)) in
    let moved = names_by_label objects (map.remove placed from) in
    let taken = c.uncount_name.ensures moved (counted_as c.count_name.new.labels (names_by_label objects placed) (with_name moved id (label_in objects from.0)) (names_removed objects placed from id (still_leads entries from to id apart there)) added) in
    let same = remove-insert_other spot_cmp_total spot_cmp_exact entries from to apart id ∙ sym c.in_ok-relocate.ensures.moved in
    record {
      are_entries = subst (λ (m : FinMap spot_cmp Oid). AreEntries table m) (sym c.in_ok-relocate.ensures.moved)
          (tree_moved table entries c.self.invariant.are_entries from to id (subst (λ (t : TreeView). IsDir t.nodes.table.objects c.args.to.now) (sym c.self.view_is) c.requires) there);
      counted = subst (λ (m : FinMap spot_cmp Oid). AreCounted c.uncount_name.new.labels (names_by_label objects m)) same taken;
    }
