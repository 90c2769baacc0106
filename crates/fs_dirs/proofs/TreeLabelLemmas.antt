-- What is counted of the names of objects, where the tree changes.
use Rattle.std.specs.Prelude.{◌≡◌, ◌&&◌, ◌+◌, Bool, true, false, List, [], ◌∷◌, Option, Some, None, cond, count_by, refl}
use Rattle.std.specs.declared.cmp.Ordering.{Ordering}
use Rattle.std.specs.Ordering.{eq_by_cmp}
use Rattle.std.specs.Cmp.{IsTotalOrder}
use Rattle.std.specs.List.{AllByRecursion}
use Rattle.std.specs.FinMap as map
use Rattle.std.specs.FinMap.{FinMap, IsAntisymmetric, get-insert}
use Rattle.std.proofs.Common.{ap, sym, ◌∙◌, subst, arith}
use Rattle.lab_lattice.specs.Label.{Label, bottom}
use Rattle.kern_model.specs.declared.numbers.Oid.{Oid}
use Rattle.kern_model.specs.declared.objects.Object.{Object}
use Rattle.kern_model.specs.Entries.{entry_count}
use Rattle.kern_model.specs.Keys.{Spot, oid_cmp, same_oid, spot_cmp}
use Rattle.kern_model.specs.Maps.{count_entries}
use Rattle.kern_model.specs.State.{stub_object}
use Rattle.kern_model.proofs.KeyLaws.{oid_cmp_total, oid_cmp_exact, spot_cmp_total, spot_cmp_exact}
use Rattle.kern_model.proofs.MapLemmas.{each-entries, get-insert_same, get_or-found, get_or-same, remove-absent, same_key}
use Rattle.kern_model.proofs.Selections.{count_some}
use Rattle.fs_nodes.specs.Nodes.{NodeTable, with_new, with_object}
use Rattle.fs_dirs.specs.Entries.{entries_alone}
use Rattle.fs_dirs.specs.HolderLabels.{AreCounted, Counts, label_in, names_by_label, with_found, with_name}
use Rattle.fs_dirs.specs.Tree.{AreEntries, IsTree}
use Rattle.fs_dirs.proofs.CountLemmas.{count-cons, count_entries-insert, count_entries-remove, count_entries-set}
use Rattle.fs_dirs.proofs.HolderLabelLemmas.{counted_as, none_counted}
use Rattle.fs_dirs.proofs.TreeLemmas.{still_there, tree_same, tree_set, tree_streamed, tree_with_new}

-- ---- tests that answer alike
module _ {K X : Type 0} {R : K → K → Ordering} (o : IsTotalOrder R) (exact : IsAntisymmetric R) (p q : K → X → Bool) where
  alike : (es : List (K × X)) → AllByRecursion (λ (e : K × X). p e.0 e.1 ≡ q e.0 e.1) es → count_by (λ (e : K × X). p e.0 e.1) es ≡ count_by (λ (e : K × X). q e.0 e.1) es
  alike [] h = refl
  alike (e ∷ es) h =
      count-cons (λ (e : K × X). p e.0 e.1) e es
      ∙ (λ i. cond (h.0 i) 1 0 + alike es h.1 i)
      ∙ sym (count-cons (λ (e : K × X). q e.0 e.1) e es)

  -- as many entries pass
  count_entries-alike : (m : FinMap R X) → ((k : K) (x : X) → map.get m k ≡ Some x → p k x ≡ q k x) → count_entries p m ≡ count_entries q m
  unfolding count_entries
  count_entries-alike m h = alike (map.entries m) (each-entries o exact (λ (k : K) (x : X). p k x ≡ q k x) m h)

-- ---- an entry that comes or goes
module _ (objects : FinMap oid_cmp Object) (entries : FinMap spot_cmp Oid) (spot : Spot) (id : Oid) where
  pub names_inserted : map.get entries spot ≡ None → (q : Oid) (test : Label → Bool) → with_name (names_by_label objects entries) id (label_in objects spot.0) q test ≡ names_by_label objects (map.insert entries spot id) q test
  names_inserted none q test = sym (count_entries-insert (λ (s : Spot) (at : Oid). same_oid at q && test (label_in objects s.0)) spot_cmp_total entries spot id none)

  pub names_removed : map.get entries spot ≡ Some id → (q : Oid) (test : Label → Bool) → names_by_label objects entries q test ≡ with_name (names_by_label objects (map.remove entries spot)) id (label_in objects spot.0) q test
  names_removed is q test = count_entries-remove (λ (s : Spot) (at : Oid). same_oid at q && test (label_in objects s.0)) spot_cmp_total spot_cmp_exact entries spot id is

  pub names_set : (q : Oid) (test : Label → Bool) → with_name (names_by_label objects (map.remove entries spot)) id (label_in objects spot.0) q test ≡ names_by_label objects (map.insert entries spot id) q test
  names_set q test = sym (count_entries-set (λ (s : Spot) (at : Oid). same_oid at q && test (label_in objects s.0)) spot_cmp_total spot_cmp_exact entries spot id)

-- the names are those without an entry, and the one that it was, if it is there
pub names_found : (objects : FinMap oid_cmp Object) (entries : FinMap spot_cmp Oid) (spot : Spot) (w : Option Oid) → map.get entries spot ≡ w → (q : Oid) (test : Label → Bool) → names_by_label objects entries q test ≡ with_found (names_by_label objects (map.remove entries spot)) w (label_in objects spot.0) q test
names_found objects entries spot None is q test = ap (λ (m : FinMap spot_cmp Oid). names_by_label objects m q test) (sym (remove-absent spot_cmp_total spot_cmp_exact entries spot is))
names_found objects entries spot (Some old) is q test = names_removed objects entries spot old is q test

-- an entry that moves is there still once its new spot is set
pub still_leads : (entries : FinMap spot_cmp Oid) (from to : Spot) (id : Oid) → eq_by_cmp spot_cmp from to ≡ false → map.get entries from ≡ Some id → map.get (map.insert entries to id) from ≡ Some id
still_leads entries from to id apart there = get-insert spot_cmp_total entries to id from ∙ ap (λ b. cond b (Some id) (map.get entries from)) apart ∙ there

-- ---- an object that changes
-- where the directories of all entries keep their labels, the names stay
pub names_kept : (objects others : FinMap oid_cmp Object) (entries : FinMap spot_cmp Oid) → ((spot : Spot) (at : Oid) → map.get entries spot ≡ Some at → label_in objects spot.0 ≡ label_in others spot.0)
    → (q : Oid) (test : Label → Bool) → names_by_label objects entries q test ≡ names_by_label others entries q test
names_kept objects others entries kept q test =
    count_entries-alike spot_cmp_total spot_cmp_exact (λ (s : Spot) (at : Oid). same_oid at q && test (label_in objects s.0)) (λ (s : Spot) (at : Oid). same_oid at q && test (label_in others s.0)) entries
    (λ spot at is. ap (λ (l : Label). same_oid at q && test l) (kept spot at is))

module _ (objects : FinMap oid_cmp Object) (id : Oid) (o : Object) where
  -- the label of each other object stays
  pub label_of_other : (q : Oid) → same_oid q id ≡ false → label_in objects q ≡ label_in (map.insert objects id o) q
  label_of_other q other =
      ap (λ (o : Object). o.label) (get_or-same objects (map.insert objects id o) q (stub_object bottom) (sym (get-insert oid_cmp_total objects id o q ∙ ap (λ b. cond b (Some o) (map.get objects q)) other)))

  -- and that of an object that keeps it
  pub label_kept : (old : Object) → map.get objects id ≡ Some old → o.label ≡ old.label → (q : Oid) → label_in objects q ≡ label_in (map.insert objects id o) q
  label_kept old is same q = elim (same_oid q id) as (λ b. same_oid q id ≡ b → label_in objects q ≡ label_in (map.insert objects id o) q) [
    | true ↦ λ t.
        let at : q ≡ id = same_key oid_cmp_exact q id t in
        ap (λ (o : Object). o.label) (get_or-found objects q (stub_object bottom) old (ap (map.get objects) at ∙ is)) ∙ sym same
        ∙ ap (λ (o : Object). o.label) (sym (get_or-found (map.insert objects id o) q (stub_object bottom) o (ap (map.get (map.insert objects id o)) at ∙ get-insert_same oid_cmp_total objects id o)))
    | false ↦ label_of_other q
  ] refl

-- where no name stands in a directory, no entry does
no_entry_at : (entries : FinMap spot_cmp Oid) (dir : Oid) → entry_count (entries_alone entries) dir ≡ 0 → (spot : Spot) (at : Oid) → map.get entries spot ≡ Some at → same_oid spot.0 dir ≡ false
no_entry_at entries dir none spot at is = elim (same_oid spot.0 dir) as (λ b. same_oid spot.0 dir ≡ b → b ≡ false) [
  | true ↦ λ t. let some = count_some spot_cmp_total spot_cmp_exact (λ (spot : Spot) (at : Oid). same_oid spot.0 dir) entries spot at is t in absurd (omega (arith, some, none))
  | false ↦ λ _. refl
] refl

-- a directory without names may get any label
pub names_of_empty : (objects : FinMap oid_cmp Object) (entries : FinMap spot_cmp Oid) (id : Oid) (o : Object) → entry_count (entries_alone entries) id ≡ 0 → (q : Oid) (test : Label → Bool) → names_by_label objects entries q test ≡ names_by_label (map.insert objects id o) entries q test
names_of_empty objects entries id o none = names_kept objects (map.insert objects id o) entries (λ spot at is. label_of_other objects id o spot.0 (no_entry_at entries id none spot at is))

-- ---- a tree
module _ {table after : NodeTable} {entries : FinMap spot_cmp Oid} {labels : FinMap oid_cmp Counts} (tree : IsTree table entries labels) where
  -- it stays one where all objects keep their labels
  kept : AreEntries after entries → ((spot : Spot) (at : Oid) → map.get entries spot ≡ Some at → label_in table.objects spot.0 ≡ label_in after.objects spot.0) → IsTree after entries labels
  kept are same = record {
    are_entries = are;
    counted = counted_as labels (names_by_label table.objects entries) (names_by_label after.objects entries) (names_kept table.objects after.objects entries same) tree.counted;
  }

  -- an object becomes another one, of the same kind and label
  pub with_set : (id : Oid) (becomes : Object → Object) (o : Object) → map.get table.objects id ≡ Some o → (becomes o).kind ≡ o.kind → (becomes o).label ≡ o.label → after ≡ with_object table id (becomes o) → IsTree after entries labels
  with_set id becomes o is kind label made =
      kept (tree_set id becomes o tree.are_entries is kind made)
      (λ spot at _. label_kept table.objects id (becomes o) o is label spot.0 ∙ ap (λ (t : NodeTable). label_in t.objects spot.0) (sym made))

  pub with_streamed : (id : Oid) (old o : Object) → map.get table.objects id ≡ Some old → o.kind ≡ old.kind → o.label ≡ old.label → after.objects ≡ map.insert table.objects id o → after.numbers ≡ table.numbers → IsTree after entries labels
  with_streamed id old o is kind label objects numbers =
      kept (tree_streamed table after entries tree.are_entries id old o is kind objects numbers)
      (λ spot at _. label_kept table.objects id o old is label spot.0 ∙ ap (λ (m : FinMap oid_cmp Object). label_in m spot.0) (sym objects))

  pub with_same : after.objects ≡ table.objects → after.numbers ≡ table.numbers → IsTree after entries labels
  with_same objects numbers =
      kept (tree_same table after entries tree.are_entries objects numbers) (λ spot at _. ap (λ (m : FinMap oid_cmp Object). label_in m spot.0) (sym objects))

  -- an object is made
  pub with_made : (label : Label) (o : Object) → after ≡ with_new table label o → IsTree after entries labels
  with_made label o made =
      let are = tree.are_entries in
      kept (subst (λ (t : NodeTable). AreEntries t entries) (sym made) (tree_with_new table entries are label o))
      (λ spot at is.
      let d = are.dirs spot at is in
      let stays = still_there table label o are.drawn_already spot.0 d.object d.is in
      ap (λ (o : Object). o.label) (get_or-found table.objects spot.0 (stub_object bottom) d.object d.is ∙ sym (get_or-found (with_new table label o).objects spot.0 (stub_object bottom) d.object stays))
      ∙ ap (λ (t : NodeTable). label_in t.objects spot.0) (sym made))

-- a tree of which nothing is counted
pub uncounted : (table : NodeTable) (entries : FinMap spot_cmp Oid) (labels : FinMap oid_cmp Counts) → AreEntries table entries → labels ≡ map.empty → IsTree table entries labels
uncounted table entries labels are none = record {
  are_entries = are;
  counted = subst (λ (m : FinMap oid_cmp Counts). AreCounted m (names_by_label table.objects entries)) (sym none) (none_counted (names_by_label table.objects entries));
}
