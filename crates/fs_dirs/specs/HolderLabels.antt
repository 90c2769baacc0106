-- How many names of objects stand in directories of each label.
use Rattle.std.specs.Prelude.{◌≡◌, ◌&&◌, ◌==◌, not, ℕ, ◌+◌, Bool, List, Option, None, Some, cond, sum_by}
use Rattle.std.specs.FinMap as map
use Rattle.std.specs.FinMap.{FinMap}
use Rattle.lab_lattice.specs.Label.{Label, bottom, dominates, label_cmp}
use Rattle.kern_model.specs.declared.numbers.Oid.{Oid}
use Rattle.kern_model.specs.declared.objects.Object.{Object}
use Rattle.kern_model.specs.Keys.{oid_cmp, same_oid, spot_cmp}
use Rattle.kern_model.specs.Maps.{get_or}
use Rattle.kern_model.specs.State.{stub_object}
use Rattle.fs_dirs.specs.Entries.{count_in, names_where}
use Rattle.fs_dirs.specs.declared.links.Holder.{Holder}

-- how many further names an object has at each label beside the first
abbrev pub Counts : Type 0
Counts = FinMap label_cmp ℕ

-- how many names it has at a label
abbrev pub names_at : Option ℕ → ℕ
names_at None = 0
names_at (Some further) = further + 1

-- how many names it has at the labels that pass a test
abbrev pub labels_where : (Label → Bool) → Counts → ℕ
labels_where test counts = sum_by (λ (e : Label × ℕ). cond (test e.0) (e.1 + 1) 0) (map.entries counts)

-- the same names, and some more at a label
abbrev pub HasMoreAt : Counts → Label → ℕ → Counts → Type 0
HasMoreAt counts label n more = (test : Label → Bool) → labels_where test more ≡ cond (test label) n 0 + labels_where test counts

-- whether a label dominates all labels at which there are names
abbrev pub are_below : Label → Counts → Bool
are_below label counts = labels_where (λ (at : Label). not (dominates label at)) counts == 0

-- ---- the names of all objects

-- how many names each object has at the labels that pass a test
abbrev pub Names : Type 0
Names = Oid → (Label → Bool) → ℕ

-- the same names, and one more of an object at a label
abbrev pub with_name : Names → Oid → Label → Names
with_name names id label q test = cond (same_oid id q && test label) 1 0 + names q test

-- the same names, and one more if there is an object
abbrev pub with_found : Names → Option Oid → Label → Names
with_found names None label = names
with_found names (Some id) label = with_name names id label

-- each object has as many names
abbrev pub IsSameNames : Names → Names → Type 0
IsSameNames names others = (q : Oid) (test : Label → Bool) → names q test ≡ others q test

-- this is how many names there are at the labels that pass a test, whatever the test
abbrev pub AreNames : Counts → ((Label → Bool) → ℕ) → Type 0
AreNames counts names = (test : Label → Bool) → labels_where test counts ≡ names test

-- of each object that is counted, these are the names
abbrev pub AreCounted : FinMap oid_cmp Counts → Names → Type 0
AreCounted counted names = (q : Oid) (counts : Counts) → map.get counted q ≡ Some counts → AreNames counts (names q)

-- the label of an object, or the bottom where there is none
abbrev pub label_in : FinMap oid_cmp Object → Oid → Label
label_in objects id = (get_or objects id (stub_object bottom)).label

-- how many names stand in the directories whose label passes a test
abbrev pub names_held : FinMap oid_cmp Object → List Holder → (Label → Bool) → ℕ
names_held objects holders test = names_where (λ (dir : Oid). test (label_in objects dir)) holders

-- how many names each object has in directories whose label passes a test
abbrev pub names_by_label : FinMap oid_cmp Object → FinMap spot_cmp Oid → Names
names_by_label objects entries id test = count_in entries id (λ (dir : Oid). test (label_in objects dir))
