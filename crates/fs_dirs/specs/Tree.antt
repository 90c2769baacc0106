-- The tree: the objects, and the entries of the directories among them.
use Rattle.std.specs.Prelude.{◌≡◌, ◌&&◌, Bool, true, false, ◌≤◌, ◌<◌, None, Some, refl}
use Rattle.std.specs.FinMap as map
use Rattle.std.specs.FinMap.{FinMap}
use Rattle.std.specs.Coded.{Coded, code_by, coded×}
use Rattle.fs_path.specs.Name.{Name}
use Rattle.lab_lattice.specs.Label.{bottom}
use Rattle.kern_model.specs.declared.numbers.Oid.{Oid}
use Rattle.kern_model.specs.declared.objects.Attr.{Attr}
use Rattle.kern_model.specs.declared.objects.Body.TheVariants as body
use Rattle.kern_model.specs.declared.objects.Kind.TheVariants as kind
use Rattle.kern_model.specs.declared.objects.Object.{Object}
use Rattle.kern_model.specs.declared.limits.TheConstants.{MAX_LINKS}
use Rattle.kern_model.specs.Entries.{is_removed, is_under, link_count}
use Rattle.kern_model.specs.Keys.{Spot, oid_cmp, spot_cmp}
use Rattle.kern_model.specs.Kinds.{is_dir, object_with}
use Rattle.kern_model.specs.Maps.{IfPresent}
use Rattle.kern_model.specs.State.{State, last_drawn, look, object_at, root}
use Rattle.kern_model.specs.Valid.{IsDir}
use Rattle.fs_nodes.specs.Nodes.{NodeSlots, NodeTable, with_object}
use Rattle.fs_dirs.specs.Entries.{entries_alone, name_count}
use Rattle.fs_dirs.specs.HolderLabels.{AreCounted, Counts, names_by_label}

-- objects with their places, and the entries of directories
pub record TreeView : Type 0 where
  pub nodes : NodeSlots
  pub entries : FinMap spot_cmp Oid

-- how they are stored
abbrev pub tree_code : Coded NodeSlots → Coded (FinMap spot_cmp Oid) → Coded TreeView
tree_code nodes entries =
    code_by (NodeSlots × FinMap spot_cmp Oid) (coded× nodes entries)
    (λ t. (t.nodes, t.entries)) (λ p. record { nodes = p.0; entries = p.1 }) (λ _. refl)

-- the state that has these objects and entries, and nothing else
abbrev pub state_of_tree : TreeView → State
state_of_tree t = record (entries_alone t.entries) { objects = t.nodes.table.objects; object_numbers = t.nodes.table.numbers }

-- what holds of the object with a number, if there is one
abbrev pub IfObject : TreeView → Oid → (Object → Type 0) → Type 0
IfObject t id holds = IfPresent t.nodes.table.objects id holds

-- a tree has the objects of another one, but for one that is set
abbrev pub HasObject : TreeView → Oid → Object → TreeView → Type 0
HasObject before id o after = after.nodes.table ≡ with_object before.nodes.table id o

-- what holds of the object to which a name in a directory leads, if it leads to one
abbrev pub IfEntry : TreeView → Oid → Name → (Oid → Type 0) → Type 0
IfEntry t dir name holds = (id : Oid) → look (state_of_tree t) dir name ≡ Some id → holds id

-- the tree with the entry of an object at another spot, in place of what was there
abbrev pub with_moved : TreeView → Spot → Spot → Oid → TreeView
with_moved t from to id = record t { entries = map.insert (map.remove t.entries from) to id }

-- the root directory alone
abbrev pub root_alone : Attr → NodeTable
root_alone attr = record { objects = map.insert map.empty root (object_with bottom attr body.Dir); numbers = map.insert map.empty bottom 1 }

-- an object has the number, and is no directory
pub record IsNoDir (objects : FinMap oid_cmp Object) (id : Oid) : Type 0 where
  pub object : Object
  pub is : map.get objects id ≡ Some object
  pub no_dir : object.kind ≡ kind.Dir → ⊥

-- objects have numbers that were drawn, entries stand in directories, an object has few names, and a directory never several
pub record AreEntries (table : NodeTable) (entries : FinMap spot_cmp Oid) : Type 0 where
  pub drawn_already : (id : Oid) (o : Object) → map.get table.objects id ≡ Some o → id.n ≤ last_drawn table.numbers id.label
  pub dirs : (spot : Spot) (id : Oid) → map.get entries spot ≡ Some id → IsDir table.objects spot.0
  pub few : (id : Oid) → name_count entries id ≤ MAX_LINKS
  pub single : (id : Oid) → 1 < name_count entries id → IsNoDir table.objects id

-- the entries are such, and what is counted of objects are the names that they have in directories of each label
pub record IsTree (table : NodeTable) (entries : FinMap spot_cmp Oid) (labels : FinMap oid_cmp Counts) : Type 0 where
  pub are_entries : AreEntries table entries
  pub counted : AreCounted labels (names_by_label table.objects entries)

-- an object may get one more name: it has few, is neither a pipe nor the root, and a directory gets no second one
pub record MayBeAdded (s : State) (id : Oid) : Type 0 where
  pub object : Object
  pub is : map.get s.objects id ≡ Some object
  pub few : link_count s id < MAX_LINKS
  pub no_root : id ≡ root → ⊥
  pub no_pipe : object.kind ≡ kind.Pipe → ⊥
  pub one : object.kind ≡ kind.Dir → link_count s id ≡ 0

-- whether an object would lie under itself in a directory: it is a directory, and the other one is it or lies under it
abbrev pub would_loop : State → Oid → Oid → Bool
would_loop s id dir = is_dir (object_at s id).kind && is_under s dir id

-- in a directory an object would not lie under itself, but the directory is removed
abbrev pub MayEnterRemoved : TreeView → Oid → Oid → Type 0
MayEnterRemoved t id dir = (would_loop (state_of_tree t) id dir ≡ false) × (is_removed (state_of_tree t) dir ≡ true)

-- a directory has no such name, but it is removed
abbrev pub IsAbsentFromRemoved : TreeView → Oid → Name → Type 0
IsAbsentFromRemoved t dir name = (look (state_of_tree t) dir name ≡ None) × (is_removed (state_of_tree t) dir ≡ true)
