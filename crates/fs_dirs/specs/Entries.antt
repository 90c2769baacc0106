-- The entries of all directories, and the names that objects have.
use Rattle.std.specs.Prelude.{◌≡◌, ◌&&◌, ◌<◌, ℕ, ◌+◌, Bool, List, [], ◌∷◌, map, Option, None, Some, true, cond, sum_by}
use Rattle.std.specs.Coded.{Coded, codes}
use Rattle.std.specs.List.{flat_map}
use Rattle.std.specs.FinMap as table
use Rattle.std.specs.FinMap.{FinMap}
use Rattle.cap_bits.specs.CapSet.{no_caps}
use Rattle.fs_path.specs.Name.{Name}
use Rattle.lab_lattice.specs.Label.{bottom, label_code}
use Rattle.kern_model.specs.declared.numbers.Oid.{Oid}
use Rattle.kern_model.specs.Entries.{link_count}
use Rattle.kern_model.specs.Keys.{Spot, oid_cmp, same_oid, spot_cmp}
use Rattle.kern_model.specs.Maps.{count_entries, get_or, select, where_key}
use Rattle.kern_model.specs.State.{State}
use Rattle.kern_model.specs.ByNumber.{by_oid}
use Rattle.kern_model.specs.LabelLists.{Lists, item_at, items_in}
use Rattle.fs_dirs.specs.Directory.{name_cmp}
use Rattle.fs_dirs.specs.declared.links.Holder.{Holder}
use Rattle.fs_dirs.specs.declared.spots.SpotRef.{SpotRef}

-- the spot that is lent
abbrev pub spot_of : SpotRef → Spot
spot_of s = (s.dir.now, s.name.now)

-- ---- what directories contain

-- the object to which each name in one directory leads
abbrev pub Contents : Type 0
Contents = FinMap name_cmp Oid

-- what the directory with a number contains; nothing where there is none
abbrev pub contents_of : FinMap oid_cmp Contents → Oid → Contents
contents_of dirs dir = get_or dirs dir table.empty

-- what each number has as a directory, by the lists of the labels
abbrev pub dirs_in : Lists Contents → FinMap oid_cmp Contents
dirs_in lists = by_oid (items_in (select (where_key (λ _. true) (map Some)) lists))

-- the entries of a directory, at their spots
abbrev pub at_spots : Oid × Contents → List (Spot × Oid)
at_spots d = map (λ (e : Name × Oid). ((d.0, e.0), e.1)) (table.entries d.1)

-- the entries of all directories: those of each one in turn
unfoldable pub entries_of : FinMap oid_cmp Contents → FinMap spot_cmp Oid
entries_of dirs = table.from_sorted (flat_map at_spots (table.entries dirs))

-- the objects to which the names in a directory lead, in the order of the names
unfoldable pub objects_in : State → Oid → List Oid
objects_in s dir = flat_map (λ (e : Spot × Oid). cond (same_oid e.0.0 dir) (e.1 ∷ []) []) (table.entries s.entries)

-- ---- which names objects have

-- the state with these entries, and nothing else
abbrev pub entries_alone : FinMap spot_cmp Oid → State
entries_alone entries = record {
  objects = table.empty;
  entries = entries;
  procs = table.empty;
  descriptions = table.empty;
  object_numbers = table.empty;
  process_numbers = table.empty;
  description_numbers = table.empty;
  bound = no_caps;
  top = bottom;
}

-- how many names an object has
abbrev pub name_count : FinMap spot_cmp Oid → Oid → ℕ
name_count entries id = link_count (entries_alone entries) id

-- how many names an object has in directories that pass a test
abbrev pub count_in : FinMap spot_cmp Oid → Oid → (Oid → Bool) → ℕ
count_in entries id test = count_entries (λ (spot : Spot) (at : Oid). same_oid at id && test spot.0) entries

-- the number of a directory that holds an object
abbrev pub dir_of : Holder → Oid
dir_of h = record { label = h.label; n = h.n }

-- a directory that holds one name
abbrev pub first_name : Oid → Holder
first_name dir = record { label = dir.label; n = dir.n; further = 0 }

-- how many names stand in directories that pass a test
abbrev pub names_where : (Oid → Bool) → List Holder → ℕ
names_where test holders = sum_by (λ (h : Holder). cond (test (dir_of h)) (h.further + 1) 0) holders

-- how many names stand in all directories
abbrev pub names_in_all : List Holder → ℕ
names_in_all holders = names_where (λ _. true) holders

-- how a directory that holds an object is stored
pub holder_code : Coded Holder
holder_code = Prim.hlevel (codes, label_code)

-- a list says how many names of an object stand in the directories that pass a test, whatever the test
abbrev pub AreHolders : FinMap spot_cmp Oid → Oid → List Holder → Type 0
AreHolders entries id holders = (test : Oid → Bool) → names_where test holders ≡ count_in entries id test

-- the directories where the names of each object stand
abbrev pub Holders : Type 0
Holders = Lists (List Holder)

-- those of one object; none where it has no name
abbrev pub holders_at : Holders → Oid → List Holder
holders_at holders id = item_at [] holders (id.label, id.n)

-- one of the names of an object stands in a directory
abbrev pub IsIn : Oid → List Holder → Type 0
IsIn dir holders = 0 < names_where (λ (d : Oid). same_oid d dir) holders

-- the same names, and one more in a directory
abbrev pub IsWith : List Holder → Oid → List Holder → Type 0
IsWith holders dir more = (test : Oid → Bool) → names_where test more ≡ cond (test dir) 1 0 + names_where test holders

-- the same names of all objects, and one more of one object
abbrev pub HasMore : Holders → Oid → Oid → Holders → Type 0
HasMore holders id dir more = (q : Oid) (test : Oid → Bool) → names_where test (holders_at more q) ≡ cond (same_oid id q && test dir) 1 0 + names_where test (holders_at holders q)

-- the same names of all other objects, and of one object one name alone, in a directory
abbrev pub HasOnly : Holders → Oid → Oid → Holders → Type 0
HasOnly holders id dir only = (q : Oid) → holders_at only q ≡ cond (same_oid q id) (first_name dir ∷ []) (holders_at holders q)

-- the same names of all objects, and one less of an object, if there is one
abbrev pub HasLess : Holders → Option Oid → Oid → Holders → Type 0
HasLess holders None dir less = less ≡ holders
HasLess holders (Some id) dir less = HasMore less id dir holders

-- the index of the names: each object's directories, and how many entries there are
pub record AreIndexed (entries : FinMap spot_cmp Oid) (holders : Holders) (total : ℕ) : Type 0 where
  pub holders_are : (id : Oid) → AreHolders entries id (holders_at holders id)
  pub counted : total ≡ table.len entries
