-- The objects of a world so far by their paths, and how many objects and processes each label has.
use Rattle.std.specs.Prelude.{◌≡◌, ℕ, ◌+◌, ◌/◌, ◌^◌, ◌<◌, Bool, true, false, cond, List, [], ◌∷◌, ◌++◌, length, map, take, slice_get, Option, None, Some, IfSome, unwrap_or}
use Rattle.std.specs.FinMap as map
use Rattle.std.specs.FinMap.{FinMap}
use Rattle.std.specs.Hash.FoldHasher as folding
use Rattle.std.specs.declared.hash.FoldHasher.{FoldHasher}
use Rattle.std.specs.List.{fold}
use Rattle.fs_path.specs.Name.{Name}
use Rattle.lab_lattice.specs.Label.{Label, dominates, label_cmp}
use Rattle.kern_model.specs.declared.world.WorldObject.{WorldObject}
use Rattle.kern_model.specs.declared.world.WorldProc.{WorldProc}
use Rattle.kern_model.specs.Kinds.{kind_of}
use Rattle.kern_model.specs.Kinds.{is_dir}
use Rattle.kern_model.specs.Rules.{same_label}
use Rattle.kern_model.specs.World.{object_with_path, objects_at, procs_at}
use Rattle.world_text.specs.declared.builder.PathEntry.{PathEntry}
use Rattle.world_text.specs.declared.builder.Kept.{Kept}
use Rattle.world_text.specs.declared.builder.Spot.{Spot}
use Rattle.world_text.specs.Placing.{directory_of}
use Rattle.world_text.specs.Tree.{Tree}

-- what is kept of an object at its path
abbrev pub path_entry_of : WorldObject → PathEntry
path_entry_of o = record { is_dir = is_dir (kind_of o.body); label = o.label }

-- how many are counted at a label
abbrev pub count_in : FinMap label_cmp ℕ → Label → ℕ
count_in counts l = unwrap_or (map.get counts l) 0

-- one more is counted at a label
abbrev pub IsCounted : FinMap label_cmp ℕ → FinMap label_cmp ℕ → Label → Type 0
IsCounted old new label = (l : Label) → count_in new l ≡ count_in old l + cond (same_label label l) 1 0

-- a hasher after names, one after another
unfoldable pub hasher_of : List Name → FoldHasher
hasher_of names = fold folding.write folding.initial names

-- the hash of a path of which this is the hasher
abbrev pub hash_in : FoldHasher → ℕ
hash_in hasher = folding.finish hasher / 2 ^ 32

-- the hash of a path: what a hasher has of its names
abbrev pub path_hash : List Name → ℕ
path_hash names = hash_in (hasher_of names)

-- the object at a place, if it is one
abbrev pub object_at : List WorldObject → Option ℕ → Option WorldObject
object_at os None = None
object_at os (Some i) = slice_get os i

-- the objects and processes that are kept
abbrev pub tree_of : Kept → Tree
tree_of k = record { objects = k.objects; procs = k.procs }

-- the hashes are those of the objects' paths, no path was given before, and the counts say how many objects and processes have a
-- label
pub record IsIndexed (k : Kept) : Type 0 where
  pub hashes_are : k.chains ≡ map (λ (o : WorldObject). path_hash o.path.names) k.objects
  pub apart : (i : ℕ) (o : WorldObject) → slice_get k.objects i ≡ Some o → object_with_path (take i k.objects) o.path.names ≡ None
  pub objects_are : (l : Label) → count_in k.object_counts l ≡ objects_at l k.objects
  pub procs_are : (l : Label) → count_in k.proc_counts l ≡ procs_at l k.procs

-- nothing is kept
pub record IsEmpty (k : Kept) : Type 0 where
  pub no_objects : k.objects ≡ []
  pub no_procs : k.procs ≡ []
  pub no_hashes : k.chains ≡ []
  pub no_object_counts : k.object_counts ≡ map.empty
  pub no_proc_counts : k.proc_counts ≡ map.empty

-- one more object is kept, whose path has this hash
pub record HasObject (old new : Kept) (o : WorldObject) (hash : ℕ) : Type 0 where
  pub objects : new.objects ≡ old.objects ++ o ∷ []
  pub procs : new.procs ≡ old.procs
  pub hashes : new.chains ≡ old.chains ++ hash ∷ []
  pub object_counts : IsCounted old.object_counts new.object_counts o.label
  pub proc_counts : new.proc_counts ≡ old.proc_counts

-- one more process is kept
pub record HasProcess (old new : Kept) (p : WorldProc) : Type 0 where
  pub objects : new.objects ≡ old.objects
  pub procs : new.procs ≡ old.procs ++ p ∷ []
  pub hashes : new.chains ≡ old.chains
  pub object_counts : new.object_counts ≡ old.object_counts
  pub proc_counts : IsCounted old.proc_counts new.proc_counts p.label

-- where an object goes: the hash of its path, the place of its directory, and how many objects have its label
pub record IsSpot (t : Tree) (o : WorldObject) (s : Spot) : Type 0 where
  pub hash_is : s.hash ≡ path_hash o.path.names
  pub within : IfSome s.directory (λ place. place < length t.objects)
  pub directory_is : object_at t.objects s.directory ≡ directory_of t.objects o.path.names
  pub count_is : s.count ≡ objects_at o.label t.objects

-- whether a directory stands there
abbrev pub is_dir_entry : Option PathEntry → Bool
is_dir_entry None = false
is_dir_entry (Some s) = s.is_dir

-- whether a label dominates that of what stands there
abbrev pub is_above_entry : Label → Option PathEntry → Bool
is_above_entry label None = true
is_above_entry label (Some s) = dominates label s.label
