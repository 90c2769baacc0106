-- What holds of every world that is accepted.
use Rattle.std.specs.Prelude.{◌≡◌, ℕ, ◌≤◌, ◌==◌, Bool, true, false, List, [], ◌∷◌, ◌++◌, Option, Some, None, count_by, length}
use Rattle.std.specs.List.{AllByRecursion, find}
use Rattle.std.specs.Cmp.Lexicographic.{pointwise}
use Rattle.cap_bits.specs.CapSet.{is_within}
use Rattle.cap_bits.specs.FileCaps.{no_file_caps}
use Rattle.fs_path.specs.Name.{Name}
use Rattle.fs_path.specs.Path.{HasForm}
use Rattle.lab_lattice.specs.Label.{Label, bottom, dominates}
use Rattle.kern_model.specs.declared.limits.TheConstants.{MAX_FILE_BYTES, MAX_GROUPS, MAX_OBJECTS, MAX_PROCS}
use Rattle.kern_model.specs.declared.numbers.Ids.{Ids}
use Rattle.kern_model.specs.declared.objects.Body.TheVariants as body
use Rattle.kern_model.specs.declared.world.World.{World}
use Rattle.kern_model.specs.declared.world.WorldObject.{WorldObject}
use Rattle.kern_model.specs.declared.world.WorldProc.{WorldProc}
use Rattle.kern_model.specs.Kinds.{is_file, kind_of, bytes_of, is_mode}
use Rattle.kern_model.specs.Rules.{same_label}

-- how many objects have a label
abbrev pub objects_at : Label → List WorldObject → ℕ
objects_at l os = count_by (λ (o : WorldObject). same_label o.label l) os

-- how many processes have a label
abbrev pub procs_at : Label → List WorldProc → ℕ
procs_at l ps = count_by (λ (p : WorldProc). same_label p.label l) ps

-- no label has more objects or processes than may be drawn
pub record HasRoom (w : World) : Type 0 where
  pub objects : (l : Label) → objects_at l w.objects ≤ MAX_OBJECTS
  pub procs : (l : Label) → procs_at l w.procs ≤ MAX_PROCS

-- whether two paths have the same names
abbrev pub same_names : List Name → List Name → Bool
same_names = pointwise (pointwise ◌==◌)

-- the names of the directory in which a path's last name stands: all but the last
abbrev pub parent_names : List Name → List Name
parent_names [] = []
parent_names (name ∷ []) = []
parent_names (name ∷ next ∷ names) = name ∷ parent_names (next ∷ names)

-- the first of these objects whose path has these names
abbrev pub object_with_path : List WorldObject → List Name → Option WorldObject
object_with_path os names = find (λ (o : WorldObject). same_names o.path.names names) os

-- an object may come after others: its path was not given, its directory was, and its label dominates the directory's
pub record IsPlaced (before : List WorldObject) (o : WorldObject) : Type 0 where
  pub new : object_with_path before o.path.names ≡ None
  pub parent : WorldObject
  pub parent_given : object_with_path before (parent_names o.path.names) ≡ Some parent
  pub parent_dir : parent.body ≡ body.Dir
  pub order : dominates o.label parent.label ≡ true

-- each of these may come after those before it
abbrev pub ArePlaced : List WorldObject → List WorldObject → Type 0
ArePlaced before [] = Unit {0}
ArePlaced before (o ∷ os) = IsPlaced before o × ArePlaced (before ++ o ∷ []) os

-- an object of a world has an absolute path, a mode, a label below top, and no more bytes than a file may have; it is no pipe, and has no capabilities unless it is a file
pub record IsWorldObject (top : Label) (o : WorldObject) : Type 0 where
  pub absolute : o.path.absolute ≡ true
  pub path : HasForm o.path.absolute o.path.names
  pub mode : is_mode o.attr.mode ≡ true
  pub below : dominates top o.label ≡ true
  pub few : length (bytes_of o.body) ≤ MAX_FILE_BYTES
  pub no_pipe : o.body ≡ body.Pipe → ⊥
  pub only_file : is_file (kind_of o.body) ≡ false → o.attr.caps ≡ no_file_caps

-- real, effective and saved user are one, and so are the groups
pub record AreOne (ids : Ids) : Type 0 where
  pub ruid : ids.ruid ≡ ids.euid
  pub suid : ids.suid ≡ ids.euid
  pub rgid : ids.rgid ≡ ids.egid
  pub sgid : ids.sgid ≡ ids.egid

-- a process of a world has one user and one group, no more groups besides than it may have, a label below top, and no effective capability that is not permitted
pub record IsWorldProc (top : Label) (p : WorldProc) : Type 0 where
  pub ids : AreOne p.ids
  pub few : length p.ids.groups ≤ MAX_GROUPS
  pub below : dominates top p.label ≡ true
  pub within : is_within p.caps.e p.caps.p ≡ true

-- the first object of a world is its root, a directory of the bottom label, and each other one stands in a directory that was
-- given before it; each object and each process is as it has to be, and there are numbers for all of them
pub record IsWorld (w : World) : Type 0 where
  pub first : WorldObject
  pub others : List WorldObject
  pub objects_are : w.objects ≡ first ∷ others
  pub no_names : first.path.names ≡ []
  pub root_body : first.body ≡ body.Dir
  pub root_label : first.label ≡ bottom
  pub others_placed : ArePlaced (first ∷ []) others
  pub objects : AllByRecursion (IsWorldObject w.top) w.objects
  pub procs : AllByRecursion (IsWorldProc w.top) w.procs
  pub room : HasRoom w
