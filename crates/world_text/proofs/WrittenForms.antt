-- The values of a world that can be written in canonical form.
use Rattle.std.specs.Prelude.{◌≡◌, ◌≤◌, true, false, List, [], ◌∷◌, length, refl}
use Rattle.std.specs.List.{AllByRecursion}
use Rattle.fs_path.specs.Path.{PathValue, HasForm}
use Rattle.lab_lattice.specs.Label.{Label, dominates}
use Rattle.cap_bits.specs.CapSet.{is_within}
use Rattle.cap_bits.specs.FileCaps.{no_file_caps}
use Rattle.kern_model.specs.declared.numbers.Ids.{Ids}
use Rattle.kern_model.specs.declared.objects.Body.{Body}
use Rattle.kern_model.specs.declared.objects.Body.TheVariants as body
use Rattle.kern_model.specs.declared.world.WorldObject.{WorldObject}
use Rattle.kern_model.specs.declared.world.WorldProc.{WorldProc}
use Rattle.kern_model.specs.declared.limits.TheConstants.{MAX_GROUPS}
use Rattle.kern_model.specs.Kinds.{is_file, kind_of, is_mode}
use Rattle.kern_model.specs.World.{IsWorldObject, IsWorldProc}
use Rattle.line_text.specs.Ranges.{are_bytes, are_numbers, IsNumber}
use Rattle.world_text.specs.CanBeRead.{HasBytes, IsWrittenObject, IsWrittenIds}
use Rattle.world_text.specs.Written.{path_text}

-- an absolute path whose text is bytes
pub record IsCanonicalPath (path : PathValue) : Type 0 where
  pub absolute : path.absolute ≡ true
  pub form : HasForm path.absolute path.names
  pub bytes : are_bytes (path_text path.names) ≡ true

-- a directory, a file of bytes or a FIFO
abbrev pub IsCanonicalBody : Body → Type 0
IsCanonicalBody body.Dir = Unit {0}
IsCanonicalBody (body.File bytes) = are_bytes bytes ≡ true
IsCanonicalBody body.Fifo = Unit {0}
IsCanonicalBody body.Pipe = ⊥

-- an object whose values can be written in the words of its line
pub record IsCanonicalObject (o : WorldObject) : Type 0 where
  pub path : IsCanonicalPath o.path
  pub mode : is_mode o.attr.mode ≡ true
  pub owner : IsNumber o.attr.owner
  pub group : IsNumber o.attr.group
  pub body : IsCanonicalBody o.body

-- ids of one user and one group, and further groups
pub record IsCanonicalIds (ids : Ids) : Type 0 where
  pub user : IsNumber ids.euid
  pub group : IsNumber ids.egid
  pub ruid : ids.ruid ≡ ids.euid
  pub suid : ids.suid ≡ ids.euid
  pub rgid : ids.rgid ≡ ids.egid
  pub sgid : ids.sgid ≡ ids.egid
  pub groups : are_numbers ids.groups ≡ true
  pub few : length ids.groups ≤ MAX_GROUPS

canonical_body : (b : Body) → (b ≡ body.Pipe → ⊥) → HasBytes b → IsCanonicalBody b
canonical_body body.Dir no_pipe bytes = tt
canonical_body (body.File xs) no_pipe bytes = bytes
canonical_body body.Fifo no_pipe bytes = tt
canonical_body body.Pipe no_pipe bytes = absurd (no_pipe refl)

canonical_object : (top : Label) (o : WorldObject) → IsWorldObject top o → IsWrittenObject o → IsCanonicalObject o
canonical_object top o is written = record {
  path = record { absolute = is.absolute; form = is.path; bytes = written.path };
  mode = is.mode;
  owner = written.owner;
  group = written.group;
  body = canonical_body o.body is.no_pipe written.body;
}

canonical_ids : (top : Label) (p : WorldProc) → IsWorldProc top p → IsWrittenIds p.ids → IsCanonicalIds p.ids
canonical_ids top p is written = record {
  user = written.user;
  group = written.group;
  ruid = is.ids.ruid;
  suid = is.ids.suid;
  rgid = is.ids.rgid;
  sgid = is.ids.sgid;
  groups = written.groups;
  few = is.few;
}

-- what follows for an item from two properties follows for each item of a list
each : {X : Type 0} (P Q R : X → Type 0) → ((x : X) → P x → Q x → R x) → (xs : List X) → AllByRecursion P xs → AllByRecursion Q xs → AllByRecursion R xs
each P Q R f [] ps qs = tt
each P Q R f (x ∷ xs) ps qs = (f x ps.0 qs.0, each P Q R f xs ps.1 qs.1)

module _ (top : Label) (os : List WorldObject) (are : AllByRecursion (IsWorldObject top) os) where
  pub canonical_objects : AllByRecursion IsWrittenObject os → AllByRecursion (λ (o : WorldObject). IsCanonicalObject o) os
  canonical_objects written = each (IsWorldObject top) _ (λ (o : WorldObject). IsCanonicalObject o) (canonical_object top) os are written

  pub objects_below : AllByRecursion (λ (o : WorldObject). dominates top o.label ≡ true) os
  objects_below = each (IsWorldObject top) (IsWorldObject top) (λ (o : WorldObject). dominates top o.label ≡ true) (λ o is _. is.below) os are are

  pub objects_plain : AllByRecursion (λ (o : WorldObject). is_file (kind_of o.body) ≡ false → o.attr.caps ≡ no_file_caps) os
  objects_plain = each (IsWorldObject top) (IsWorldObject top) (λ (o : WorldObject). is_file (kind_of o.body) ≡ false → o.attr.caps ≡ no_file_caps) (λ o is _. is.only_file) os are are

module _ (top : Label) (ps : List WorldProc) (are : AllByRecursion (IsWorldProc top) ps) where
  pub canonical_procs : AllByRecursion (λ (p : WorldProc). IsWrittenIds p.ids) ps → AllByRecursion (λ (p : WorldProc). IsCanonicalIds p.ids) ps
  canonical_procs written = each (IsWorldProc top) _ (λ (p : WorldProc). IsCanonicalIds p.ids) (canonical_ids top) ps are written

  pub procs_below : AllByRecursion (λ (p : WorldProc). dominates top p.label ≡ true) ps
  procs_below = each (IsWorldProc top) (IsWorldProc top) (λ (p : WorldProc). dominates top p.label ≡ true) (λ p is _. is.below) ps are are

  pub procs_within : AllByRecursion (λ (p : WorldProc). is_within p.caps.e p.caps.p ≡ true) ps
  procs_within = each (IsWorldProc top) (IsWorldProc top) (λ (p : WorldProc). is_within p.caps.e p.caps.p ≡ true) (λ p is _. is.within) ps are are
