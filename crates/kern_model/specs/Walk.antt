-- The walk of a path: at each name mac_read on the directory reached, its kind, dac_search, the look-up.
use Rattle.std.specs.Prelude.{ℕ, ◌+◌, ◌-◌, not, List, [], ◌∷◌, Option, Some, None, cond, length}
use Rattle.fs_path.specs.Name.{Name}
use Rattle.fs_path.specs.Path.{PathValue}
use Rattle.kern_model.specs.declared.numbers.Oid.{Oid}
use Rattle.kern_model.specs.declared.checks.Place.{Place}
use Rattle.kern_model.specs.declared.checks.Place.TheVariants.{First}
use Rattle.kern_model.specs.declared.calls.Errno.TheVariants as errno
use Rattle.kern_model.specs.declared.objects.Object.{Object}
use Rattle.kern_model.specs.Kinds.{is_dir}
use Rattle.kern_model.specs.State.{State, Process, object_at, look, root}
use Rattle.kern_model.specs.Rules.{mac_read, mac_write, dac_search}
use Rattle.kern_model.specs.Row.{Row, Need, Refuse, Fail}

-- what a walk found: where a path without names starts, or the last directory, the last name, and what it leads to if that is there
pub data Found : Type 0 where
  Start : (object : Oid) → Found
  Entry : (dir : Oid) (name : Name) (object : Option Oid) → Found

-- a directory is entered, and the row goes on
abbrev pub enter : State → Process → Oid → Place → Row → Row
enter s p dir place rest = Need (mac_read s p dir place) (Refuse errno.ENOTDIR (not (is_dir (object_at s dir).kind)) (Need (dac_search s p dir place) rest))

-- the row goes on from what is there, and fails where nothing is
abbrev pub or_missing : Option Oid → (Oid → Row) → Row
or_missing None k = Fail errno.ENOENT
or_missing (Some id) k = k id

-- the walk of names from a directory, and the row that goes on from what it finds; `place` names the places of this path
abbrev pub walk_from : State → Process → (ℕ → Place) → ℕ → Oid → List Name → (Found → Row) → Row
walk_from s p place at dir [] k = k (Start dir)
walk_from s p place at dir (name ∷ []) k = enter s p dir (place at) (k (Entry dir name (look s dir name)))
walk_from s p place at dir (name ∷ next ∷ names) k =
    enter s p dir (place at) (or_missing (look s dir name) (λ id. walk_from s p place (at + 1) id (next ∷ names) k))

-- where a path starts
abbrev pub start_of : Process → PathValue → Oid
start_of p path = cond path.absolute root p.cwd

-- the walk of a path, whose last name may be absent
abbrev pub walk : State → Process → (ℕ → Place) → PathValue → (Found → Row) → Row
walk s p place path k = walk_from s p place 0 (start_of p path) path.names k

-- the place of what a path leads to
abbrev pub last_place : (ℕ → Place) → PathValue → Place
last_place place path = place (length path.names)

-- the place of the directory in which the last name of a path stands
abbrev pub dir_place : (ℕ → Place) → PathValue → Place
dir_place place path = place (length path.names - 1)

-- ---- what rows ask of what was found

-- an object that is there
abbrev pub to_object : Found → (Oid → Row) → Row
to_object (Start id) k = k id
to_object (Entry dir name object) k = or_missing object k

-- a name that nothing has yet
abbrev pub to_new_name : Found → (Oid → Name → Row) → Row
to_new_name (Start id) k = Fail errno.EEXIST
to_new_name (Entry dir name None) k = k dir name
to_new_name (Entry dir name (Some id)) k = Fail errno.EEXIST

-- an entry, of an object or of none
abbrev pub to_entry : Found → (Oid → Name → Option Oid → Row) → Row
to_entry (Start id) k = Fail errno.EBUSY
to_entry (Entry dir name object) k = k dir name object

-- an entry of an object
abbrev pub to_entry_of_object : Found → (Oid → Name → Oid → Row) → Row
to_entry_of_object found k = to_entry found (λ dir name object. or_missing object (λ id. k dir name id))

-- the walk of a path to an object that is there
abbrev pub reach : State → Process → (ℕ → Place) → PathValue → (Oid → Row) → Row
reach s p place path k = walk s p place path (λ found. to_object found k)

-- the row of a call on what a path leads to
abbrev pub on_path : State → Process → PathValue → (Oid → Place → Row) → Row
on_path s p path k = reach s p (λ n. First n) path (λ id. k id (last_place (λ n. First n) path))

-- an object is read, by label, and the row goes on with it
abbrev pub read_object : State → Process → Oid → Place → (Object → Row) → Row
read_object s p id place k = Need (mac_read s p id place) (k (object_at s id))

-- an object is written, by label, and the row goes on with it
abbrev pub write_object : State → Process → Oid → Place → (Object → Row) → Row
write_object s p id place k = Need (mac_write s p id place) (k (object_at s id))
