-- What it takes to make the objects and processes of a world.
use Rattle.std.specs.Prelude.{◌≡◌, ◌==◌, ℕ, ◌+◌, ◌≤◌, Bool, not, true, List, [], ◌∷◌, Option, None, Some, unwrap_or}
use Rattle.std.specs.Cmp.Lexicographic.{pointwise}
use Rattle.std.specs.List.{AllByRecursion, list_all}
use Rattle.std.specs.FinMap as map
use Rattle.std.specs.FinMap.{FinMap}
use Rattle.cap_bits.specs.CapSet.{is_within}
use Rattle.fs_path.specs.Name.{Name}
use Rattle.fs_path.specs.Path.{PathValue}
use Rattle.lab_lattice.specs.Label.{Label, label_cmp}
use Rattle.kern_model.specs.declared.limits.TheConstants.{MAX_OBJECTS, MAX_PROCS}
use Rattle.kern_model.specs.declared.numbers.Oid.{Oid}
use Rattle.kern_model.specs.declared.objects.Attr.{Attr}
use Rattle.kern_model.specs.declared.objects.Body.{Body}
use Rattle.kern_model.specs.declared.world.WorldObject.{WorldObject}
use Rattle.kern_model.specs.declared.world.WorldProc.{WorldProc}
use Rattle.kern_model.specs.Boot.{entry_for, nothing}
use Rattle.kern_model.specs.Keys.{Spot, spot_cmp}
use Rattle.kern_model.specs.State.{State, Change, SetEntry, last_drawn, root}
use Rattle.kern_model.specs.World.{objects_at, procs_at}
use Rattle.kern_core.specs.declared.loading.Loading.{Loading}
use Rattle.kern_core.specs.declared.loading.NamedDirectory.{NamedDirectory}

-- an object as a world describes it
abbrev pub world_object : PathValue → Label → Attr → Body → WorldObject
world_object path label attr body = record { path = path; label = label; attr = attr; body = body }

-- the state that is being loaded: there is no process yet
abbrev pub state_loaded : Loading → State
state_loaded l = record (nothing l.bound l.top) { objects = l.nodes.table.objects; object_numbers = l.nodes.table.numbers; entries = l.spots }

-- there are numbers left for these objects at each label
abbrev pub RoomForObjects : FinMap label_cmp ℕ → List WorldObject → Type 0
RoomForObjects numbers os = (l : Label) → last_drawn numbers l + objects_at l os ≤ MAX_OBJECTS

-- these processes can start: there are numbers left for them at each label, and what is effective is permitted
pub record CanStart (numbers : FinMap label_cmp ℕ) (ws : List WorldProc) : Type 0 where
  pub room : (l : Label) → last_drawn numbers l + procs_at l ws ≤ MAX_PROCS
  pub within : AllByRecursion (λ (w : WorldProc). is_within w.caps.e w.caps.p ≡ true) ws

-- the directory to which names lead from another; a name that is not there leads nowhere else
abbrev pub directory_from : FinMap spot_cmp Oid → Oid → List Name → Oid
directory_from entries dir [] = dir
directory_from entries dir (name ∷ names) = directory_from entries (unwrap_or (map.get entries (dir, name)) dir) names

-- the names of a directory lead to it from the root
abbrev pub LeadsTo : FinMap spot_cmp Oid → NamedDirectory → Type 0
LeadsTo entries d = directory_from entries root d.names ≡ d.dir

-- none of these names is this
abbrev pub has_no : Name → List Name → Bool
has_no name names = list_all (λ (other : Name). not (pointwise ◌==◌ other name)) names

-- the change that makes an entry at the spot, if there is one
abbrev pub entry_at : Option Spot → Oid → List Change
entry_at None id = []
entry_at (Some spot) id = SetEntry spot id ∷ []

-- the spot is where a new object with these names, from a directory, gets its entry
abbrev pub IsSpotOf : State → Oid → List Name → Option Spot → Type 0
IsSpotOf s dir names spot = (id : Oid) → entry_for s dir names id ≡ entry_at spot id
