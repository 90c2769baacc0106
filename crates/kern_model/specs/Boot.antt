-- The first state of a world: numbers are drawn per label in the order of its lines.
use Rattle.std.specs.Prelude.{ℕ, ◌+◌, List, [], ◌∷◌, None, unwrap_or, true}
use Rattle.std.specs.FinMap as map
use Rattle.cap_bits.specs.CapSet.{CapSet}
use Rattle.fs_path.specs.Name.{Name}
use Rattle.lab_lattice.specs.Label.{Label}
use Rattle.kern_model.specs.declared.numbers.Oid.{Oid}
use Rattle.kern_model.specs.declared.objects.Object.{Object}
use Rattle.kern_model.specs.declared.records.Rec.{Rec}
use Rattle.kern_model.specs.declared.records.Rec.TheVariants as rec
use Rattle.kern_model.specs.declared.world.World.{World}
use Rattle.kern_model.specs.declared.world.WorldObject.{WorldObject}
use Rattle.kern_model.specs.declared.world.WorldProc.{WorldProc}
use Rattle.kern_model.specs.Kinds.{object_with}
use Rattle.kern_model.specs.State.{State, Process, Change, SetObject, SetEntry, SetProcess, DrawObject, DrawProcess, apply_changes, last_drawn, next_object, next_process, look, root}

-- octal 0022
abbrev pub boot_umask : ℕ
boot_umask = 18

-- an object of a world
abbrev pub object_of : WorldObject → Object
object_of o = object_with o.label o.attr o.body

-- a process of a world: it stands in the root directory, with the switch on, and has no descriptor and no parent
abbrev pub process_of : WorldProc → Process
process_of w = record { ids = w.ids; label = w.label; caps = w.caps; umask = boot_umask; cwd = root; audited = true; parent = None; ended = []; fds = map.empty }

-- the entry for an object, at the end of the names from a directory; the root has none
abbrev pub entry_for : State → Oid → List Name → Oid → List Change
entry_for s dir [] id = []
entry_for s dir (name ∷ []) id = SetEntry (dir, name) id ∷ []
entry_for s dir (name ∷ next ∷ names) id = entry_for s (unwrap_or (look s dir name) dir) (next ∷ names) id

-- an object of the world is there, and has its entry
unfoldable pub boot_object : State → WorldObject → State
boot_object s o = apply_changes s
    (DrawObject o.label (last_drawn s.object_numbers o.label + 1) ∷ SetObject (next_object s o.label) (object_of o) ∷ entry_for s root o.path.names (next_object s o.label))

-- a process of the world is there, in the root directory
unfoldable pub boot_process : State → WorldProc → State
boot_process s w = apply_changes s
    (DrawProcess w.label (last_drawn s.process_numbers w.label + 1) ∷ SetProcess (next_process s w.label) (process_of w) ∷ [])

abbrev pub boot_objects : State → List WorldObject → State
boot_objects s [] = s
boot_objects s (o ∷ os) = boot_objects (boot_object s o) os

abbrev pub boot_processes : State → List WorldProc → State
boot_processes s [] = s
boot_processes s (w ∷ ws) = boot_processes (boot_process s w) ws

-- nothing is there yet
abbrev pub nothing : CapSet → Label → State
nothing bound top = record {
  objects = map.empty;
  entries = map.empty;
  procs = map.empty;
  descriptions = map.empty;
  object_numbers = map.empty;
  process_numbers = map.empty;
  description_numbers = map.empty;
  bound = bound;
  top = top;
}

-- the objects of a world alone
abbrev pub objects_loaded : World → State
objects_loaded w = boot_objects (nothing w.bound w.top) w.objects

abbrev pub boot : World → State
boot w = boot_processes (objects_loaded w) w.procs

abbrev pub boot_recs_from : State → List WorldProc → List Rec
boot_recs_from s [] = []
boot_recs_from s (w ∷ ws) = rec.Boot (next_process s w.label) w.label w.caps ∷ boot_recs_from (boot_process s w) ws

-- the records of a start: one for each process, in the order of the world's lines
abbrev pub boot_recs : World → List Rec
boot_recs w = boot_recs_from (objects_loaded w) w.procs
