-- What `open` is asked for and does, and which objects are emptied.
use Rattle.std.specs.Prelude.{◌≡◌, Option, None, Some, true, unwrap_or}
use Rattle.kern_model.specs.declared.calls.OpenFlags.{OpenFlags}
use Rattle.kern_model.specs.declared.numbers.Oid.{Oid}
use Rattle.kern_model.specs.declared.numbers.Pid.{Pid}
use Rattle.kern_model.specs.declared.objects.Attr.{Attr}
use Rattle.kern_model.specs.Kinds.{is_file}
use Rattle.kern_model.specs.Keys.{Spot}
use Rattle.kern_model.specs.OpenRows.{open_row, opens_new, opens_present}
use Rattle.kern_model.specs.Row.{Row}
use Rattle.kern_model.specs.State.{State, object_at, process_at}
use Rattle.fs_nodes.specs.Nodes.{IsFile}
use Rattle.sys_lookup.specs.declared.found.Found.{Found}
use Rattle.sys_lookup.specs.declared.found.Found.TheVariants as found
use Rattle.sys_file.specs.declared.opening.OpenRequest.{OpenRequest}
use Rattle.sys_file.specs.declared.opening.Target.{Target}
use Rattle.sys_file.specs.declared.opening.Target.TheVariants as target

-- the row of `open` that a process calls with what is asked for
abbrev pub request_row : State → Pid → OpenRequest → Row
request_row s who request = open_row s who (process_at s who) request.path.now request.flags request.mode

-- a process opens an object that is there, which is emptied with these attributes, if it is
abbrev pub opens_object : State → Pid → OpenFlags → Oid → Option Attr → Row
opens_object s who flags id emptied = opens_present s who (process_at s who) flags id (object_at s id) emptied

-- a process makes the file at a spot that it asks for, and opens it
abbrev pub opens_file : State → Pid → OpenRequest → Spot → Row
opens_file s who request spot = opens_new s who (process_at s who) request.flags (unwrap_or request.mode 0) spot.0 spot.1

-- the object that a walk found, if it found one
abbrev pub object_found : Found → Option Oid
object_found (found.Start id) = Some id
object_found (found.Entry dir name object) = object

-- what is to be opened after a walk: the object that it found, or a file to be made where the last name leads to none
abbrev pub IsTarget : Found → Target → Type 0
IsTarget walked (target.Present id) = object_found walked ≡ Some id
IsTarget walked (target.Absent spot) = walked ≡ found.Entry spot.0 spot.1 None

-- only a file is emptied
abbrev pub EmptiesFiles : State → Oid → Option Attr → Type 0
EmptiesFiles s id None = Unit {0}
EmptiesFiles s id (Some attr) = is_file (object_at s id).kind ≡ true

-- what is to be emptied is a file
abbrev pub CanBeEmptied : State → Oid → Option Attr → Type 0
CanBeEmptied s id None = Unit {0}
CanBeEmptied s id (Some attr) = IsFile s.objects id
