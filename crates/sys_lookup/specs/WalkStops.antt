-- How a walk stops.
use Rattle.std.specs.Prelude.{◌≡◌, ◌⊎◌, Bool, cond, Result, Ok, Err}
use Rattle.fs_path.specs.Path.{PathValue}
use Rattle.kern_model.specs.declared.calls.Errno.TheVariants as errno
use Rattle.kern_model.specs.declared.numbers.Pid.{Pid}
use Rattle.kern_model.specs.Row.{Row}
use Rattle.kern_model.specs.State.{State, process_at}
use Rattle.kern_model.specs.Walk as rows
use Rattle.chk_rules.specs.declared.stop.Stop.{Stop}
use Rattle.chk_rules.specs.declared.stop.Stop.TheVariants as stop
use Rattle.sys_lookup.specs.declared.argument.PathArgument.{PathArgument}
use Rattle.sys_lookup.specs.declared.argument.PathArgument.TheVariants as argument
use Rattle.sys_lookup.specs.declared.found.Found.{Found}
use Rattle.sys_lookup.specs.Walks.{place_in}
use Rattle.sys_lookup.specs.declared.walk_stop.WalkStop.{WalkStop}
use Rattle.sys_lookup.specs.declared.walk_stop.WalkStop.TheVariants as walk

-- how a call stops whose walk stopped so
abbrev pub stop_of : WalkStop → Stop
stop_of (walk.Denied name place) = stop.Denied name place
stop_of walk.NotDir = stop.Refused errno.ENOTDIR
stop_of walk.Missing = stop.Refused errno.ENOENT
stop_of (walk.NoMemory m) = stop.NoMemory m

-- the same of a walk that may have found something
abbrev pub stopped_by : Result Found WalkStop → Result Found Stop
stopped_by (Ok w) = Ok w
stopped_by (Err how) = Err (stop_of how)

-- a walk may stop a call so: it refuses nothing but what is no directory, and what is absent
abbrev pub IsWalkStop : Stop → Type 0
IsWalkStop (stop.Denied name place) = Unit {0}
IsWalkStop (stop.Refused e) = (e ≡ errno.ENOTDIR) ⊎ (e ≡ errno.ENOENT)
IsWalkStop (stop.NoMemory m) = Unit {0}

-- which path of a call it is
abbrev pub argument_of : Bool → PathArgument
argument_of second = cond second argument.Second argument.First

-- the part of a row that walks the first or the second path of a call of a process
abbrev pub walk_argument : State → Pid → Bool → PathValue → (rows.Found → Row) → Row
walk_argument s who second path = rows.walk s (process_at s who) (place_in (argument_of second)) path
