-- The state that is shared, and what checks read of an object.
use Rattle.std.specs.Prelude.{Bool, Option, Some}
use Rattle.std.specs.FinMap.{FinMap}
use Rattle.lab_lattice.specs.Label.{Label}
use Rattle.kern_model.specs.declared.checks.Check.{Check}
use Rattle.kern_model.specs.declared.checks.CheckName.{CheckName}
use Rattle.kern_model.specs.declared.checks.Place.{Place}
use Rattle.kern_model.specs.declared.checks.Thing.TheVariants as thing
use Rattle.kern_model.specs.declared.numbers.Oid.{Oid}
use Rattle.kern_model.specs.declared.numbers.Pid.{Pid}
use Rattle.kern_model.specs.declared.objects.Object.{Object}
use Rattle.kern_model.specs.Keys.{pid_cmp}
use Rattle.kern_model.specs.Maps.{select}
use Rattle.kern_model.specs.State.{State, Process, object_at}
use Rattle.fd_table.specs.Fds.{AllFds, fds_of}
use Rattle.sys_lookup.specs.declared.shared.Shared.TheInside.{Inside}
use Rattle.sys_lookup.specs.declared.shared.Metadata.{Metadata}

-- a process with its descriptors
abbrev pub process_with_fds : AllFds → Pid → Process → Process
process_with_fds rows who p = record p { fds = fds_of rows who }

-- the processes, each with its descriptors
unfoldable pub with_fds : FinMap pid_cmp Process → AllFds → FinMap pid_cmp Process
with_fds procs rows = select (λ who p. Some (process_with_fds rows who p)) procs

-- the state that is held
abbrev pub state_of : Inside → State
state_of h = record {
  objects = h.tree.nodes.table.objects;
  entries = h.tree.entries;
  procs = with_fds h.procs.procs h.fds.processes;
  descriptions = h.fds.descriptions;
  object_numbers = h.tree.nodes.table.numbers;
  process_numbers = h.procs.numbers;
  description_numbers = h.fds.numbers;
  bound = h.bound;
  top = h.top;
}

-- the metadata of an object with a number
abbrev pub metadata_with : Oid → Object → Metadata
metadata_with id o = record { id = id; kind = o.kind; label = o.label; attr = o.attr }

-- the metadata of the object with a number, and of the stub where there is none
abbrev pub metadata_of : State → Oid → Metadata
metadata_of s id = metadata_with id (object_at s id)

-- a check of an object, of which the metadata are at hand
abbrev pub check_on : CheckName → Bool → Option Label → Metadata → Place → Check
check_on name holds new object place = record { name = name; holds = holds; thing = thing.Object object.id; thing_label = object.label; new_label = new; place = place }
