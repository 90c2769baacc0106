-- The objects that calls name.
use Rattle.cap_bits.specs.declared.state.CapState.{CapState}
use Rattle.fs_path.specs.Path.{PathValue}
use Rattle.lab_lattice.specs.Label.{Label}
use Rattle.kern_model.specs.AttrRows.{asks_caps, asks_label, chown_row, on_open_object}
use Rattle.kern_model.specs.declared.checks.Place.{Place}
use Rattle.kern_model.specs.declared.numbers.Oid.{Oid}
use Rattle.kern_model.specs.declared.numbers.Pid.{Pid}
use Rattle.kern_model.specs.declared.objects.Object.{Object}
use Rattle.kern_model.specs.Row.{Row}
use Rattle.kern_model.specs.State.{State, Process, object_at, process_at}
use Rattle.kern_model.specs.Walk.{on_path, read_object, write_object}
use Rattle.sys_lookup.specs.Callers.{CallerView}
use Rattle.sys_lookup.specs.declared.owning.Ownership.{Ownership}
use Rattle.sys_lookup.specs.Shared.{metadata_of}
use Rattle.sys_lookup.specs.declared.shared.Metadata.{Metadata}
use Rattle.sys_attr.specs.declared.objects.ObjectArgument.{ObjectArgument}
use Rattle.sys_attr.specs.declared.objects.ObjectArgument.TheVariants as argument

-- the row of a call on the object that an argument names
abbrev pub on_argument : State → Process → ObjectArgument → (Oid → Place → Row) → Row
on_argument s p (argument.Path path) k = on_path s p path.now k
on_argument s p (argument.Descriptor fd) k = on_open_object s p fd k

-- the object that an argument names is found, and the row goes on with it and its place
abbrev pub find_argument : State → Process → ObjectArgument → (Oid × Place → Row) → Row
find_argument s p object rest = on_argument s p object (λ id place. rest (id, place))

-- an object that was found is read, by label, and the row goes on with its metadata
abbrev pub read_found : State → Process → Oid × Place → (Metadata → Row) → Row
read_found s p r rest = read_object s p r.0 r.1 (λ o. rest (metadata_of s r.0))

-- an object that was found is written, by label, and the row goes on with its metadata and its place
abbrev pub write_found : State → Process → Oid × Place → (Metadata × Place → Row) → Row
write_found s p r rest = write_object s p r.0 r.1 (λ o. rest (metadata_of s r.0, r.1))

-- the object that an argument names is read, and the row goes on with its metadata
abbrev pub read_argument : State → Process → ObjectArgument → (Metadata → Row) → Row
read_argument s p object rest = find_argument s p object (λ r. read_found s p r rest)

-- the object that an argument names is written, and the row goes on with its metadata and its place
abbrev pub write_argument : State → Process → ObjectArgument → (Metadata × Place → Row) → Row
write_argument s p object rest = find_argument s p object (λ r. write_found s p r rest)

-- capability sets of a file of a state are asked for
abbrev pub asks_caps_at : CallerView → CapState → State → Oid → Place → Row → Row
asks_caps_at k caps s id place rest = asks_caps k.who k.process caps id place (object_at s id) rest

-- a label of an object of the caller's state is asked for
abbrev pub asks_label_at : CallerView → Label → Oid → Place → Row → Row
asks_label_at k new id place rest = asks_label k.state k.process new id place (object_at k.state id) rest

-- the row of an object that was read
abbrev pub on_read : State → (Object → Row) → Metadata → Row
on_read s k m = k (object_at s m.id)

-- the row of an object that was written
abbrev pub on_written : State → (Oid → Place → Object → Row) → Metadata × Place → Row
on_written s k r = k r.0.id r.1 (object_at s r.0.id)

-- the row of `chown` that a process calls
abbrev pub ownership_row : State → Pid → PathValue → Ownership → Row
ownership_row s who path to = chown_row s who (process_at s who) path to.owner to.group
