-- For what a descriptor is open: for reading or for writing.
use Rattle.std.specs.Prelude.{ℕ, Bool, not}
use Rattle.kern_model.specs.declared.calls.Errno.TheVariants.{EBADF}
use Rattle.kern_model.specs.declared.checks.Place.TheVariants.{Handle}
use Rattle.kern_model.specs.declared.numbers.Oid.{Oid}
use Rattle.kern_model.specs.Descriptors.{Opened}
use Rattle.kern_model.specs.FileRows.{on_descriptor}
use Rattle.kern_model.specs.Row.{Row, Refuse}
use Rattle.kern_model.specs.State.{State, Process, Description}
use Rattle.kern_model.specs.Walk.{read_object, write_object}
use Rattle.sys_lookup.specs.declared.shared.Metadata.{Metadata}
use Rattle.sys_lookup.specs.Shared.{metadata_of}
use Rattle.sys_file.specs.declared.access.Access.{Access}
use Rattle.sys_file.specs.declared.access.Access.TheVariants as access

-- whether a description is open for this
abbrev pub is_open_for : Access → Description → Bool
is_open_for access.Read d = d.reads
is_open_for access.Write d = d.writes

-- an object of a descriptor is read or written, by label, and the row goes on with its metadata
abbrev pub access_object : Access → State → Process → Oid → (Metadata → Row) → Row
access_object access.Read s p id rest = read_object s p id Handle (λ _. rest (metadata_of s id))
access_object access.Write s p id rest = write_object s p id Handle (λ _. rest (metadata_of s id))

-- what a descriptor refers to is open for this, and its object is read or written so, by label
abbrev pub to_access : Access → State → Process → Opened → (Opened × Metadata → Row) → Row
to_access access s p f rest = Refuse EBADF (not (is_open_for access f.description)) (access_object access s p f.description.object (λ m. rest (f, m)))

-- the row goes on with what a descriptor refers to that is open for this, and with the metadata of its object
abbrev pub opened_for : Access → State → Process → ℕ → (Opened × Metadata → Row) → Row
opened_for access s p fd rest = on_descriptor s p fd (λ f. to_access access s p f rest)
