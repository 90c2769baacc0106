-- The parts of rows that read or write an object, and go on with its metadata.
use Rattle.fs_path.specs.Path.{PathValue}
use Rattle.kern_model.specs.declared.checks.Place.{Place}
use Rattle.kern_model.specs.declared.numbers.Oid.{Oid}
use Rattle.kern_model.specs.Row.{Row, Need}
use Rattle.kern_model.specs.Rules.{mac_read, mac_write}
use Rattle.kern_model.specs.TreeRows.{leave_from}
use Rattle.sys_lookup.specs.Callers.{CallerView}
use Rattle.sys_lookup.specs.Shared.{metadata_of}
use Rattle.sys_lookup.specs.declared.shared.Metadata.{Metadata}

-- a caller reads an object, by label
abbrev pub read_object_with : CallerView → Oid → Place → (Metadata → Row) → Row
read_object_with k id place rest = Need (mac_read k.state k.process id place) (rest (metadata_of k.state id))

-- a caller writes an object, by label
abbrev pub write_object_with : CallerView → Oid → Place → (Metadata → Row) → Row
write_object_with k id place rest = Need (mac_write k.state k.process id place) (rest (metadata_of k.state id))

-- a caller writes a directory from which the entry at the end of a path is taken, and the object of the entry
abbrev pub leave_from_with : CallerView → PathValue → Oid → Oid → (Metadata → Row) → Row
leave_from_with k path dir id rest = leave_from k.state k.process path dir id (rest (metadata_of k.state id))
