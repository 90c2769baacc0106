-- Entries whose object was read.
use Rattle.std.specs.Prelude.{◌≡◌, ⊤, Bool, Option, Some, Result}
use Rattle.fs_path.specs.Name.{Name}
use Rattle.fs_path.specs.Path.{PathValue}
use Rattle.kern_model.specs.declared.checks.Place.TheVariants.{Second}
use Rattle.kern_model.specs.declared.numbers.Oid.{Oid}
use Rattle.kern_model.specs.Row.{Row}
use Rattle.kern_model.specs.State.{State, look}
use Rattle.kern_model.specs.TreeRows.{gives_way, may_replace, move_row, old_entry}
use Rattle.kern_model.specs.Walk.{last_place}
use Rattle.chk_rules.specs.CheckLog.{CheckLog}
use Rattle.chk_rules.specs.RowSteps.{GoesOn}
use Rattle.chk_rules.specs.declared.stop.Stop.{Stop}
use Rattle.sys_lookup.specs.Callers.{CallerView}
use Rattle.sys_lookup.specs.PlaysRow.{PlaysRow}
use Rattle.sys_lookup.specs.Shared.{metadata_of}
use Rattle.sys_lookup.specs.declared.effect.Effect.{Effect}
use Rattle.sys_lookup.specs.declared.shared.Metadata.{Metadata}

-- the metadata are those of their object in the state of the caller
abbrev pub IsReadBy : CallerView → Metadata → Type 0
IsReadBy k object = object ≡ metadata_of k.state object.id

-- the row goes on with the metadata of the object of an entry
abbrev pub with_metadata : State → (Oid × Name × Metadata → Row) → Oid × Name × Oid → Row
with_metadata s rest (dir, name, id) = rest (dir, name, metadata_of s id)

-- the caller may take away the entry at the end of a path: its directory, its name, and the metadata of its object
abbrev pub entry_taken : CallerView → PathValue → (Oid × Name × Metadata → Row) → Row
entry_taken k path rest = old_entry k.state k.process path (with_metadata k.state rest)

-- what the second path leads to, if it leads to something, gives way to an object of the caller; whether that moves is given
abbrev pub target_left : CallerView → PathValue → Oid → Option Oid → (Bool → Row) → Row
target_left k to id target rest = gives_way k.state k.process id target (last_place (λ n. Second n) to) rest

-- an object may take the place of another one, and the caller read both
abbrev pub replaces : CallerView → Metadata → Metadata → (⊤ → Row) → Row
replaces k object target rest = may_replace k.state object.id target.id (rest tt)

-- a step without a check refuses that an object takes the place of another one where it may not, if the caller read both
abbrev pub JudgesReplacing : CallerView → Metadata → Metadata → Result ⊤ Stop → Type 0
JudgesReplacing k object target result = (log : CheckLog) → IsReadBy k object → IsReadBy k target → GoesOn log (replaces k object target) result log

-- ---- an entry that moves

-- a body without a check plays the row of a move: that of the entry with a name in a directory to another directory and name
abbrev pub PlaysMove : State → Oid → Name → Oid → Name → Result Effect Stop → State → Type 0
PlaysMove s dir name into new result t = (id : Oid) (log : CheckLog) → look s dir name ≡ Some id → PlaysRow s log (move_row s dir name id into new) result t log
