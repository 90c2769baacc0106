-- How objects are made, and entered in directories.
use Rattle.std.specs.Prelude.{ℕ, ◌+◌, nat_lt, not, Bool, List, [], ◌∷◌, ◌++◌}
use Rattle.cap_bits.specs.FileCaps.{no_file_caps}
use Rattle.fs_path.specs.Name.{Name}
use Rattle.lab_lattice.specs.Label.{Label}
use Rattle.kern_model.specs.declared.limits.TheConstants.{MAX_OBJECTS}
use Rattle.kern_model.specs.declared.calls.Errno.TheVariants as errno
use Rattle.kern_model.specs.declared.checks.Check.{Check}
use Rattle.kern_model.specs.declared.checks.Place.{Place}
use Rattle.kern_model.specs.declared.numbers.Oid.{Oid}
use Rattle.kern_model.specs.declared.objects.Attr.{Attr}
use Rattle.kern_model.specs.declared.objects.Object.{Object}
use Rattle.kern_model.specs.Entries.{is_removed}
use Rattle.kern_model.specs.State.{State, Process, Change, SetObject, SetEntry, DrawObject, last_drawn, next_object}
use Rattle.kern_model.specs.Rules.{mac_write, dac_write, created_order}
use Rattle.kern_model.specs.Row.{Row, Need, Refuse}

-- a directory is written: the caller writes it, by label and mode, and the order of labels holds
abbrev pub write_directory : State → Process → Oid → Place → Check → Row → Row
write_directory s p dir place order rest = Need (mac_write s p dir place) (Need (dac_write s p dir place) (Need order rest))

-- a directory gets a new entry: it is written, and is not removed
abbrev pub enter_in : State → Process → Oid → Place → Check → Row → Row
enter_in s p dir place order rest = write_directory s p dir place order (Refuse errno.ENOENT (is_removed s dir) rest)

-- an object may be made in a directory
abbrev pub make_in : State → Process → Oid → Place → Row → Row
make_in s p dir place rest = enter_in s p dir place (created_order s p dir place) rest

-- whether a number of an object is left at a label
abbrev pub has_object_number : State → Label → Bool
has_object_number s label = nat_lt (last_drawn s.object_numbers label) MAX_OBJECTS

-- a number of an object is left at a label, and the row goes on with the next one
abbrev pub to_number : State → Label → (Oid → Row) → Row
to_number s label rest = Refuse errno.ENOSPC (not (has_object_number s label)) (rest (next_object s label))

-- what the caller makes is its effective user's and group's, without capabilities
abbrev pub attr_of : Process → ℕ → Attr
attr_of p mode = record { owner = p.ids.euid; group = p.ids.egid; mode = mode; caps = no_file_caps }

-- an object gets the number after n of a label
abbrev pub object_addition_after : ℕ → Label → Object → List Change
object_addition_after n label object = DrawObject label (n + 1) ∷ SetObject (record { label = label; n = n + 1 }) object ∷ []

-- an object gets the next number of a label
abbrev pub object_addition : State → Label → Object → List Change
object_addition s label object = object_addition_after (last_drawn s.object_numbers label) label object

-- an object is made with the number after n of a label, and a name leads to it
abbrev pub creation_after : ℕ → Label → Oid → Name → Object → List Change
creation_after n label dir name object = object_addition_after n label object ++ SetEntry (dir, name) (record { label = label; n = n + 1 }) ∷ []

-- an object is made with the next number of a label, and a name leads to it
abbrev pub creation : State → Label → Oid → Name → Object → List Change
creation s label dir name object = creation_after (last_drawn s.object_numbers label) label dir name object
