-- The rows of the calls on modes, owners, capability sets of files, and labels of objects.
use Rattle.std.specs.Prelude.{ℕ, ◌||◌, not, Bool, cond, [], ◌∷◌, None, Some}
use Rattle.cap_bits.specs.declared.state.CapState.{CapState}
use Rattle.cap_bits.specs.FileCaps.{caps_by, is_uniform, shown}
use Rattle.fs_path.specs.Path.{PathValue}
use Rattle.lab_lattice.specs.Label.{Label}
use Rattle.kern_model.specs.declared.calls.Answer.TheVariants as answer
use Rattle.kern_model.specs.declared.calls.Errno.TheVariants as errno
use Rattle.kern_model.specs.declared.checks.Place.{Place}
use Rattle.kern_model.specs.declared.checks.Place.TheVariants.{Handle}
use Rattle.kern_model.specs.declared.numbers.Oid.{Oid}
use Rattle.kern_model.specs.declared.numbers.Pid.{Pid}
use Rattle.kern_model.specs.declared.objects.Attr.{Attr}
use Rattle.kern_model.specs.declared.objects.Object.{Object}
use Rattle.kern_model.specs.declared.records.Rec.TheVariants as rec
use Rattle.kern_model.specs.Entries.{has_entries}
use Rattle.kern_model.specs.FileRows.{on_descriptor}
use Rattle.kern_model.specs.Kinds.{is_file, has_set_id, permissions}
use Rattle.kern_model.specs.Rules.{same_label, mac_change_of, relabelled_order, is_owner_of, owner_of, chown_of, setfcap_of, cap_within, fsetid_of}
use Rattle.kern_model.specs.Row.{Row, Need, Soft, Refuse, Commit}
use Rattle.kern_model.specs.State.{State, Process, Change, SetObject, object_at}
use Rattle.kern_model.specs.Walk.{on_path, read_object, write_object}

-- the row of a call on the object of an open descriptor
abbrev pub on_open_object : State → Process → ℕ → (Oid → Place → Row) → Row
on_open_object s p fd k = on_descriptor s p fd (λ f. k f.description.object Handle)

-- an object gets other attributes
abbrev pub with_attr : Oid → Object → Attr → Change
with_attr id o attr = SetObject id (record o { attr = attr })

-- an object gets another label
abbrev pub with_label : Oid → Object → Label → Change
with_label id o label = SetObject id (record o { label = label })

-- ---- steps on an object that is written

-- an object is written, by label, and the row of it goes on
abbrev pub write_object_then : State → Process → (Oid → Place → Object → Row) → Oid → Place → Row
write_object_then s p k id place = write_object s p id place (k id place)

-- the caller owns the object
abbrev pub owns : Process → Oid → Place → Object → Row → Row
owns p id place o rest = Need (owner_of p id o place) rest

-- a mode, of which the set-id bits stay away where the caller may not keep them
abbrev pub keeps_mode : Bool → ℕ → Oid → Place → Object → (ℕ → Row) → Row
keeps_mode plain mode id place o rest = Soft (fsetid_of plain id o place) (rest mode) (rest (permissions mode))

-- ---- modes and owners

-- an object gets a mode
abbrev pub set_mode : Oid → Object → ℕ → Row
set_mode id o mode = Commit (with_attr id o (record o.attr { mode = mode }) ∷ []) answer.Nothing None

-- whether an object gets all of a mode without a capability of the caller: it has no set-id bit, or the caller is the owner
abbrev pub is_kept_by_right : Process → ℕ → Object → Bool
is_kept_by_right p mode o = not (has_set_id mode) || is_owner_of p o

-- a mode is asked for, and the row goes on with what the object gets of it
abbrev pub asks_mode : Process → ℕ → Oid → Place → Object → (ℕ → Row) → Row
asks_mode p mode id place o rest = owns p id place o (keeps_mode (is_kept_by_right p mode o) mode id place o rest)

-- an object that is written gets a mode
abbrev pub change_mode : Process → ℕ → Oid → Place → Object → Row
change_mode p mode id place o = asks_mode p mode id place o (set_mode id o)

-- `chmod PATH MODE`
abbrev pub chmod_row : State → Pid → Process → PathValue → ℕ → Row
chmod_row s who p path mode = on_path s p path (write_object_then s p (change_mode p mode))

-- an object gets an owner, a group and a mode
abbrev pub set_owner : Oid → Object → ℕ → ℕ → ℕ → Row
set_owner id o user group mode = Commit (with_attr id o (record o.attr { owner = user; group = group; mode = mode }) ∷ []) answer.Nothing None

-- an owner and a group are asked for, and the row goes on with the mode that the object keeps
abbrev pub asks_owner : Process → ℕ → ℕ → Oid → Place → Object → (ℕ → Row) → Row
asks_owner p user group id place o rest = Need (chown_of p user group id o place) (keeps_mode (not (has_set_id o.attr.mode)) o.attr.mode id place o rest)

-- an object that is written gets an owner and a group
abbrev pub change_owner : Process → ℕ → ℕ → Oid → Place → Object → Row
change_owner p user group id place o = asks_owner p user group id place o (set_owner id o user group)

-- `chown PATH UID GID`
abbrev pub chown_row : State → Pid → Process → PathValue → ℕ → ℕ → Row
chown_row s who p path user group = on_path s p path (write_object_then s p (change_owner p user group))

-- ---- capability sets of files

-- the sets of a file that was read
abbrev pub report_caps : Object → Row
report_caps o = Refuse errno.EINVAL (not (is_file o.kind)) (Commit [] (answer.Caps (shown o.attr.caps)) None)

-- the sets of a file are read
abbrev pub get_caps : State → Process → Oid → Place → Row
get_caps s p id place = read_object s p id place report_caps

-- a file gets capability sets
abbrev pub give_caps : Pid → CapState → Oid → Object → Row
give_caps who caps id o = Commit (with_attr id o (record o.attr { caps = caps_by caps }) ∷ []) answer.Nothing (Some (rec.CapSetFile who id caps))

-- capability sets of a file are asked for
abbrev pub asks_caps : Pid → Process → CapState → Oid → Place → Object → Row → Row
asks_caps who p caps id place o rest =
    Refuse errno.EINVAL (not (is_file o.kind) || not (is_uniform caps))
    (owns p id place o
    (Need (setfcap_of id o place)
    (Need (cap_within who p caps) rest)))

-- a file that is written gets capability sets
abbrev pub change_caps : Pid → Process → CapState → Oid → Place → Object → Row
change_caps who p caps id place o = asks_caps who p caps id place o (give_caps who caps id o)

-- the sets of a file are set
abbrev pub set_caps : State → Pid → Process → CapState → Oid → Place → Row
set_caps s who p caps = write_object_then s p (change_caps who p caps)

-- `cap_get_file PATH`
abbrev pub cap_get_file_row : State → Pid → Process → PathValue → Row
cap_get_file_row s who p path = on_path s p path (get_caps s p)

-- `cap_set_file PATH CAPS`
abbrev pub cap_set_file_row : State → Pid → Process → PathValue → CapState → Row
cap_set_file_row s who p path caps = on_path s p path (set_caps s who p caps)

-- `cap_get_fd FD`
abbrev pub cap_get_fd_row : State → Pid → Process → ℕ → Row
cap_get_fd_row s who p fd = on_open_object s p fd (get_caps s p)

-- `cap_set_fd FD CAPS`
abbrev pub cap_set_fd_row : State → Pid → Process → ℕ → CapState → Row
cap_set_fd_row s who p fd caps = on_open_object s p fd (set_caps s who p caps)

-- ---- labels of objects

-- the label of an object that was read
abbrev pub report_label : Object → Row
report_label o = Commit [] (answer.Mark o.label) None

-- the label of an object is read
abbrev pub get_label : State → Process → Oid → Place → Row
get_label s p id place = read_object s p id place report_label

-- an object gets a label
abbrev pub give_label : Pid → Label → Oid → Object → Row
give_label who new id o = Commit (with_label id o new ∷ []) answer.Nothing (Some (rec.MacSetFile who id o.label new))

-- a label that is another one: it goes up or down by a capability, keeps the order of labels, and no directory with entries gets one
abbrev pub change_label : State → Label → Oid → Place → Row → Row
change_label s new id place rest =
    Need (mac_change_of new id (object_at s id) place)
    (Need (relabelled_order s id new place)
    (Refuse errno.ENOTEMPTY (has_entries s id) rest))

-- a label is asked for, of an object that the caller owns; nothing else is asked of a label that the object has
abbrev pub asks_label : State → Process → Label → Oid → Place → Object → Row → Row
asks_label s p new id place o rest = owns p id place o (cond (same_label new o.label) rest (change_label s new id place rest))

-- an object that is written gets a label
abbrev pub relabel : State → Pid → Process → Label → Oid → Place → Object → Row
relabel s who p new id place o = asks_label s p new id place o (give_label who new id o)

-- a label is set, where the caller writes the object and owns it
abbrev pub set_label : State → Pid → Process → Label → Oid → Place → Row
set_label s who p new = write_object_then s p (relabel s who p new)

-- `mac_get_file PATH`
abbrev pub mac_get_file_row : State → Pid → Process → PathValue → Row
mac_get_file_row s who p path = on_path s p path (get_label s p)

-- `mac_set_file PATH LABEL`
abbrev pub mac_set_file_row : State → Pid → Process → PathValue → Label → Row
mac_set_file_row s who p path new = on_path s p path (set_label s who p new)

-- `mac_get_fd FD`
abbrev pub mac_get_fd_row : State → Pid → Process → ℕ → Row
mac_get_fd_row s who p fd = on_open_object s p fd (get_label s p)

-- `mac_set_fd FD LABEL`
abbrev pub mac_set_fd_row : State → Pid → Process → ℕ → Label → Row
mac_set_fd_row s who p fd new = on_open_object s p fd (set_label s who p new)
