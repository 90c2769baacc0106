-- What arguments a call may have, and which scripts may be played.
use Rattle.std.specs.Prelude.{ℕ, ◌&&◌, ◌||◌, not, nat_le, Bool, true, List, Option, None, Some, unsigned_abs}
use Rattle.std.specs.List.{list_all}
use Rattle.fs_path.specs.Name.{is_name}
use Rattle.fs_path.specs.Path.{PathValue}
use Rattle.lab_lattice.specs.Label.{Label, dominates}
use Rattle.kern_model.specs.declared.limits.TheConstants.{MAX_PROCS, MAX_FILE_BYTES, MAX_OFFSET}
use Rattle.kern_model.specs.declared.calls.Call.{Call}
use Rattle.kern_model.specs.declared.calls.Call.TheVariants as call
use Rattle.kern_model.specs.declared.calls.OpenFlags.{OpenFlags}
use Rattle.kern_model.specs.declared.numbers.Pid.{Pid}
use Rattle.kern_model.specs.declared.world.ScriptItem.{ScriptItem}
use Rattle.kern_model.specs.Kinds.{is_mode, is_permission}

-- flags have `r` or `w`, have `x` only with `c`, and have `t` and `a` only with `w`
abbrev pub are_flags : OpenFlags → Bool
are_flags f = (f.r || f.w) && (not f.x || f.c) && (not f.t || f.w) && (not f.a || f.w)

-- a mode stands exactly where it is asked for
abbrev pub is_mode_if : Bool → Option ℕ → Bool
is_mode_if asked None = not asked
is_mode_if asked (Some mode) = asked && is_mode mode

-- the number of a process is from 1 on, and one that may be drawn at a label that top dominates
abbrev pub is_number : Label → Pid → Bool
is_number top who = nat_le 1 who.n && nat_le who.n MAX_PROCS && dominates top who.label

-- each name of a path is one
abbrev pub are_names : PathValue → Bool
are_names path = list_all is_name path.names

-- whether labels, numbers, modes and flags are in their ranges, where top is the highest label
unfoldable pub is_call : Label → Call → Bool
is_call top (call.OpenPath path flags mode) = are_flags flags && is_mode_if flags.c mode
is_call top (call.Read fd n) = nat_le n MAX_FILE_BYTES
is_call top (call.Lseek fd from offset) = nat_le (unsigned_abs offset) MAX_OFFSET
is_call top (call.Mkfifo path mode) = is_mode mode
is_call top (call.Mkdir path mode) = is_mode mode
is_call top (call.Chmod path mode) = is_mode mode
is_call top (call.Umask mode) = is_permission mode
is_call top (call.MacSetFile path label) = dominates top label
is_call top (call.MacSetFd fd label) = dominates top label
is_call top (call.Kill target signal) = is_number top target
is_call top (call.MacSetProc label) = dominates top label
is_call top _ = true

-- whether the names that a call may give to an entry are names
unfoldable pub has_names : Call → Bool
has_names (call.OpenPath path flags mode) = are_names path
has_names (call.Mkfifo path mode) = are_names path
has_names (call.Mkdir path mode) = are_names path
has_names (call.Link path to) = are_names to
has_names (call.Rename path to) = are_names to
has_names _ = true

-- an item of a script that may be played
abbrev pub is_item : Label → ScriptItem → Bool
is_item top item = is_number top item.who && is_call top item.call && has_names item.call

-- a script that may be played
abbrev pub is_script : Label → List ScriptItem → Bool
is_script top items = list_all (is_item top) items
