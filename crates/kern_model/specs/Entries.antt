-- What the entries of directories say: what a directory contains, which names an object has, what lies under what.
use Rattle.std.specs.Prelude.{ℕ, zero, suc, ◌&&◌, ◌||◌, not, Bool, false, cond, List, [], ◌∷◌, length, Option, None, Some}
use Rattle.std.specs.List.{find, flat_map}
use Rattle.std.specs.Option.{option_map}
use Rattle.std.specs.FinMap as map
use Rattle.fs_path.specs.Name.{Name}
use Rattle.kern_model.specs.declared.numbers.Oid.{Oid}
use Rattle.kern_model.specs.Maps.{any_entry, count_entries}
use Rattle.kern_model.specs.Keys.{Spot, same_oid}
use Rattle.kern_model.specs.Kinds.{is_dir}
use Rattle.kern_model.specs.State.{State, object_at, root}

-- whether no name stands in a directory
abbrev pub is_empty : State → Oid → Bool
is_empty s dir = not (any_entry (λ (spot : Spot) id. same_oid spot.0 dir) s.entries)

-- whether an object is a directory in which names stand
abbrev pub has_entries : State → Oid → Bool
has_entries s id = is_dir (object_at s id).kind && not (is_empty s id)

-- how many names stand in a directory
abbrev pub entry_count : State → Oid → ℕ
entry_count s dir = count_entries (λ (spot : Spot) id. same_oid spot.0 dir) s.entries

-- the names in a directory, sorted by their bytes
unfoldable pub names_in : State → Oid → List Name
names_in s dir = flat_map (λ (e : Spot × Oid). cond (same_oid e.0.0 dir) (e.0.1 ∷ []) []) (map.entries s.entries)

-- whether some directory holds an object
abbrev pub is_held : State → Oid → Bool
is_held s id = any_entry (λ spot at. same_oid at id) s.entries

-- how many names an object has
abbrev pub link_count : State → Oid → ℕ
link_count s id = count_entries (λ spot at. same_oid at id) s.entries

-- a directory is removed where it is not the root and no directory holds it
abbrev pub is_removed : State → Oid → Bool
is_removed s dir = not (same_oid dir root) && not (is_held s dir)

-- the directory that holds an object, if one does
unfoldable pub holder : State → Oid → Option Oid
holder s id = option_map (λ (e : Spot × Oid). e.0.0) (find (λ (e : Spot × Oid). same_oid e.1 id) (map.entries s.entries))

abbrev pub is_so_above : (Oid → Bool) → Option Oid → Bool
is_so_above test None = false
is_so_above test (Some dir) = test dir

-- whether a directory is another one, or up to n directories above it are
abbrev pub is_under_within : State → ℕ → Oid → Oid → Bool
is_under_within s zero dir top = same_oid dir top
is_under_within s (suc n) dir top = same_oid dir top || is_so_above (λ above. is_under_within s n above top) (holder s dir)

-- whether a directory is another one or lies under it; there are no more directories above one than there are entries
unfoldable pub is_under : State → Oid → Oid → Bool
is_under s dir top = is_under_within s (length (map.entries s.entries)) dir top
