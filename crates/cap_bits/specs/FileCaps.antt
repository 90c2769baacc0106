-- The capabilities of a file, and the states by which they are set and shown.
use Rattle.std.specs.Prelude.{◌≡◌, Bool, true, false, not, ◌&&◌, ◌||◌, if◌then◌else◌, Option, Some, None, refl}
use Rattle.cap_bits.specs.declared.file_caps.FileCaps.{FileCaps}
use Rattle.cap_bits.specs.declared.state.CapState.{CapState}
use Rattle.cap_bits.specs.CapSet.{CapSet, no_caps, union_of, same_sets, is_empty}

-- a file can have a state in which nothing is effective, or all that is permitted or inheritable
unfoldable pub is_uniform : CapState → Bool
is_uniform s = is_empty s.e || same_sets s.e (union_of s.p s.i)

-- a flag that is on only where a set is not empty is off where the set is empty
pub off_where : (raised empty : Bool) → empty ≡ true → (raised && not empty) ≡ false
off_where true true h = refl
off_where false true h = refl
off_where raised false h = absurd (cc)

-- two sets with the flag, which is off where both are empty
abbrev pub file_caps : CapSet → CapSet → Bool → FileCaps
file_caps p i raised = record { p = p; i = i; eff = raised && not (is_empty (union_of p i)); flag_off = off_where raised (is_empty (union_of p i)) }

-- no capability, and the flag off
abbrev pub no_file_caps : FileCaps
no_file_caps = file_caps no_caps no_caps false

-- the permitted and inheritable capabilities of a state, with the flag where anything is effective
abbrev pub caps_by : CapState → FileCaps
caps_by s = file_caps s.p s.i (not (is_empty s.e))

-- what a file has by a state, if a file can have that state
unfoldable pub file_caps_of : CapState → Option FileCaps
file_caps_of s = if is_uniform s then Some (caps_by s) else None

-- the state by which a file has its capabilities: with the flag all are effective, and without it none
abbrev pub shown : FileCaps → CapState
shown f = record { e = if f.eff then union_of f.p f.i else no_caps; i = f.i; p = f.p }
