-- The canonical texts of states and of sets.
use Rattle.std.specs.Prelude.{ℕ, ◌&&◌, not, nat_lt, Bool, cond, List, [], ◌∷◌, ◌++◌, map, codes}
use Rattle.std.specs.Bool.{beq}
use Rattle.std.specs.FinSet as set
use Rattle.std.specs.List.{filter, join_with_byte, list_all, list_any}
use Rattle.cap_bits.specs.Cap.{cap_name, cap_number, all_caps}
use Rattle.cap_bits.specs.CapSet.{CapSet, has, no_caps, all_of_caps, same_sets}
use Rattle.cap_bits.specs.State.{has_flag}
use Rattle.cap_bits.specs.declared.cap.Cap.{Cap}
use Rattle.cap_bits.specs.declared.state.CapState.{CapState}
use Rattle.cap_bits.specs.declared.state.Flag.{Flag}
use Rattle.cap_bits.specs.declared.state.Flag.TheVariants.{Effective, Inheritable, Permitted}
use Rattle.cap_clause.specs.Clauses.{all_flags}

-- ---- sets

-- the capabilities of a set, in their order
unfoldable pub caps_of : CapSet → List Cap
caps_of caps = filter (has caps) all_caps

-- `all` for all 18, and else names with commas between them
unfoldable pub list_text : CapSet → List ℕ
list_text caps = cond (same_sets caps all_of_caps) (codes "all") (join_with_byte 44 (map cap_name (caps_of caps)))

-- `none`, or a list
unfoldable pub set_text : CapSet → List ℕ
set_text caps = cond (same_sets caps no_caps) (codes "none") (list_text caps)

-- ---- states

-- whether two capabilities have equal flags
unfoldable pub same_flags : CapState → Cap → Cap → Bool
same_flags s a b = list_all (λ flag. beq (has_flag s a flag) (has_flag s b flag)) all_flags

-- the capabilities with the flags of one
unfoldable pub group_of : CapState → Cap → CapSet
group_of s cap = set.retain all_of_caps (same_flags s cap)

-- whether a capability has some flag, and is the first with its flags
unfoldable pub is_first : CapState → Cap → Bool
is_first s cap = list_any (has_flag s cap) all_flags && not (list_any (λ other. nat_lt (cap_number other) (cap_number cap) && same_flags s cap other) all_caps)

-- the first capability of each group, in their order
unfoldable pub firsts_of : CapState → List Cap
firsts_of s = filter (is_first s) all_caps

-- the byte of a flag
abbrev pub flag_byte : Flag → ℕ
flag_byte Effective = 101
flag_byte Inheritable = 105
flag_byte Permitted = 112

-- the clause of a group: its list, `=`, and the flags that each of it has
unfoldable pub group_text : CapState → Cap → List ℕ
group_text s cap = list_text (group_of s cap) ++ 61 ∷ map flag_byte (filter (has_flag s cap) all_flags)

-- clauses with a space between them, or `=` where there is none
abbrev pub clauses_text : List (List ℕ) → List ℕ
clauses_text [] = codes "="
clauses_text (clause ∷ clauses) = join_with_byte 32 (clause ∷ clauses)

-- a clause for each group of capabilities with equal flags other than none, in the order of their first capabilities
unfoldable pub caps_text : CapState → List ℕ
caps_text s = clauses_text (map (group_text s) (firsts_of s))
