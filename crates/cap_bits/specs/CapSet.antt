-- Sets of capabilities, and the words in which clauses and definitions speak of them.
use Rattle.std.specs.Prelude.{Bool, ◌&&◌}
use Rattle.std.specs.FinSet as set
use Rattle.std.specs.Ordering.{eq_by_cmp}
use Rattle.cap_bits.specs.declared.cap.Cap.{Cap}
use Rattle.cap_bits.specs.Cap.{all_caps, cap_cmp}

abbrev pub CapSet : Type 0
CapSet = set.FinSet cap_cmp

-- whether a capability is in a set
abbrev pub has : CapSet → Cap → Bool
has caps cap = set.contains caps cap

-- the set with no capability
abbrev pub no_caps : CapSet
no_caps = set.empty

-- the set of all 18
unfoldable pub all_of_caps : CapSet
all_of_caps = set.from_list all_caps

-- a set with a capability too
abbrev pub with_cap : CapSet → Cap → CapSet
with_cap caps cap = set.insert caps cap

-- a set without a capability
abbrev pub without_cap : CapSet → Cap → CapSet
without_cap caps cap = set.remove caps cap

-- what is in either set
abbrev pub union_of : CapSet → CapSet → CapSet
union_of a b = set.union a b

-- what is in both sets
abbrev pub meet_of : CapSet → CapSet → CapSet
meet_of a b = set.intersection a b

-- what is in the first set alone
abbrev pub minus_of : CapSet → CapSet → CapSet
minus_of a b = set.difference a b

-- whether each capability of the first set is in the second
abbrev pub is_within : CapSet → CapSet → Bool
is_within a b = set.is_subset a b

-- whether two capabilities are one
abbrev pub same_cap : Cap → Cap → Bool
same_cap a b = eq_by_cmp cap_cmp a b

-- whether two sets are one
unfoldable pub same_sets : CapSet → CapSet → Bool
same_sets a b = is_within a b && is_within b a

-- whether a set has no capability
abbrev pub is_empty : CapSet → Bool
is_empty caps = same_sets caps no_caps
