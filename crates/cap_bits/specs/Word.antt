-- A set of capabilities as the bits of a number.
use Rattle.std.specs.Prelude.{ℕ, ◌+◌, ◌*◌, Bool, cond, ◌==◌, List, [], ◌∷◌, map}
use Rattle.std.specs.FinSet as set
use Rattle.std.specs.Int.{bit_at}
use Rattle.cap_bits.specs.declared.cap.Cap.{Cap}
use Rattle.cap_bits.specs.Cap.{cap_number, all_caps}
use Rattle.cap_bits.specs.CapSet.{CapSet, has, all_of_caps}

-- whether the bit with a capability's number is 1
abbrev pub in_word : ℕ → Cap → Bool
in_word word cap = bit_at word (cap_number cap) == 1

-- the capabilities whose bits are 1
unfoldable pub caps_of_word : ℕ → CapSet
caps_of_word word = set.retain all_of_caps (in_word word)

-- the number with these bits, the lowest first
abbrev pub word_of_bits : List Bool → ℕ
word_of_bits [] = 0
word_of_bits (b ∷ bs) = cond b 1 0 + 2 * word_of_bits bs

-- the number whose bits are the members of a set
unfoldable pub word_of_caps : CapSet → ℕ
word_of_caps caps = word_of_bits (map (has caps) all_caps)
