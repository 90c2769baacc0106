-- A set of categories as the bits of a number.
use Rattle.std.specs.Prelude.{ℕ, ◌^◌, Bool, ◌==◌, List, [], ◌∷◌, bit_or}
use Rattle.std.specs.FinSet as set
use Rattle.std.specs.Int.{bit_at}
use Rattle.std.specs.List.{range_with_len}
use Rattle.std.specs.declared.cmp.Ordering.{Ordering}
use Rattle.std.specs.Ordering.{nat_cmp}
use Rattle.lab_lattice.specs.Cats.{CatSet}

-- whether the bit with a category's number is 1
abbrev pub in_word : ℕ → ℕ → Bool
in_word word i = bit_at word i == 1

-- the category numbers that there are
abbrev pub all_cats : List ℕ
all_cats = range_with_len 0 64

-- the categories whose bits are 1
unfoldable pub cats_of_word : ℕ → CatSet
cats_of_word word = set.retain (set.from_list all_cats) (in_word word)

-- the number whose bits with these numbers are 1
abbrev pub word_with : List ℕ → ℕ
word_with [] = 0
word_with (i ∷ is) = bit_or (2 ^ i) (word_with is)

-- the number whose bits are the members of a set
unfoldable pub word_of_cats : CatSet → ℕ
word_of_cats cats = word_with (set.items cats)

-- sets are listed by their numbers, which is no inclusion
unfoldable pub cats_cmp : CatSet → CatSet → Ordering
cats_cmp x y = nat_cmp (word_of_cats x) (word_of_cats y)
