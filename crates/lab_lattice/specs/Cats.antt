-- Sets of categories, and the words in which clauses and definitions speak of them.
use Rattle.std.specs.Prelude.{ℕ, Bool, ◌&&◌}
use Rattle.std.specs.FinSet as set
use Rattle.std.specs.Coded.{Coded, coded_ℕ}
use Rattle.std.specs.Ordering.{nat_cmp}

-- a finite set of category numbers
abbrev pub CatSet : Type 0
CatSet = set.FinSet nat_cmp

-- how a value that holds such a set is stored
abbrev pub cats_code : Coded CatSet
cats_code = set.code coded_ℕ

-- whether a category is in a set
abbrev pub has_cat : CatSet → ℕ → Bool
has_cat cats i = set.contains cats i

-- the set with no category
abbrev pub no_cats : CatSet
no_cats = set.empty

-- the set of one category
abbrev pub one_cat : ℕ → CatSet
one_cat i = set.insert no_cats i

-- what is in either set
abbrev pub cats_join : CatSet → CatSet → CatSet
cats_join x y = set.union x y

-- what is in both sets
abbrev pub cats_meet : CatSet → CatSet → CatSet
cats_meet x y = set.intersection x y

-- whether each category of the second set is in the first
abbrev pub cats_cover : CatSet → CatSet → Bool
cats_cover x y = set.is_subset y x

-- whether two sets are one
unfoldable pub same_sets : CatSet → CatSet → Bool
same_sets x y = cats_cover x y && cats_cover y x
