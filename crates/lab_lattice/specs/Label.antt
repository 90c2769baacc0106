-- The label of this profile. Crates above may use this file and the laws in `proofs/Labels.antt`, and `pair_covers` and
-- `pair_cmp` can't be unfolded there, so what they build holds whatever the parts of a label are.
use Rattle.std.specs.Prelude.{ℕ, Bool, refl}
use Rattle.std.specs.declared.cmp.Ordering.{Ordering}
use Rattle.std.specs.Ordering.{nat_cmp}
use Rattle.std.specs.Coded.{Coded, code_by, coded×, coded_ℕ}
use Rattle.lab_lattice.specs.declared.dual.Dual.{Dual}
use Rattle.lab_lattice.specs.declared.pair.Pair.{Pair}
use Rattle.lab_lattice.specs.Number.{number_covers}
use Rattle.lab_lattice.specs.Cats.{CatSet, cats_code, no_cats, cats_cover}
use Rattle.lab_lattice.specs.Grade.{Grade, grade_code, highest_grade, grade_covers, grade_cmp}
use Rattle.lab_lattice.specs.Word.{cats_cmp}
use Rattle.lab_lattice.specs.Dual.{dual_covers, dual_cmp}
use Rattle.lab_lattice.specs.Pair.{pair_covers, pair_cmp}

-- a level, a number from 0, and a set of categories
abbrev pub Secrecy : Type 0
Secrecy = Pair ℕ CatSet

-- the first level is at least as high as the second, and the first categories include the second
abbrev pub secrecy_covers : Secrecy → Secrecy → Bool
secrecy_covers = pair_covers number_covers cats_cover

-- a label is a level with a set of categories, and a grade
abbrev pub Label : Type 0
Label = Pair Secrecy (Dual Grade)

-- how a value that holds a label is stored: write it beside `codes`
abbrev pub label_code : Coded Label
label_code = code_by ((ℕ × CatSet) × Grade) (coded× (coded× coded_ℕ cats_code) grade_code)
    (λ x. ((x.first.first, x.first.second), x.second.inner))
    (λ p. record { first = record { first = p.0.0; second = p.0.1 }; second = record { inner = p.1 } })
    (λ x. refl)

-- whether the first label dominates the second: its level is at least as high, its categories include the other's, and its grade
-- is at most the other's
abbrev pub dominates : Label → Label → Bool
dominates = pair_covers secrecy_covers (dual_covers grade_covers)

-- the order in which labels are listed, which is no dominance: by level, by categories, and by grade with the highest first
abbrev pub label_cmp : Label → Label → Ordering
label_cmp = pair_cmp (pair_cmp nat_cmp cats_cmp) (dual_cmp grade_cmp)

-- the label that each label dominates: the lowest level with no category, and the highest grade
unfoldable pub bottom : Label
bottom = record { first = record { first = 0; second = no_cats }; second = record { inner = highest_grade } }
