-- The laws of labels that the crates above use.
use Rattle.std.specs.Prelude.{◌≡◌, ℕ, ◌≤◌, min, true}
use Rattle.std.specs.Cmp.{IsTotalOrder, on_total, nat_cmp_total}
use Rattle.std.specs.FinMap.{IsAntisymmetric, nat_cmp-IsAntisymmetric}
use Rattle.std.proofs.Common.{sym, ◌∙◌, arith}
use Rattle.std.proofs.lemmas.Bool.{true≢false}
use Rattle.std.proofs.lemmas.Bool.Decides.{nat_tests}
use Rattle.lab_lattice.specs.Number.{number_covers}
use Rattle.lab_lattice.specs.Cats.{no_cats, cats_cover}
use Rattle.lab_lattice.specs.Dual.{dual_covers}
use Rattle.lab_lattice.specs.Grade.{Grade, same_grades, grade_covers}
use Rattle.lab_lattice.specs.Label.{Label, secrecy_covers, dominates, label_cmp, bottom}
use Rattle.lab_lattice.specs.Laws.{number_reflexive, number_transitive, number_antisymmetric, grade_antisymmetric, dual_transitive, dual_antisymmetric, dual_cmp_total, has-cover, cats_reflexive, cats_transitive, cats_antisymmetric, cats_cmp_total, cats_cmp_exact, pair_parts, pair_reflexive, pair_transitive, pair_antisymmetric, pair_cmp_total}
use Rattle.lab_lattice.proofs.CatSets.{has-no_cats}
use Rattle.lab_lattice.proofs.Pairs.{pair_cmp_exact}

-- ---- dominance: reflexive, transitive and antisymmetric

pub dominates_itself : (x : Label) → dominates x x ≡ true
dominates_itself = pair_reflexive secrecy_covers (dual_covers grade_covers) (pair_reflexive number_covers cats_cover number_reflexive cats_reflexive) (λ x. number_reflexive x.inner.number)

pub dominates_through : (x y z : Label) → dominates x y ≡ true → dominates y z ≡ true → dominates x z ≡ true
dominates_through = pair_transitive secrecy_covers (dual_covers grade_covers)
    (pair_transitive number_covers cats_cover number_transitive cats_transitive)
    (dual_transitive grade_covers (λ x y z. number_transitive x.number y.number z.number))

pub dominates_both : (x y : Label) → dominates x y ≡ true → dominates y x ≡ true → x ≡ y
dominates_both = pair_antisymmetric secrecy_covers (dual_covers grade_covers)
    (pair_antisymmetric number_covers cats_cover number_antisymmetric cats_antisymmetric)
    (dual_antisymmetric grade_covers grade_antisymmetric)

lowest_level : (n : ℕ) → number_covers n 0 ≡ true
lowest_level n = grind (arith, nat_tests)

highest_number : (n : ℕ) → n ≤ 15 → number_covers (min 15 15) n ≡ true
highest_number n h = grind (arith, nat_tests)

-- `bottom` is the lowest label
pub dominates_bottom : (x : Label) → dominates x bottom ≡ true
unfolding bottom
dominates_bottom x =
    let no_cat : cats_cover x.first.second no_cats ≡ true = has-cover x.first.second no_cats (λ q h. absurd (true≢false (sym h ∙ has-no_cats q))) in
    pair_parts secrecy_covers (dual_covers grade_covers) x bottom (pair_parts number_covers cats_cover x.first bottom.first (lowest_level x.first.first) no_cat)
    (highest_number x.second.inner.number x.second.inner.low)

-- ---- the order in which labels are listed

pub label_cmp_total : IsTotalOrder label_cmp
label_cmp_total = pair_cmp_total (pair_cmp_total nat_cmp_total cats_cmp_total) (dual_cmp_total (on_total (λ (x : Grade). x.number) nat_cmp_total))

pub label_cmp_exact : IsAntisymmetric label_cmp
label_cmp_exact = pair_cmp_exact (pair_cmp_exact nat_cmp-IsAntisymmetric cats_cmp_exact)
    (λ x y e i. record { inner = same_grades x.inner y.inner (sym (nat_cmp-IsAntisymmetric y.inner.number x.inner.number e)) i })
