-- Grades are the numbers up to 15, in their order.
use Rattle.std.specs.Prelude.{◌≡◌, ℕ, ◌≤◌, Bool, min}
use Rattle.std.specs.Coded.{Coded, coded_ℕ, le_prop}
use Rattle.std.specs.declared.cmp.Ordering.{Ordering}
use Rattle.std.specs.Ordering.{nat_cmp}
use Rattle.std.proofs.Math.Nat.{min-le_left, min-le_right, max-le, le_trans}
use mathlib.Core.HLevel.{Σ_prop_path}
use base.Stored.{coded_via}
use Rattle.lab_lattice.specs.Number.{number_covers, number_join, number_meet}

-- a number up to 15
pub record Grade : Type 0 where
  pub number : ℕ
  pub low : number ≤ 15

-- grades with one number are one
pub same_grades : (x y : Grade) → x.number ≡ y.number → x ≡ y
same_grades x y e =
    let pairs : ◌≡◌ {A = (n : ℕ) × (n ≤ 15)} (x.number, x.low) (y.number, y.low) = Σ_prop_path (λ n. le_prop) e in
    λ i. record { number = (pairs i).0; low = (pairs i).1 }

-- how a value that holds a grade is stored
abbrev pub grade_code : Coded Grade
grade_code = coded_via coded_ℕ (λ (g : Grade). g.number) same_grades

-- the grade with a number, or 15 where the number is above it
abbrev pub grade_of : ℕ → Grade
grade_of n = record { number = min n 15; low = min-le_right n 15 }

abbrev pub highest_grade : Grade
highest_grade = grade_of 15

-- the first grade is at least as high as the second
abbrev pub grade_covers : Grade → Grade → Bool
grade_covers x y = number_covers x.number y.number

-- the higher of two grades
abbrev pub grade_join : Grade → Grade → Grade
grade_join x y = record { number = number_join x.number y.number; low = max-le x.low y.low }

-- the lower of two grades
abbrev pub grade_meet : Grade → Grade → Grade
grade_meet x y = record { number = number_meet x.number y.number; low = le_trans (min-le_left x.number y.number) x.low }

abbrev pub grade_cmp : Grade → Grade → Ordering
grade_cmp x y = nat_cmp x.number y.number
