-- The grades that operations on numbers make.
use Rattle.std.specs.Prelude.{◌≡◌, ℕ, ◌≤◌}
use Rattle.std.proofs.Common.{arith}
use Rattle.lab_lattice.specs.Number.{number_join, number_meet}
use Rattle.lab_lattice.specs.Grade.{same_grades, grade_of, grade_join, grade_meet}

pub grades_join : (a b : ℕ) → a ≤ 15 → b ≤ 15 → grade_of (number_join a b) ≡ grade_join (grade_of a) (grade_of b)
grades_join a b h k = same_grades (grade_of (number_join a b)) (grade_join (grade_of a) (grade_of b)) (omega arith)

pub grades_meet : (a b : ℕ) → a ≤ 15 → b ≤ 15 → grade_of (number_meet a b) ≡ grade_meet (grade_of a) (grade_of b)
grades_meet a b h k = same_grades (grade_of (number_meet a b)) (grade_meet (grade_of a) (grade_of b)) (omega arith)
