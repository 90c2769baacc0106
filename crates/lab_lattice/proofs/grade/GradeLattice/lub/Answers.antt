use Rattle.std.proofs.Common.{ap, ◌∙◌}
use Rattle.lab_lattice.specs.Grade.{grade_of, grade_join}
use Rattle.lab_lattice.proofs.Grades.{grades_join}
use Rattle.lab_lattice.proofs.grade.GradeLattice.lub.Goals as goal

pub returns : goal.returns
returns c =
    ap grade_of c.lub.ensures ∙ grades_join c.self.inside.level c.other.inside.level c.self.invariant c.other.invariant
    ∙ (λ i. grade_join (c.self.view_is i) (c.other.view_is i))
