use Rattle.std.proofs.Common.{ap, ◌∙◌}
use Rattle.lab_lattice.specs.Grade.{grade_of, grade_meet}
use Rattle.lab_lattice.proofs.Grades.{grades_meet}
use Rattle.lab_lattice.proofs.grade.GradeLattice.glb.Goals as goal

pub returns : goal.returns
returns c =
    ap grade_of c.glb.ensures ∙ grades_meet c.self.inside.level c.other.inside.level c.self.invariant c.other.invariant
    ∙ (λ i. grade_meet (c.self.view_is i) (c.other.view_is i))
