use Rattle.std.proofs.Common.{ap, sym, ◌∙◌}
use Rattle.std.specs.Prelude.{◌&&◌}
use Rattle.lab_lattice.specs.Pair.{pair_covers-parts}
use Rattle.lab_lattice.proofs.pair.PairLattice.dominates.Goals as goal

pub returns-then-dominates : goal.returns-then-dominates
returns-then-dominates g c =
    c.dominates-then-dominates.ensures
    ∙ ap (λ b. b && g.B.Lattice.covers c.args.self.now.second c.args.other.now.second) (sym c.if-dominates.true ∙ c.dominates.ensures)
    ∙ sym (pair_covers-parts g.A.Lattice.covers g.B.Lattice.covers c.args.self.now c.args.other.now)

pub returns-else-dominates : goal.returns-else-dominates
returns-else-dominates g c =
    c.if-dominates.false
    ∙ ap (λ b. b && g.B.Lattice.covers c.args.self.now.second c.args.other.now.second) (sym c.if-dominates.false ∙ c.dominates.ensures)
    ∙ sym (pair_covers-parts g.A.Lattice.covers g.B.Lattice.covers c.args.self.now c.args.other.now)
