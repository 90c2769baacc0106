use Rattle.std.proofs.Common.{ap, sym, ◌∙◌}
use Rattle.std.specs.Prelude.{◌&&◌}
use Rattle.lab_lattice.proofs.Pairs.{pair_covers_both}
use Rattle.lab_lattice.proofs.pair.PairLattice.equal.Goals as goal

pub returns-then-equal : goal.returns-then-equal
returns-then-equal g c =
    c.equal-then-equal.ensures
    ∙ ap (λ b. b && (g.B.Lattice.covers c.args.self.now.second c.args.other.now.second && g.B.Lattice.covers c.args.other.now.second c.args.self.now.second)) (sym c.if-equal.true ∙ c.equal.ensures)
    ∙ pair_covers_both g.A.Lattice.covers g.B.Lattice.covers c.args.self.now c.args.other.now

pub returns-else-equal : goal.returns-else-equal
returns-else-equal g c =
    c.if-equal.false
    ∙ ap (λ b. b && (g.B.Lattice.covers c.args.self.now.second c.args.other.now.second && g.B.Lattice.covers c.args.other.now.second c.args.self.now.second)) (sym c.if-equal.false ∙ c.equal.ensures)
    ∙ pair_covers_both g.A.Lattice.covers g.B.Lattice.covers c.args.self.now c.args.other.now
