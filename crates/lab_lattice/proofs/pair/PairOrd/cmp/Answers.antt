use Rattle.std.specs.Ordering.{ordering_then}
use Rattle.std.proofs.Common.{sym, ◌∙◌}
use Rattle.lab_lattice.specs.Pair.{pair_cmp-parts}
use Rattle.lab_lattice.proofs.pair.PairOrd.cmp.Goals as goal

pub returns : goal.returns
returns g c =
    c.then.ensures
    ∙ (λ i. ordering_then (c.cmp.ensures i) (c.cmp-2.ensures i))
    ∙ sym (pair_cmp-parts g.A.Ord.cmp g.B.Ord.cmp c.args.self.now c.args.other.now)
