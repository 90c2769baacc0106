use Rattle.std.proofs.Common.{refl}
use Rattle.kern_model.proofs.ByNumber.{number_found, number_set}
use Rattle.num_table.proofs.Outcomes.{lent_then}
use Rattle.num_table.proofs.table.Table.get_mut_at.Goals as goal

pub returns : goal.returns
returns g c =
    let laws = g.met.K.Number in (
      (
        refl,
        (λ w. lent_then c.get_mut.result (c.get_mut.follows.holds w) (number_set laws.total laws.exact laws.agree c.args.self.now c.args.number.now (c.label.result.now, c.count.result) (λ i. (c.label.ensures i, c.count.ensures i)) (c.get_mut.follows.lender w) w)),
        c.get_mut.follows.holds-at-none,
      ),
      record {
        writes_back = tt;
        value = number_found laws.total laws.exact laws.agree c.args.self.now c.args.number.now (c.label.result.now, c.count.result) (λ i. (c.label.ensures i, c.count.ensures i)) _ c.get_mut.ensures.value;
      },
    )
