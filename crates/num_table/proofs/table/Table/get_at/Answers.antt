use Rattle.kern_model.proofs.ByNumber.{number_found}
use Rattle.num_table.proofs.table.Table.get_at.Goals as goal

pub returns : goal.returns
returns g c =
    let laws = g.met.K.Number in
    number_found laws.total laws.exact laws.agree c.args.self.now c.args.number.now (c.label.result.now, c.count.result) (λ i. (c.label.ensures i, c.count.ensures i)) _ c.get.ensures
