use Rattle.kern_model.proofs.ByNumber.{number_found, number_removed}
use Rattle.num_table.proofs.table.Table.remove_at.Goals as goal

pub returns-clause-removed : goal.returns-clause-removed
returns-clause-removed g c =
    let laws = g.met.K.Number in
    number_found laws.total laws.exact laws.agree c.args.self.now c.args.number.now (c.label.result.now, c.count.result) (λ i. (c.label.ensures i, c.count.ensures i)) _ c.remove.ensures.removed

pub returns-clause-left : goal.returns-clause-left
returns-clause-left g c =
    let laws = g.met.K.Number in
    number_removed laws.total laws.exact laws.agree c.args.self.now c.args.number.now (c.label.result.now, c.count.result) (λ i. (c.label.ensures i, c.count.ensures i)) c.remove.new.self c.remove.ensures.left
