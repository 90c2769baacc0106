use Rattle.std.specs.Prelude.{IsSome}
use Rattle.std.proofs.Common.{refl, subst, sym}
use Rattle.std.proofs.lemmas.Result.{on_ok_weaker}
use Rattle.kern_model.proofs.ByNumber.{number_found, number_set}
use Rattle.num_table.proofs.table.Table.set_at.Goals as goal

pub returns-clause-ok : goal.returns-clause-ok
returns-clause-ok g c =
    let laws = g.met.K.Number in
    on_ok_weaker c.set.result (number_set laws.total laws.exact laws.agree c.args.self.now c.args.number.now (c.label.result.now, c.count.result) (λ i. (c.label.ensures i, c.count.ensures i)) c.set.new.self c.args.item) c.set.ensures.ok

pub returns-clause-replaced : goal.returns-clause-replaced
returns-clause-replaced g c there =
    let laws = g.met.K.Number in
    c.set.ensures.replaced (subst IsSome (sym (number_found laws.total laws.exact laws.agree c.args.self.now c.args.number.now (c.label.result.now, c.count.result) (λ i. (c.label.ensures i, c.count.ensures i)) _ refl)) there)
