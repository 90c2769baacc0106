use Rattle.num_table.proofs.Outcomes.{at_some}
use Rattle.num_table.proofs.table.Table.set.Goals as goal

pub returns-in-Some-clause-ok : goal.returns-in-Some-clause-ok
returns-in-Some-clause-ok g c = at_some c.in-Some.is (c.get_mut.follows.holds c.args.item)
