use Rattle.num_table.proofs.Outcomes.{at_some}
use Rattle.proc_table.proofs.PositionLemmas.{some_there}
use Rattle.proc_table.proofs.positions.change.Goals as goal

pub unreachable-requires : goal.unreachable-requires
unreachable-requires c = some_there c.in_default.ensures.value c.requires

pub returns : goal.returns
returns c = at_some c.in-Some.is (c.get_mut_at.follows.holds c.args.position)
