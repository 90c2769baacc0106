use Rattle.std.proofs.Common.{◌∙◌, ap}
use Rattle.proc_table.specs.Procs.{all_without_parent}
use Rattle.proc_table.proofs.EndLemmas.{ended_in_steps}
use Rattle.proc_table.proofs.table.Table.finish.Goals as goal

pub returns-clause-living : goal.returns-clause-living
returns-clause-living c = λ p is. c.leave_children.ensures.living ∙ ap (all_without_parent c.args.who.now) (c.end.ensures.living p is) ∙ ended_in_steps c.args.self.now.living c.args.who.now p c.args.ending
