use Rattle.std.proofs.Common.{◌∙◌}
use Rattle.fd_table.proofs.Slots.{count-seen}
use Rattle.fd_table.proofs.fd_slots.FdSlots.len.Goals as goal

pub returns-clause-count : goal.returns-clause-count
returns-clause-count c = c.count.ensures.count ∙ count-seen c.self.inside.taken c.self.inside.labels c.self.inside.counts c.args.self.now c.self.view_is

pub returns-clause-few : goal.returns-clause-few
returns-clause-few c = c.count.ensures.few
