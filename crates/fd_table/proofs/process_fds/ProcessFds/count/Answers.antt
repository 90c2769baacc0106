use Rattle.std.proofs.Common.{ap, sym, ◌∙◌}
use Rattle.fd_table.specs.Fds.{fd_count}
use Rattle.fd_table.proofs.Looking.{none_counted, fds_there, fds_absent}
use Rattle.fd_table.proofs.process_fds.ProcessFds.count.Goals as goal

pub returns-in-Some-clause-count : goal.returns-in-Some-clause-count
returns-in-Some-clause-count c = c.len.ensures.count ∙ ap fd_count (sym (fds_there c.args.self.now c.args.who.now c.in-Some.slots.now c.in-Some.ensures))

pub returns-in-None-clause-count : goal.returns-in-None-clause-count
returns-in-None-clause-count c = sym (ap fd_count (fds_absent c.args.self.now c.args.who.now c.in-None.ensures) ∙ none_counted)
