use Rattle.std.proofs.Common.{sym, ◌∙◌}
use Rattle.fd_table.proofs.Looking.{fds_there, fds_absent}
use Rattle.fd_table.proofs.process_fds.ProcessFds.copy.Goals as goal

pub returns-in-Some : goal.returns-in-Some
returns-in-Some c = c.copy.ensures ∙ sym (fds_there c.args.self.now c.args.who.now c.in-Some.slots.now c.in-Some.ensures)

pub returns-in-None : goal.returns-in-None
returns-in-None c = c.new.ensures ∙ sym (fds_absent c.args.self.now c.args.who.now c.in-None.ensures)
