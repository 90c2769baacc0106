use Rattle.std.proofs.Common.{ap, sym, ◌∙◌}
use Rattle.std.specs.FinMap as map
use Rattle.std.specs.FinMap.{get-empty}
use Rattle.std.specs.Ordering.{nat_cmp}
use Rattle.fd_table.specs.Fds.{Fds}
use Rattle.fd_table.proofs.Looking.{fds_there, fds_absent}
use Rattle.fd_table.proofs.process_fds.ProcessFds.did.Goals as goal

pub returns-in-Some-clause-did : goal.returns-in-Some-clause-did
returns-in-Some-clause-did c = c.get.ensures.did ∙ ap (λ (fds : Fds). map.get fds c.args.fd) (sym (fds_there c.args.self.now c.args.who.now c.in-Some.slots.now c.in-Some.ensures))

pub returns-in-None-clause-did : goal.returns-in-None-clause-did
returns-in-None-clause-did c = sym (ap (λ (fds : Fds). map.get fds c.args.fd) (fds_absent c.args.self.now c.args.who.now c.in-None.ensures) ∙ get-empty nat_cmp c.args.fd)
