use Rattle.fd_table.proofs.table.FdTable.dup.Goals as goal

pub set-requires-clause-there : goal.set-requires-clause-there
set-requires-clause-there c = c.did.ensures.there c.in_ok-did.did c.in_ok-did.ensures.ok_part

pub set-requires-clause-process : goal.set-requires-clause-process
set-requires-clause-process c = c.did.ensures.process c.in_ok-did.did c.in_ok-did.ensures.ok_part
