use Rattle.sys_file.proofs.access.access_object.Goals as goal

pub returns-in-Read-clause-step : goal.returns-in-Read-clause-step
returns-in-Read-clause-step c = rw c.in-Read.is c.read_object.ensures.step

pub returns-in-Write-clause-step : goal.returns-in-Write-clause-step
returns-in-Write-clause-step c = rw c.in-Write.is c.write_object.ensures.step
