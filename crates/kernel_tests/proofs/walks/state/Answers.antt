use Rattle.std.proofs.Common.{ap}
use Rattle.fd_table.specs.Files.{OpenFiles}
use Rattle.sys_lookup.proofs.OwnerLemmas.{owners_none}
use Rattle.kernel_tests.proofs.walks.state.Goals as goal

pub invariant_of-result : goal.invariant_of-result
invariant_of-result c = owners_none c.args.procs.procs c.new.result.processes (ap (λ (t : OpenFiles). t.processes) c.new.ensures)
