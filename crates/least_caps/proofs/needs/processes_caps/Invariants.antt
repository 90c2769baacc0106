use Rattle.std.proofs.Common.{◌≡◌, take}
use Rattle.least_caps.specs.Named.{union_over}
use Rattle.least_caps.specs.Stands.{process_caps}
use Rattle.least_caps.proofs.needs.processes_caps.Given as goal

abbrev pub invariant-loop-process : goal.invariant-loop-process
invariant-loop-process l = l.caps ≡ union_over process_caps (take l.process-index l.processes)
