use Rattle.std.proofs.Common.{◌≡◌, take}
use Rattle.kern_model.specs.declared.world.WorldProc.{WorldProc}
use Rattle.ever_caps.specs.Ever.{joined}
use Rattle.ever_caps.proofs.sets.processes_joined.Given as goal

abbrev pub invariant-loop-process : goal.invariant-loop-process
invariant-loop-process l = l.together ≡ joined (λ (p : WorldProc). p.caps) (take l.process-index l.processes)
