use Rattle.std.proofs.Common.{take}
use Rattle.std.specs.Prelude.{All}
use Rattle.kern_model.specs.World.{IsWorldProc}
use Rattle.kern_model.proofs.valid.are_world_procs.Given as goal

abbrev pub invariant-loop-process : goal.invariant-loop-process
invariant-loop-process l = All (IsWorldProc l.top) (take l.process-index l.procs)
