use Rattle.std.proofs.Common.{◌≡◌, ◌++◌}
use Rattle.std.specs.Prelude.{reverse}
use Rattle.std.specs.Vec.{vec_len}
use Rattle.kern_model.specs.Boot.{boot_processes, boot_recs_from}
use Rattle.kern_core.specs.Starts.{CanStart}
use Rattle.kern_core.proofs.boot.take_processes.Given as goal

-- what is left, the next process last, makes the state and the records that all make, and there are numbers for what is left
abbrev pub invariant-loop-process : goal.invariant-loop-process
invariant-loop-process l = record {
  same : boot_processes l.shared (reverse l.left.items) ≡ boot_processes l.fn.shared l.fn.procs;
  recs : l.recs ++ boot_recs_from l.shared (reverse l.left.items) ≡ boot_recs_from l.fn.shared l.fn.procs;
  can : CanStart l.shared.process_numbers (reverse l.left.items);
}

abbrev pub decreases-loop-process : goal.decreases-loop-process
decreases-loop-process l = vec_len l.left
