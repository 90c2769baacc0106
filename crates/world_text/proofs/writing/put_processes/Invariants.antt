use Rattle.std.proofs.Common.{◌≡◌, ◌++◌, take}
use Rattle.std.specs.List.{AllByRecursion, flat_map}
use Rattle.world_text.specs.CanBeRead.{IsWrittenIds}
use Rattle.world_text.specs.Written.{line_of, process_words}
use Rattle.world_text.proofs.writing.put_processes.Given as goal

abbrev pub invariant-loop-process : goal.invariant-loop-process
invariant-loop-process l = record {
  text : l.line ≡ l.fn.line ++ flat_map (λ process. line_of (process_words l.policy process)) (take l.process-index l.processes);
  in_range : AllByRecursion (λ process. IsWrittenIds process.ids) (take l.process-index l.processes);
}
