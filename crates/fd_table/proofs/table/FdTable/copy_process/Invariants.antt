use Rattle.std.proofs.Common.{◌≡◌}
use Rattle.std.specs.FinMap as map
use Rattle.fd_table.proofs.Copying.{AreCopied}
use Rattle.fd_table.proofs.table.FdTable.copy_process.Given as goal

-- the process is there, and the descriptors so far are counted
abbrev pub invariant-loop-fd : goal.invariant-loop-fd
invariant-loop-fd l = record {
  processes : l.self-inside.processes ≡ map.insert l.fn.self.processes l.to l.slots;
  numbers : l.self-inside.numbers ≡ l.fn.self.numbers;
  copied : AreCopied l.fn.self l.to l.slots l.fd l.self-inside.descriptions;
}
