use Rattle.std.proofs.Common.{◌≡◌}
use Rattle.std.specs.FinMap as map
use Rattle.fd_table.proofs.Dropping.{AreLetGo}
use Rattle.fd_table.proofs.table.FdTable.drop_process.Given as goal

-- the process went, and the descriptors so far are let go
abbrev pub invariant-loop-fd : goal.invariant-loop-fd
invariant-loop-fd g l = record {
  processes : l.self-inside.processes ≡ map.remove l.fn.self.processes l.who;
  numbers : l.self-inside.numbers ≡ l.fn.self.numbers;
  gone : AreLetGo l.fn.self l.who l.slots l.fd l.self-inside.descriptions (g.B.Buffers.objects l.fn.buffers) (g.B.Buffers.objects l.buffers);
  rest : g.B.Buffers.rest_same l.fn.buffers l.buffers;
}
