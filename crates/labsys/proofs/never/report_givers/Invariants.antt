use Rattle.std.proofs.Common.{ℕ, take}
use Rattle.std.specs.List.{flat_map}
use Rattle.io_ends.specs.Ends.{SinkView}
use Rattle.ever_caps.specs.Ever.{all_processes}
use Rattle.labsys.specs.Never.{giver_line}
use Rattle.lab_engine.specs.Order.{to_out}
use Rattle.lab_engine.specs.Playing.{SendsAll, ends}
use Rattle.labsys.proofs.never.report_givers.Given as goal

abbrev pub invariant-loop-object : goal.invariant-loop-object
invariant-loop-object g l = (source : ℕ) (trail : SinkView)
    → SendsAll (to_out (flat_map (giver_line (all_processes l.world) l.world.bound) (take l.object-index l.object-items))) (ends source (g.K.Sink.view l.initial.out) trail) (ends source (g.K.Sink.view l.out) trail)
