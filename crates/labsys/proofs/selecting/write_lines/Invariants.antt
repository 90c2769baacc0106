use Rattle.std.proofs.Common.{ℕ, take}
use Rattle.std.specs.List.{flat_map}
use Rattle.io_ends.specs.Ends.{SinkView}
use Rattle.lab_engine.specs.Order.{to_out}
use Rattle.lab_engine.specs.Playing.{SendsAll, ends}
use Rattle.labsys.specs.Selecting.{selected_line}
use Rattle.labsys.proofs.selecting.write_lines.Given as goal

abbrev pub invariant-loop-rec : goal.invariant-loop-rec
invariant-loop-rec g l =
    (source : ℕ) (t : SinkView) → SendsAll (to_out (flat_map (selected_line l.trail.policy l.select) (take l.rec-index l.rec-items))) (ends source (g.K.Sink.view l.initial.out) t) (ends source (g.K.Sink.view l.out) t)
