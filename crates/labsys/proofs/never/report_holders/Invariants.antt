use Rattle.std.proofs.Common.{ℕ, take}
use Rattle.std.specs.List.{flat_map}
use Rattle.io_ends.specs.Ends.{SinkView}
use Rattle.kern_model.specs.declared.numbers.Pid.{Pid}
use Rattle.kern_core.specs.Kernel.{state_of}
use Rattle.lab_engine.specs.Texts.{caps_in}
use Rattle.labsys.specs.Never.{holder_line}
use Rattle.lab_engine.specs.Order.{to_out}
use Rattle.lab_engine.specs.Playing.{SendsAll, ends}
use Rattle.labsys.proofs.never.report_holders.Given as goal

abbrev pub invariant-loop-who : goal.invariant-loop-who
invariant-loop-who g l = (source : ℕ) (trail : SinkView)
    → SendsAll (to_out (flat_map (λ (who : Pid). holder_line l.texts.policy.now who (caps_in (state_of l.kernel) who)) (take l.who-index l.who-items))) (ends source (g.K.Sink.view l.initial.out) trail) (ends source (g.K.Sink.view l.out) trail)
