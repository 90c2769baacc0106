use Rattle.std.proofs.Common.{ℕ, take, [], cond}
use Rattle.std.specs.List.{flat_map}
use Rattle.io_ends.specs.Ends.{SinkView}
use Rattle.kern_model.specs.declared.numbers.Pid.{Pid}
use Rattle.ever_caps.specs.Crossing.{is_left_by}
use Rattle.labsys.specs.Never.{is_answered, label_line}
use Rattle.lab_engine.specs.Order.{to_out}
use Rattle.lab_engine.specs.Playing.{SendsAll, ends}
use Rattle.labsys.proofs.never.report_labels.Given as goal

abbrev pub invariant-loop-who : goal.invariant-loop-who
invariant-loop-who g l = (source : ℕ) (trail : SinkView)
    → SendsAll (to_out (flat_map (λ (who : Pid). cond (is_answered (is_left_by l.crossers) l.left who) (label_line l.left l.texts.policy.now who.label) []) (take l.who-index l.who-items))) (ends source (g.K.Sink.view l.initial.out) trail) (ends source (g.K.Sink.view l.out) trail)
