use Rattle.std.proofs.Common.{ℕ, [], cond, take}
use Rattle.std.specs.List.{flat_map}
use Rattle.io_ends.specs.Ends.{SinkView}
use Rattle.kern_model.specs.declared.numbers.Pid.{Pid}
use Rattle.kern_core.specs.Kernel.{state_of}
use Rattle.lab_engine.specs.Texts.{end_text, is_viewed, label_in, caps_in}
use Rattle.lab_engine.specs.Order.{to_out}
use Rattle.lab_engine.specs.Playing.{SendsAll, ends}
use Rattle.labsys.proofs.playing.report_ends.Given as goal

abbrev pub invariant-loop-who : goal.invariant-loop-who
invariant-loop-who g l =
    let policy = l.texts.policy.now in
    (source : ℕ) (trail : SinkView) → SendsAll (to_out (flat_map (λ (who : Pid). cond (is_viewed l.viewer who) (end_text policy who (label_in (state_of l.kernel) who) (caps_in (state_of l.kernel) who)) []) (take l.who-index l.who-items)))
    (ends source (g.K.Sink.view l.initial.out) trail) (ends source (g.K.Sink.view l.out) trail)
