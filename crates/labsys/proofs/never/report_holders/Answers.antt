use Rattle.std.proofs.Common.{◌∙◌, ap, List}
use Rattle.std.specs.List.{flat_map}
use Rattle.kern_model.specs.declared.numbers.Pid.{Pid}
use Rattle.kern_core.specs.Kernel.{state_of}
use Rattle.lab_engine.specs.Texts.{caps_in}
use Rattle.labsys.specs.Never.{holder_line}
use Rattle.lab_engine.specs.Order.{to_out}
use Rattle.lab_engine.proofs.Sending.{all_nothing, all_pieces, in_order, one_more, piece_stops, piece_has_no_memory, to_out-append}
use Rattle.labsys.proofs.never.report_holders.Goals as goal

pub loop-who-init : goal.loop-who-init
unfolding to_out
loop-who-init g c = λ source trail. all_nothing _

pub returns-in_err-text : goal.returns-in_err-text
returns-in_err-text g c = λ source trail.
    let line = (λ (who : Pid). holder_line c.args.texts.policy.now who (caps_in (state_of c.args.kernel.now) who)) in
    in_order _ _ _ _ _ (ap (λ (xs : List Pid). to_out (flat_map line xs)) c.items-who-items.ensures)
    (piece_has_no_memory to_out to_out-append line c.items-who-items.result.now c.loop-who.who-index c.who-item.result c.loop-who-test.true _ _ _ (c.loop-who.invariant source trail) c.from_residual.ensures.1)

pub returns-in_err-answer : goal.returns-in_err-answer
returns-in_err-answer g c = λ source trail.
    let line = (λ (who : Pid). holder_line c.args.texts.policy.now who (caps_in (state_of c.args.kernel.now) who)) in
    in_order _ _ _ _ _ (ap (λ (xs : List Pid). to_out (flat_map line xs)) c.items-who-items.ensures)
    (piece_stops to_out to_out-append line c.items-who-items.result.now c.loop-who.who-index c.who-item.result c.loop-who-test.true _ _ c.deref.result.now _ _ _
    (c.deref.ensures.value ∙ c.in_ok-text.ensures ∙ ap line c.who-item.is) (c.loop-who.invariant source trail) (c.in_err-answer.ensures source trail) c.from_residual-in_err-answer.ensures.1)

pub loop-who-preserved : goal.loop-who-preserved
loop-who-preserved g c = λ source trail.
    let line = (λ (who : Pid). holder_line c.args.texts.policy.now who (caps_in (state_of c.args.kernel.now) who)) in
    one_more to_out to_out-append line c.items-who-items.result.now c.loop-who.who-index c.who-item.result c.loop-who-test.true c.deref.result.now _ _ _
    (c.deref.ensures.value ∙ c.in_ok-text.ensures ∙ ap line c.who-item.is) (c.loop-who.invariant source trail) (c.in_ok-answer.ensures source trail)

pub returns : goal.returns
returns g c = λ source trail.
    let line = (λ (who : Pid). holder_line c.args.texts.policy.now who (caps_in (state_of c.args.kernel.now) who)) in
    all_pieces to_out line c.items-who-items.result.now c.loop-who.who-index c.loop-who-test.false _ (ap (λ (xs : List Pid). to_out (flat_map line xs)) c.items-who-items.ensures) _ _ (c.loop-who.invariant source trail)
