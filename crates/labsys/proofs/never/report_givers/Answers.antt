use Rattle.std.proofs.Common.{◌∙◌, ap, List}
use Rattle.std.specs.List.{flat_map}
use Rattle.kern_model.specs.declared.world.WorldObject.{WorldObject}
use Rattle.ever_caps.specs.Ever.{all_processes}
use Rattle.labsys.specs.Never.{giver_line}
use Rattle.lab_engine.specs.Order.{to_out}
use Rattle.lab_engine.proofs.Sending.{all_nothing, all_pieces, in_order, one_more, piece_stops, piece_has_no_memory, to_out-append}
use Rattle.labsys.proofs.never.report_givers.Goals as goal

pub loop-object-init : goal.loop-object-init
unfolding to_out
loop-object-init g c = λ source trail. all_nothing _

pub returns-in_err-text : goal.returns-in_err-text
returns-in_err-text g c = λ source trail.
    let line = giver_line (all_processes c.args.world.now) c.args.world.now.bound in
    in_order _ _ _ _ _ (ap (λ (xs : List WorldObject). to_out (flat_map line xs)) c.items-object-items.ensures)
    (piece_has_no_memory to_out to_out-append line c.items-object-items.result.now c.loop-object.object-index c.object-item.result c.loop-object-test.true _ _ _ (c.loop-object.invariant source trail) c.from_residual.ensures.1)

pub returns-in_err-answer : goal.returns-in_err-answer
returns-in_err-answer g c = λ source trail.
    let line = giver_line (all_processes c.args.world.now) c.args.world.now.bound in
    in_order _ _ _ _ _ (ap (λ (xs : List WorldObject). to_out (flat_map line xs)) c.items-object-items.ensures)
    (piece_stops to_out to_out-append line c.items-object-items.result.now c.loop-object.object-index c.object-item.result c.loop-object-test.true _ _ c.deref.result.now _ _ _
    (c.deref.ensures.value ∙ c.in_ok-text.ensures ∙ (λ i. giver_line (c.all_processes-process.ensures i) c.args.world.now.bound (c.object-item.is i))) (c.loop-object.invariant source trail) (c.in_err-answer.ensures source trail) c.from_residual-in_err-answer.ensures.1)

pub loop-object-preserved : goal.loop-object-preserved
loop-object-preserved g c = λ source trail.
    let line = giver_line (all_processes c.args.world.now) c.args.world.now.bound in
    one_more to_out to_out-append line c.items-object-items.result.now c.loop-object.object-index c.object-item.result c.loop-object-test.true c.deref.result.now _ _ _
    (c.deref.ensures.value ∙ c.in_ok-text.ensures ∙ (λ i. giver_line (c.all_processes-process.ensures i) c.args.world.now.bound (c.object-item.is i))) (c.loop-object.invariant source trail) (c.in_ok-answer.ensures source trail)

pub returns : goal.returns
returns g c = λ source trail.
    let line = giver_line (all_processes c.args.world.now) c.args.world.now.bound in
    all_pieces to_out line c.items-object-items.result.now c.loop-object.object-index c.loop-object-test.false _ (ap (λ (xs : List WorldObject). to_out (flat_map line xs)) c.items-object-items.ensures) _ _ (c.loop-object.invariant source trail)
