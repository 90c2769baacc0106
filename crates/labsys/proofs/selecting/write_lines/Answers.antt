use Rattle.std.proofs.Common.{◌∙◌, ap, List}
use Rattle.std.specs.List.{flat_map}
use Rattle.aud_record.specs.declared.reading.ReadRec.{ReadRec}
use Rattle.lab_engine.specs.Order.{to_out}
use Rattle.lab_engine.proofs.Sending.{all_nothing, all_pieces, in_order, one_more, piece_stops, piece_has_no_memory, to_out-append}
use Rattle.labsys.specs.Selecting.{selected_line}
use Rattle.labsys.proofs.selecting.write_lines.Goals as goal

pub loop-rec-init : goal.loop-rec-init
unfolding to_out
loop-rec-init g c = λ source t. all_nothing _

pub returns-in_err-text : goal.returns-in_err-text
returns-in_err-text g c = λ source t.
    let line = selected_line c.args.trail.now.policy c.args.select.now in
    in_order _ _ _ _ _ (ap (λ (xs : List ReadRec). to_out (flat_map line xs)) c.items-rec-items.ensures)
    (piece_has_no_memory to_out to_out-append line c.items-rec-items.result.now c.loop-rec.rec-index c.rec-item.result c.loop-rec-test.true _ _ _ (c.loop-rec.invariant source t) c.from_residual.ensures.1)

pub returns-in_err-answer : goal.returns-in_err-answer
returns-in_err-answer g c = λ source t.
    let line = selected_line c.args.trail.now.policy c.args.select.now in
    in_order _ _ _ _ _ (ap (λ (xs : List ReadRec). to_out (flat_map line xs)) c.items-rec-items.ensures)
    (piece_stops to_out to_out-append line c.items-rec-items.result.now c.loop-rec.rec-index c.rec-item.result c.loop-rec-test.true _ _ c.deref.result.now _ _ _
    (c.deref.ensures.value ∙ c.in_ok-text.ensures ∙ ap line c.rec-item.is) (c.loop-rec.invariant source t) (c.in_err-answer.ensures source t) c.from_residual-in_err-answer.ensures.1)

pub loop-rec-preserved : goal.loop-rec-preserved
loop-rec-preserved g c = λ source t.
    let line = selected_line c.args.trail.now.policy c.args.select.now in
    one_more to_out to_out-append line c.items-rec-items.result.now c.loop-rec.rec-index c.rec-item.result c.loop-rec-test.true c.deref.result.now _ _ _
    (c.deref.ensures.value ∙ c.in_ok-text.ensures ∙ ap line c.rec-item.is) (c.loop-rec.invariant source t) (c.in_ok-answer.ensures source t)

pub returns : goal.returns
returns g c = λ source t.
    let line = selected_line c.args.trail.now.policy c.args.select.now in
    all_pieces to_out line c.items-rec-items.result.now c.loop-rec.rec-index c.loop-rec-test.false _ (ap (λ (xs : List ReadRec). to_out (flat_map line xs)) c.items-rec-items.ensures) _ _ (c.loop-rec.invariant source t)
