use Rattle.std.proofs.Common.{◌∙◌, ap, refl}
use Rattle.aud_record.specs.Written.{rec_text}
use Rattle.lab_engine.specs.Order.{to_trail}
use Rattle.lab_engine.proofs.ReadableLemmas.{readable_all, readable_more, readable_written}
use Rattle.lab_engine.proofs.Sending.{all_nothing, all_pieces, one_more, piece_stops, piece_has_no_memory, to_trail-append}
use Rattle.lab_engine.proofs.reporter.note_all.Goals as goal

pub loop-rec-init : goal.loop-rec-init
unfolding to_trail
loop-rec-init g c = record { written = λ source out. all_nothing _; readable = tt }

pub returns-in_err-buffer-clause-writes : goal.returns-in_err-buffer-clause-writes
returns-in_err-buffer-clause-writes g c = λ source out. piece_has_no_memory to_trail to_trail-append (rec_text c.args.texts.policy.now c.args.call) c.args.recs.now c.loop-rec.rec-index c.rec-item.result c.loop-rec-test.true
    _ _ _ (c.loop-rec.invariant.written source out) c.from_residual.ensures.1

pub returns-in_err-note-clause-writes : goal.returns-in_err-note-clause-writes
returns-in_err-note-clause-writes g c = λ source out. piece_stops to_trail to_trail-append (rec_text c.args.texts.policy.now c.args.call) c.args.recs.now c.loop-rec.rec-index c.rec-item.result c.loop-rec-test.true
    _ _ c.deref.result.now _ _ _
    (c.deref.ensures.value ∙ c.in_ok-buffer.ensures.text ∙ ap (rec_text c.args.texts.policy.now c.args.call) c.rec-item.is)
    (c.loop-rec.invariant.written source out) (c.in_err-note.ensures source out) c.from_residual-in_err-note.ensures.1

pub loop-rec-preserved : goal.loop-rec-preserved
loop-rec-preserved g c =
    let policy = c.args.texts.policy.now in
    let i = c.loop-rec.invariant in
    record {
      written = λ source out. one_more to_trail to_trail-append (rec_text policy c.args.call) c.args.recs.now c.loop-rec.rec-index c.rec-item.result c.loop-rec-test.true
          c.deref.result.now _ _ _
          (c.deref.ensures.value ∙ c.in_ok-buffer.ensures.text ∙ ap (rec_text policy c.args.call) c.rec-item.is)
          (i.written source out) (c.in_ok-note.ensures source out);
      readable = readable_more policy c.args.call c.args.recs.now c.loop-rec.rec-index c.rec-item.result c.loop-rec-test.true i.readable
          (readable_written policy c.args.call _ _ _ c.rec-item.is c.in_ok-buffer.ensures.text c.in_ok-buffer.ensures.round_trip);
    }

pub returns-clause-writes : goal.returns-clause-writes
returns-clause-writes g c = λ source out. all_pieces to_trail (rec_text c.args.texts.policy.now c.args.call) c.args.recs.now c.loop-rec.rec-index c.loop-rec-test.false _ refl _ _ (c.loop-rec.invariant.written source out)

pub returns-clause-readable : goal.returns-clause-readable
returns-clause-readable g c = readable_all c.args.texts.policy.now c.args.call c.args.recs.now c.loop-rec.rec-index c.loop-rec-test.false c.loop-rec.invariant.readable
