use Rattle.std.proofs.Common.{ℕ, take}
use Rattle.std.specs.List.{flat_map}
use Rattle.io_ends.specs.Ends.{SinkView}
use Rattle.aud_record.specs.Written.{rec_text}
use Rattle.lab_engine.specs.Readable.{AreReadable}
use Rattle.lab_engine.specs.Order.{to_trail}
use Rattle.lab_engine.specs.Playing.{SendsAll, ends}
use Rattle.lab_engine.proofs.reporter.note_all.Given as goal

abbrev pub invariant-loop-rec : goal.invariant-loop-rec
invariant-loop-rec g l =
    let policy = l.texts.policy.now in
    record {
      written : (source : ℕ) (out : SinkView) → SendsAll (to_trail (flat_map (rec_text policy l.call) (take l.rec-index l.recs))) (ends source out (g.T.Sink.view l.initial.trail)) (ends source out (g.T.Sink.view l.trail));
      readable : AreReadable policy l.call (take l.rec-index l.recs);
    }
