use Rattle.std.proofs.Common.{◌≡◌, ◌++◌, List, ℕ, sym, ◌∙◌, ap}
use Rattle.std.specs.List.{flat_map}
use Rattle.aud_record.specs.Written.{header_text, rec_text}
use Rattle.lab_engine.specs.Order.{to_trail}
use Rattle.lab_engine.proofs.Sending.{goes_on, in_order, out_of_memory, stops, to_trail-append}
use Rattle.lab_engine.proofs.reporter.write_head.Goals as goal

-- the header, and then the records
header_first : (text header recs : List ℕ) → text ≡ header → to_trail text ++ to_trail recs ≡ to_trail (header ++ recs)
header_first text header recs is = ap (λ (b : List ℕ). to_trail b ++ to_trail recs) is ∙ sym (to_trail-append header recs)

pub returns-in_err-text-clause-writes : goal.returns-in_err-text-clause-writes
returns-in_err-text-clause-writes g c = λ source out. out_of_memory _ _ _ c.from_residual.ensures.1

pub returns-in_err-note-clause-writes : goal.returns-in_err-note-clause-writes
returns-in_err-note-clause-writes g c = λ source out. in_order _ _ _ _ _
    (header_first c.deref.result.now (header_text c.args.texts.policy.now c.args.bound.now) (flat_map (rec_text c.args.texts.policy.now 0) c.args.recs.now) (c.deref.ensures.value ∙ c.in_ok-text.ensures))
    (stops _ _ _ _ _ _ (c.in_err-note.ensures source out) c.from_residual-in_err-note.ensures.1)

pub returns-clause-writes : goal.returns-clause-writes
returns-clause-writes g c = λ source out. in_order c.note_all.result _ _ _ _
    (header_first c.deref.result.now (header_text c.args.texts.policy.now c.args.bound.now) (flat_map (rec_text c.args.texts.policy.now 0) c.args.recs.now) (c.deref.ensures.value ∙ c.in_ok-text.ensures))
    (goes_on c.note_all.result _ _ _ _ _ (c.in_ok-note.ensures source out) (c.note_all.ensures.writes source out))
