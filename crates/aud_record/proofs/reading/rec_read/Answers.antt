use Rattle.std.proofs.Common.{ℕ, List, Result, Ok, Err, ap, subst, ◌∙◌}
use Rattle.std.specs.Prelude.{IfOk}
use Rattle.lab_text.specs.Policy.{PolicyNames}
use Rattle.aud_record.proofs.RoundTrip.{rec_round_trip, rec_is}
use Rattle.aud_record.proofs.FitLemmas.{fits_from, labels_from}
use Rattle.aud_record.specs.Parsed.{BeginsWithRec, is_no_memory, parse_rec}
use Rattle.aud_record.specs.Results.{AnswersAs}
use Rattle.aud_record.specs.declared.reading.ReadRec.{ReadRec}
use Rattle.aud_record.specs.declared.reading.RecError.{RecError}
use Rattle.aud_record.proofs.reading.rec_read.Goals as goal

is_found : (p : PolicyNames) (text : List ℕ) (r : Result ReadRec RecError) → AnswersAs is_no_memory (λ read. read) r (parse_rec p text) → IfOk r (BeginsWithRec p text)
is_found p text (Ok read) parsed = let is = rec_is p text read parsed in (is.prefix, labels_from p read.rec is.fit)
is_found p text (Err e) parsed = tt

pub returns-clause-found : goal.returns-clause-found
returns-clause-found c = is_found c.args.policy.now c.args.text.now c.first_record.result c.first_record.ensures.parsed

pub returns-clause-only : goal.returns-clause-only
returns-clause-only c = λ call r rest valid range begins.
    subst (AnswersAs is_no_memory (λ read. read) c.first_record.result) (ap (parse_rec c.args.policy.now) begins ∙ rec_round_trip c.args.policy.now call r rest c.levels-names.ensures.policy range.call_is (fits_from c.args.policy.now call r valid range)) c.first_record.ensures.parsed
