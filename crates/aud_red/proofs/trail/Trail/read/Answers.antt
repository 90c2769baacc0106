use Rattle.std.proofs.Common.{ℕ, List, Result, Ok, Err, subst}
use Rattle.std.specs.Prelude.{IfOk}
use Rattle.aud_record.specs.Results.{AnswersAs}
use Rattle.aud_red.proofs.TrailLemmas.{trail_is, trail_round_trip}
use Rattle.aud_red.specs.Trail.{IsTextOf, is_no_memory, parse_trail}
use Rattle.aud_red.specs.declared.trail.Trail.{Trail}
use Rattle.aud_red.specs.declared.trail.TrailError.{TrailError}
use Rattle.aud_red.proofs.trail.Trail.read.Goals as goal

is_found : (text : List ℕ) (r : Result Trail TrailError) → AnswersAs is_no_memory (λ trail. trail) r (parse_trail text) → IfOk r (IsTextOf text)
is_found text (Ok trail) parsed = trail_is text trail parsed
is_found text (Err e) parsed = tt

pub returns-clause-found : goal.returns-clause-found
returns-clause-found c = is_found c.args.text.now c.whole_trail.result c.whole_trail.ensures

pub returns-clause-only : goal.returns-clause-only
returns-clause-only c = λ trail is ranges. subst (AnswersAs is_no_memory (λ trail. trail) c.whole_trail.result) (trail_round_trip c.args.text.now trail is ranges) c.whole_trail.ensures
