use Rattle.std.proofs.Common.{◌≡◌, ℕ, List, Result, Ok, Err, take, ap, subst, ◌∙◌}
use Rattle.std.specs.Prelude.{IfOk}
use Rattle.aud_record.proofs.HeaderLaws.{header_round_trip, header_is}
use Rattle.aud_record.specs.Header.{is_no_memory, parse_header}
use Rattle.aud_record.specs.Results.{AnswersAs}
use Rattle.aud_record.specs.Written.{header_text}
use Rattle.aud_record.specs.declared.header.Header.{Header}
use Rattle.aud_record.specs.declared.header.HeaderError.{HeaderError}
use Rattle.aud_record.proofs.header.header_read.Goals as goal

is_found : (text : List ℕ) (r : Result Header HeaderError) → AnswersAs is_no_memory (λ header. header) r (parse_header text) → IfOk r (λ header. take header.used text ≡ header_text header.policy header.bound)
is_found text (Ok header) parsed = (header_is text header parsed).prefix
is_found text (Err e) parsed = tt

pub returns-clause-found : goal.returns-clause-found
returns-clause-found c = is_found c.args.text.now c.first_header.result c.first_header.ensures.parsed

pub returns-clause-only : goal.returns-clause-only
returns-clause-only c = λ policy bound rest makes begins. subst (AnswersAs is_no_memory (λ header. header) c.first_header.result) (ap parse_header begins ∙ header_round_trip policy bound rest makes) c.first_header.ensures.parsed
