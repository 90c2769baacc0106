use Rattle.std.proofs.Common.{◌++◌, ◌∙◌, ap, List, ℕ}
use Rattle.cap_clause.specs.Parsed.{parse_set}
use Rattle.cap_clause.specs.Written.{set_text}
use Rattle.cap_clause.proofs.WrittenRoundTrip.{set_round_trip}
use Rattle.cap_clause.proofs.written.set_to_text.Goals as goal

pub returns-clause-round_trip : goal.returns-clause-round_trip
returns-clause-round_trip c = ap parse_set (c.in_ok-put_set.ensures ∙ ap (λ (t : List ℕ). t ++ set_text c.args.set.now) c.new-text.ensures.items) ∙ set_round_trip c.args.set.now
