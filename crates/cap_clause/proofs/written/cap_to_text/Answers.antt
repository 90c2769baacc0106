use Rattle.std.proofs.Common.{◌++◌, ◌∙◌, ap, List, ℕ}
use Rattle.cap_clause.specs.Parsed.{parse_caps}
use Rattle.cap_clause.specs.Written.{caps_text}
use Rattle.cap_clause.proofs.WrittenRoundTrip.{caps_round_trip}
use Rattle.cap_clause.proofs.written.cap_to_text.Goals as goal

pub returns-clause-round_trip : goal.returns-clause-round_trip
returns-clause-round_trip c = ap parse_caps (c.in_ok-put_caps.ensures ∙ ap (λ (t : List ℕ). t ++ caps_text c.args.state.now) c.in_ok-text.ensures.items) ∙ caps_round_trip c.args.state.now
