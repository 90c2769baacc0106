-- An order that is written piece by piece.
use Rattle.std.proofs.Common.{◌≡◌, List, [], ◌++◌, refl, sym, ◌∙◌, ap, subst, append_assoc}
use Rattle.std.proofs.lemmas.List.{append-nil}
use Rattle.std.specs.Prelude.{Result, IsErrAnd}
use Rattle.lab_engine.specs.declared.ending.Fault.{Fault}
use Rattle.lab_engine.specs.Order.{Sent}
use Rattle.lab_engine.specs.Playing.{Ends, SendsAll, StopsBy, Writes}
use Rattle.lab_engine.proofs.Sending.{all_nothing, all_more, stops, goes_on, in_order}

-- some bytes were written, and with the rest they are the whole order
pub record Underway (before now : Ends) (whole rest : List Sent) : Type 0 where
  pub sent : List Sent
  pub sends : SendsAll sent before now
  pub order : sent ++ rest ≡ whole

-- nothing was written yet
pub underway_begins : (e : Ends) (whole : List Sent) → Underway e e whole whole
underway_begins e whole = record { sent = []; sends = all_nothing e; order = refl }

module _ (before now : Ends) (whole rest : List Sent) (u : Underway before now whole rest) where
  -- the rest is written
  pub underway_writes : {T : Type 0} (r : Result T Fault) (after : Ends) → Writes r rest now after → Writes r whole before after
  underway_writes r after w = in_order r _ _ before after u.order (goes_on r u.sent rest before now after u.sends w)

  -- nothing is left
  pub underway_ends : rest ≡ [] → SendsAll whole before now
  underway_ends none = subst (λ (o : List Sent). SendsAll o before now) (sym (append-nil u.sent) ∙ sym (ap (λ (o : List Sent). u.sent ++ o) none) ∙ u.order) u.sends

  module _ (first more : List Sent) (goes : rest ≡ first ++ more) where
    -- a fault cut off the first part of the rest
    pub underway_stops : {T : Type 0} (r : Result T Fault) (fault : Fault) (after : Ends) → StopsBy fault first now after → IsErrAnd r (λ q. q ≡ fault) → Writes r whole before after
    underway_stops r fault after w by = underway_writes r after (in_order r _ _ now after (sym goes) (stops r fault first more now after w by))

    -- the first part of the rest was written
    pub underway_more : (after : Ends) → SendsAll first now after → Underway before after whole more
    underway_more after w = record {
      sent = u.sent ++ first;
      sends = all_more u.sent first before now after u.sends w;
      order = append_assoc u.sent first more ∙ ap (λ (o : List Sent). u.sent ++ o) (sym goes) ∙ u.order;
    }
