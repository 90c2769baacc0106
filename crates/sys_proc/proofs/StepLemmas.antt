-- A soft check, and another check where it is denied.
use Rattle.std.specs.Prelude.{◌≡◌, ⊤, Bool, true, false, Result, Ok, Err, refl}
use Rattle.std.specs.Result.{IsErrAnd}
use Rattle.std.proofs.Common.{sym, subst}
use Rattle.kern_model.specs.declared.checks.Check.{Check}
use Rattle.kern_model.specs.ProcessRows.{asks_ids, or_effective}
use Rattle.kern_model.specs.Row.{Row, Need, Soft}
use Rattle.chk_rules.specs.CheckLog.{CheckLog}
use Rattle.chk_rules.specs.RowSteps.{GoesOn}
use Rattle.chk_rules.specs.declared.stop.Stop.{Stop}
use Rattle.chk_rules.proofs.Steps.{then_goes, stops_there, need_goes, need_stops, gives}

module _ {a b : CheckLog} {given all one : Check} (same : given ≡ all) where
  -- the soft check stops the body
  pub soft_stops : {how : Stop} (r : Result Bool Stop) → IsErrAnd r (λ e. e ≡ how)
      → GoesOn a (λ (rest : Bool → Row). Soft given (rest true) (rest false)) (Err how) b → GoesOn a (asks_ids all one) r b
  soft_stops {how = how} r is step =
      stops_there {next = or_effective one} r is (subst (λ check. GoesOn a (λ (rest : Bool → Row). Soft check (rest true) (rest false)) (Err how) b) same step)

  module _ {granted : Bool} (step : GoesOn a (λ (rest : Bool → Row). Soft given (rest true) (rest false)) (Ok granted) b) where
    -- the body after the soft check
    after_soft : {c : CheckLog} {r : Result Bool Stop} → GoesOn b (or_effective one granted) r c → GoesOn a (asks_ids all one) r c
    after_soft rest =
        then_goes {next = or_effective one} (subst (λ check. GoesOn a (λ (rest : Bool → Row). Soft check (rest true) (rest false)) (Ok granted) b) same step) rest

    -- the soft check is granted
    pub soft_granted : granted ≡ true → GoesOn a (asks_ids all one) (Ok granted) b
    soft_granted is = after_soft (subst (λ g. GoesOn b (or_effective one g) (Ok g) b) (sym is) (gives refl))

    -- it is denied, and the other check stops the body
    pub else_stops : {c : CheckLog} {how : Stop} (r : Result Bool Stop) → IsErrAnd r (λ e. e ≡ how) → granted ≡ false
        → GoesOn b (λ (rest : ⊤ → Row). Need one (rest tt)) (Err how) c → GoesOn a (asks_ids all one) r c
    else_stops {c = c} r is denied check =
        after_soft (subst (λ g. GoesOn b (or_effective one g) r c) (sym denied) (need_stops {part = λ rest. rest false} r is check))

    -- it is denied, and the other check lets the body go on
    pub else_goes : {c : CheckLog} → granted ≡ false → GoesOn b (λ (rest : ⊤ → Row). Need one (rest tt)) (Ok tt) c → GoesOn a (asks_ids all one) (Ok granted) c
    else_goes {c = c} denied check =
        after_soft (subst (λ g. GoesOn b (or_effective one g) (Ok g) c) (sym denied) (need_goes {part = λ rest. rest false} check (gives refl)))
