-- Steps along a row, one after the other.
use Rattle.std.specs.Prelude.{◌≡◌, ⊤, Bool, Result, Ok, Err, refl}
use Rattle.std.specs.Result.{IsErrAnd}
use Rattle.std.proofs.Common.{ap, sym, ◌∙◌, subst}
use Rattle.kern_model.specs.declared.calls.Errno.{Errno}
use Rattle.kern_model.specs.declared.checks.Check.{Check}
use Rattle.kern_model.specs.Row.{Row, Need, Refuse, CheckOutcome}
use Rattle.chk_rules.specs.CheckLog.{CheckLog, judge_from}
use Rattle.chk_rules.specs.RowSteps.{EndsBy, GoesOn}
use Rattle.chk_rules.specs.declared.stop.Stop.{Stop}

-- a row ends as an equal row does
pub ends_over : {i j : CheckOutcome} (after : CheckLog) (how : Stop) → i ≡ j → EndsBy j after how → EndsBy i after how
ends_over after how e h = subst (λ k. EndsBy k after how) (sym e) h

module _ {X Y : Type 0} {a b : CheckLog} {part : (X → Row) → Row} where
  -- where a step goes on, the next step is made after it
  pub then_goes : {c : CheckLog} {x : X} {next : X → (Y → Row) → Row} {r : Result Y Stop} → GoesOn a part (Ok x) b → GoesOn b (next x) r c → GoesOn a (λ rest. part (λ y. next y rest)) r c
  then_goes {c = c} {x = x} {next = next} {r = Ok y} first second = record {
    continues = λ rest. first.continues (λ z. next z rest) ∙ second.continues rest;
    stops = tt;
    subject = second.subject ∙ first.subject;
  }
  then_goes {c = c} {x = x} {next = next} {r = Err how} first second = record {
    continues = tt;
    stops = λ rest. ends_over c how (first.continues (λ z. next z rest)) (second.stops rest);
    subject = second.subject ∙ first.subject;
  }

  -- where a step stops, the body stops
  pub stops_there : {next : X → (Y → Row) → Row} {how : Stop} (r : Result Y Stop) → IsErrAnd r (λ e. e ≡ how) → GoesOn a part (Err how) b → GoesOn a (λ rest. part (λ y. next y rest)) r b
  stops_there {next = next} (Ok y) is step = absurd is
  stops_there {next = next} {how = how} (Err e) is step = record {
    continues = tt;
    stops = λ rest. subst (EndsBy _ b) (sym is) (step.stops (λ z. next z rest));
    subject = step.subject;
  }

-- a step that judges nothing returns its value
pub gives : {X : Type 0} {a : CheckLog} {x y : X} → x ≡ y → GoesOn a (λ (rest : X → Row). rest y) (Ok x) a
gives {a = a} is = record { continues = λ rest. ap (λ z. judge_from a (rest z)) (sym is); stops = tt; subject = refl }

-- An item of a row, as `Need check` or `Refuse errno holds`, is a step with one value.
module _ {X Y : Type 0} {a b : CheckLog} (item : Row → Row) {y : X} where
  -- where the item lets the row go on, the next step is made after it
  pub item_goes : {c : CheckLog} {x : X} {part : (Y → Row) → Row} {r : Result Y Stop} → GoesOn a (λ (rest : X → Row). item (rest y)) (Ok x) b → GoesOn b part r c → GoesOn a (λ rest. item (part rest)) r c
  item_goes {part = part} first second = then_goes {next = λ _ rest. part rest} first second

  -- where the item stops the row, the body stops
  pub item_stops : {part : (Y → Row) → Row} {how : Stop} (r : Result Y Stop) → IsErrAnd r (λ e. e ≡ how) → GoesOn a (λ (rest : X → Row). item (rest y)) (Err how) b → GoesOn a (λ rest. item (part rest)) r b
  item_stops {part = part} r is step = stops_there {next = λ _ rest. part rest} r is step

module _ {X Y : Type 0} {a b : CheckLog} {check : Check} {y : X} where
  pub need_goes : {c : CheckLog} {x : X} {part : (Y → Row) → Row} {r : Result Y Stop} → GoesOn a (λ (rest : X → Row). Need check (rest y)) (Ok x) b → GoesOn b part r c → GoesOn a (λ rest. Need check (part rest)) r c
  need_goes first second = item_goes (Need check) first second

  pub need_stops : {part : (Y → Row) → Row} {how : Stop} (r : Result Y Stop) → IsErrAnd r (λ e. e ≡ how) → GoesOn a (λ (rest : X → Row). Need check (rest y)) (Err how) b → GoesOn a (λ rest. Need check (part rest)) r b
  need_stops r is step = item_stops (Need check) r is step

module _ {X Y : Type 0} {a b : CheckLog} {errno : Errno} {holds : Bool} {y : X} where
  pub refuse_goes : {c : CheckLog} {x : X} {part : (Y → Row) → Row} {r : Result Y Stop} → GoesOn a (λ (rest : X → Row). Refuse errno holds (rest y)) (Ok x) b → GoesOn b part r c → GoesOn a (λ rest. Refuse errno holds (part rest)) r c
  refuse_goes first second = item_goes (Refuse errno holds) first second

  pub refuse_stops : {part : (Y → Row) → Row} {how : Stop} (r : Result Y Stop) → IsErrAnd r (λ e. e ≡ how) → GoesOn a (λ (rest : X → Row). Refuse errno holds (rest y)) (Err how) b → GoesOn a (λ rest. Refuse errno holds (part rest)) r b
  refuse_stops r is step = item_stops (Refuse errno holds) r is step

module _ {a b : CheckLog} {r : Result ⊤ Stop} where
  -- a refusal under an equal condition is the same step
  pub equal_refusal : {e : Errno} {h h' : Bool} → h ≡ h' → GoesOn a (λ (rest : ⊤ → Row). Refuse e h (rest tt)) r b → GoesOn a (λ (rest : ⊤ → Row). Refuse e h' (rest tt)) r b
  equal_refusal {e = e} same step = subst (λ x. GoesOn a (λ (rest : ⊤ → Row). Refuse e x (rest tt)) r b) same step

  -- an equal check is the same step
  pub equal_check : {c c' : Check} → c ≡ c' → GoesOn a (λ (rest : ⊤ → Row). Need c (rest tt)) r b → GoesOn a (λ (rest : ⊤ → Row). Need c' (rest tt)) r b
  equal_check same step = subst (λ x. GoesOn a (λ (rest : ⊤ → Row). Need x (rest tt)) r b) same step
