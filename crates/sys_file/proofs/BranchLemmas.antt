-- Rows that go one of two ways.
use Rattle.std.specs.Prelude.{◌≡◌, Bool, true, false, None, Result, Ok, Err, cond, refl}
use Rattle.std.proofs.Common.{sym, subst, ◌∙◌}
use Rattle.kern_model.specs.declared.calls.Answer.{Answer}
use Rattle.kern_model.specs.Row.{Row}
use Rattle.kern_model.specs.State.{State}
use Rattle.chk_rules.specs.CheckLog.{CheckLog}
use Rattle.chk_rules.specs.RowSteps.{GoesOn}
use Rattle.chk_rules.specs.declared.stop.Stop.{Stop}
use Rattle.sys_lookup.specs.declared.effect.Effect.{Effect}
use Rattle.sys_lookup.specs.PlaysRow.{PlaysRow}

module _ {X : Type 0} {a b : CheckLog} {r : Result X Stop} {is : Bool} where
  pub goes_where : {part : (X → Row) → Row} (other : (X → Row) → Row) → is ≡ true → GoesOn a part r b → GoesOn a (λ rest. cond is (part rest) (other rest)) r b
  goes_where {part = part} other same step = subst (λ c. GoesOn a (λ rest. cond c (part rest) (other rest)) r b) (sym same) step

  pub goes_else : (other : (X → Row) → Row) {part : (X → Row) → Row} → is ≡ false → GoesOn a part r b → GoesOn a (λ rest. cond is (other rest) (part rest)) r b
  goes_else other {part = part} same step = subst (λ c. GoesOn a (λ rest. cond c (other rest) (part rest)) r b) (sym same) step

module _ {s t : State} {a b : CheckLog} {r : Result Effect Stop} {is : Bool} where
  pub plays_where : {row : Row} (other : Row) → is ≡ true → PlaysRow s a row r t b → PlaysRow s a (cond is row other) r t b
  plays_where {row = row} other same plays = subst (λ c. PlaysRow s a (cond c row other) r t b) (sym same) plays

  pub plays_else : (other : Row) {row : Row} → is ≡ false → PlaysRow s a row r t b → PlaysRow s a (cond is other row) r t b
  plays_else other {row = row} same plays = subst (λ c. PlaysRow s a (cond c other row) r t b) (sym same) plays

-- the same with an equal result
pub plays_result : {s t : State} {a b : CheckLog} {row : Row} {r given : Result Effect Stop} → r ≡ given → PlaysRow s a row given t b → PlaysRow s a row r t b
plays_result {s = s} {t = t} {a = a} {b = b} {row = row} same plays = subst (λ x. PlaysRow s a row x t b) (sym same) plays

-- the same in an equal state
pub plays_in : {s u t : State} {a b : CheckLog} {r : Result Effect Stop} (row : State → Row) → u ≡ s → PlaysRow u a (row u) r t b → PlaysRow s a (row s) r t b
plays_in {t = t} {a = a} {b = b} {r = r} row same plays = subst (λ (x : State). PlaysRow x a (row x) r t b) same plays

-- an effect with an equal answer
pub answering : {effect : Effect} {given answer : Answer} → effect ≡ record { answer = given; own = None } → given ≡ answer → effect ≡ record { answer = answer; own = None }
answering is same = is ∙ (λ i. record { answer = same i; own = None })

-- What a condition is that decides whether a result is a value or an error.
module _ {X E : Type 0} {r : Result X E} {x : X} {e : E} where
  pub no_error : (b : Bool) → (b ≡ true → r ≡ Err e) → r ≡ Ok x → b ≡ false
  no_error true fails is = let h = fails refl in absurd (cc)
  no_error false fails is = refl

  pub no_value : (b : Bool) → (b ≡ false → r ≡ Ok x) → r ≡ Err e → b ≡ true
  no_value true gives is = refl
  no_value false gives is = let h = gives refl in absurd (cc)

  pub not_error : (b : Bool) → (b ≡ false → r ≡ Err e) → r ≡ Ok x → b ≡ true
  not_error true fails is = refl
  not_error false fails is = let h = fails refl in absurd (cc)

  pub not_value : (b : Bool) → (b ≡ true → r ≡ Ok x) → r ≡ Err e → b ≡ false
  not_value true gives is = let h = gives refl in absurd (cc)
  not_value false gives is = refl
