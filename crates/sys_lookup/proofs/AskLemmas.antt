-- Checks that are made only where they are asked for.
use Rattle.std.specs.Prelude.{◌≡◌, ⊤, Bool, true, false, Result, Ok, refl}
use Rattle.std.proofs.Common.{sym, subst}
use Rattle.kern_model.specs.declared.checks.Check.{Check}
use Rattle.kern_model.specs.Row.{Row, Need, need_if}
use Rattle.chk_rules.specs.CheckLog.{CheckLog}
use Rattle.chk_rules.specs.RowSteps.{GoesOn}
use Rattle.chk_rules.specs.declared.stop.Stop.{Stop}
use Rattle.chk_rules.proofs.Steps.{gives}

asked_for : (a b : CheckLog) (check : Check) (r : Result ⊤ Stop) → GoesOn a (λ (rest : ⊤ → Row). Need check (rest tt)) r b → GoesOn a (λ (rest : ⊤ → Row). need_if true check (rest tt)) r b
unfolding need_if
asked_for a b check r step = step

left_out : (a : CheckLog) (check : Check) → GoesOn a (λ (rest : ⊤ → Row). need_if false check (rest tt)) (Ok tt) a
unfolding need_if
left_out a check = gives refl

-- a check that is asked for is made
pub asked : {a b : CheckLog} {check : Check} {r : Result ⊤ Stop} {is : Bool} → is ≡ true → GoesOn a (λ (rest : ⊤ → Row). Need check (rest tt)) r b → GoesOn a (λ (rest : ⊤ → Row). need_if is check (rest tt)) r b
asked {a = a} {b = b} {check = check} {r = r} same step = subst (λ x. GoesOn a (λ (rest : ⊤ → Row). need_if x check (rest tt)) r b) (sym same) (asked_for a b check r step)

-- the same of an equal check, that is asked for alike
pub equal_asked : {a b : CheckLog} {r : Result ⊤ Stop} {x y : Bool} {check check' : Check} → x ≡ y → check ≡ check' → GoesOn a (λ (rest : ⊤ → Row). need_if x check (rest tt)) r b → GoesOn a (λ (rest : ⊤ → Row). need_if y check' (rest tt)) r b
equal_asked {a} {b} {r} {y = y} {check = check} same alike step =
    subst (λ (c : Check). GoesOn a (λ (rest : ⊤ → Row). need_if y c (rest tt)) r b) alike (subst (λ (z : Bool). GoesOn a (λ (rest : ⊤ → Row). need_if z check (rest tt)) r b) same step)

-- and where it is not the row goes on
pub not_asked : (a : CheckLog) (check : Check) {is : Bool} → is ≡ false → GoesOn a (λ (rest : ⊤ → Row). need_if is check (rest tt)) (Ok tt) a
not_asked a check same = subst (λ x. GoesOn a (λ (rest : ⊤ → Row). need_if x check (rest tt)) (Ok tt) a) (sym same) (left_out a check)
