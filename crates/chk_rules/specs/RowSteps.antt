-- How the body of a call goes along its row, step by step.
use Rattle.std.specs.Prelude.{◌≡◌, Result}
use Rattle.std.specs.Result.{IfOk, IfErr}
use Rattle.kern_model.specs.Row.{Row, CheckOutcome, Stopped, Refused, check_outcome}
use Rattle.chk_rules.specs.CheckLog.{CheckLog, judge_from}
use Rattle.chk_rules.specs.declared.stop.Stop.{Stop}
use Rattle.chk_rules.specs.declared.stop.Stop.TheVariants as stop

-- a row ends as the body stops, with the exercises of `after`; nothing is claimed where memory ran out
unfoldable pub EndsBy : CheckOutcome → CheckLog → Stop → Type 0
EndsBy j after (stop.Denied name place) = j ≡ check_outcome after.used (Stopped name place)
EndsBy j after (stop.Refused e) = j ≡ check_outcome after.used (Refused e)
EndsBy j after (stop.NoMemory m) = Unit {0}

-- A step of a body goes through the first part of a row, whatever the rest is: with a value the rest goes on from it, and with a stop
-- the row ends there.
pub record GoesOn {X : Type 0} (before : CheckLog) (part : (X → Row) → Row) (step : Result X Stop) (after : CheckLog) : Type 0 where
  pub continues : IfOk step (λ x. (rest : X → Row) → judge_from before (part rest) ≡ judge_from after (rest x))
  pub stops : IfErr step (λ how. (rest : X → Row) → EndsBy (judge_from before (part rest)) after how)
  pub subject : after.subject ≡ before.subject
