-- What is reported of the body of a call.
use Rattle.std.specs.Prelude.{◌≡◌, Bool, List, [], ◌∷◌, ◌++◌, Result, Ok, Err, cond}
use Rattle.std.specs.Option.{option_to_list}
use Rattle.kern_model.specs.declared.calls.CallName.{CallName}
use Rattle.kern_model.specs.declared.calls.Reply.{Reply}
use Rattle.kern_model.specs.declared.calls.Reply.TheVariants as reply
use Rattle.kern_model.specs.declared.numbers.Pid.{Pid}
use Rattle.kern_model.specs.declared.records.Outcome.{Outcome}
use Rattle.kern_model.specs.declared.records.Rec.{Rec}
use Rattle.kern_model.specs.declared.records.Rec.TheVariants as rec
use Rattle.kern_model.specs.Rules.{denial_of}
use Rattle.chk_rules.specs.CheckLog.{CheckLog}
use Rattle.chk_rules.specs.declared.stop.Stop.{Stop}
use Rattle.chk_rules.specs.declared.stop.Stop.TheVariants as stop
use Rattle.sys_lookup.specs.declared.effect.Effect.{Effect}

-- an outcome is this reply with these records
pub record Reports (o : Outcome) (r : Reply) (rs : List Rec) : Type 0 where
  pub reply : o.reply ≡ r
  pub recs : o.recs ≡ rs

-- the outcome of a call whose body gave this result: the exercises come first; there is no outcome where memory ran out
abbrev pub OutcomeOf : CheckLog → Pid → Bool → CallName → Result Effect Stop → Outcome → Type 0
OutcomeOf log who audited name (Ok effect) o = Reports o (reply.Done effect.answer) (log.used ++ option_to_list effect.own)
OutcomeOf log who audited name (Err (stop.Denied check place)) o = Reports o (reply.Denied (denial_of check) check place) (log.used ++ cond audited (rec.Deny who name (denial_of check) check place ∷ []) [])
OutcomeOf log who audited name (Err (stop.Refused e)) o = Reports o (reply.Refused e) log.used
OutcomeOf log who audited name (Err (stop.NoMemory m)) o = ⊥
