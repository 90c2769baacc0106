-- A refusal, and what goes on with a value behind it.
use Rattle.std.specs.Prelude.{◌≡◌, Bool, true, false, Result, Ok, Err, refl}
use Rattle.std.proofs.Common.{sym, subst}
use Rattle.kern_model.specs.declared.calls.Errno.{Errno}
use Rattle.kern_model.specs.Row.{Row, Refuse, judge}
use Rattle.chk_rules.specs.CheckLog.{CheckLog}
use Rattle.chk_rules.specs.RowSteps.{EndsBy, GoesOn}
use Rattle.chk_rules.specs.declared.stop.Stop.{Stop}
use Rattle.chk_rules.specs.declared.stop.Stop.TheVariants as stop

-- a value behind a refusal under a condition
abbrev pub behind : {X : Type 0} → Errno → Bool → X → (X → Row) → Row
behind e holds x rest = Refuse e holds (rest x)

refuses : {X : Type 0} (log : CheckLog) (e : Errno) (x : X) → GoesOn log (behind e true x) (Err (stop.Refused e)) log
unfolding judge EndsBy
refuses log e x = record { continues = tt; stops = λ rest. refl; subject = refl }

goes_past : {X : Type 0} (log : CheckLog) (e : Errno) (x : X) → GoesOn log (behind e false x) (Ok x) log
unfolding judge
goes_past log e x = record { continues = λ rest. refl; stops = tt; subject = refl }

-- a refusal under an equal condition is the same step
pub equal_behind : {X : Type 0} {log after : CheckLog} {e : Errno} {x : X} {h h' : Bool} {r : Result X Stop} → h ≡ h' → GoesOn log (behind e h x) r after → GoesOn log (behind e h' x) r after
equal_behind {log = log} {after = after} {e = e} {x = x} {r = r} same step = subst (λ b. GoesOn log (behind e b x) r after) same step

-- where the condition holds the call is refused
pub refuses_there : {X : Type 0} (log : CheckLog) (e : Errno) (x : X) (holds : Bool) → holds ≡ true → GoesOn log (behind e holds x) (Err (stop.Refused e)) log
refuses_there log e x holds is = subst (λ b. GoesOn log (behind e b x) (Err (stop.Refused e)) log) (sym is) (refuses log e x)

-- and else the row goes on with the value
pub goes_on_with : {X : Type 0} (log : CheckLog) (e : Errno) (x y : X) (holds : Bool) → x ≡ y → holds ≡ false → GoesOn log (behind e holds x) (Ok y) log
goes_on_with log e x y holds same is = subst (λ z. GoesOn log (behind e holds x) (Ok z) log) same (subst (λ b. GoesOn log (behind e b x) (Ok x) log) (sym is) (goes_past log e x))
