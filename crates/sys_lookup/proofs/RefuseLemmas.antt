-- Refusals whose condition is known.
use Rattle.std.specs.Prelude.{◌≡◌, ⊤, Bool, true, false, Option, None, Some, Ok, Err, refl}
use Rattle.std.proofs.Common.{sym, subst}
use Rattle.kern_model.specs.declared.calls.Errno.{Errno}
use Rattle.kern_model.specs.declared.calls.Errno.TheVariants.{EBADF}
use Rattle.kern_model.specs.Descriptors.{Opened}
use Rattle.kern_model.specs.FileRows.{or_not_open}
use Rattle.kern_model.specs.Row.{Row, Refuse, judge}
use Rattle.chk_rules.specs.CheckLog.{CheckLog}
use Rattle.chk_rules.specs.RowSteps.{EndsBy, GoesOn}
use Rattle.chk_rules.specs.declared.stop.Stop.TheVariants as stop
use Rattle.chk_rules.proofs.Steps.{gives}

goes_past : (log : CheckLog) (errno : Errno) → GoesOn log (λ (rest : ⊤ → Row). Refuse errno false (rest tt)) (Ok tt) log
unfolding judge
goes_past log errno = record { continues = λ rest. refl; stops = tt; subject = refl }

stops_by : (log : CheckLog) (errno : Errno) → GoesOn {X = ⊤} log (λ (rest : ⊤ → Row). Refuse errno true (rest tt)) (Err (stop.Refused errno)) log
unfolding judge EndsBy
stops_by log errno = record { continues = tt; stops = λ rest. refl; subject = refl }

-- a refusal whose condition does not hold lets the row go on
pub lets_on : {log : CheckLog} {errno : Errno} {holds : Bool} → holds ≡ false → GoesOn log (λ (rest : ⊤ → Row). Refuse errno holds (rest tt)) (Ok tt) log
lets_on {log = log} {errno = errno} is = subst (λ h. GoesOn log (λ (rest : ⊤ → Row). Refuse errno h (rest tt)) (Ok tt) log) (sym is) (goes_past log errno)

-- a refusal whose condition holds stops the row
pub refuses : {log : CheckLog} {errno : Errno} {holds : Bool} → holds ≡ true → GoesOn {X = ⊤} log (λ (rest : ⊤ → Row). Refuse errno holds (rest tt)) (Err (stop.Refused errno)) log
refuses {log = log} {errno = errno} is = subst (λ h. GoesOn {X = ⊤} log (λ (rest : ⊤ → Row). Refuse errno h (rest tt)) (Err (stop.Refused errno)) log) (sym is) (stops_by log errno)

-- a descriptor that is open lets the row go on with what it refers to
pub is_open : (log : CheckLog) {w : Option Opened} {f : Opened} → w ≡ Some f → GoesOn log (or_not_open w) (Ok f) log
is_open log {f = f} is = subst (λ w. GoesOn log (or_not_open w) (Ok f) log) (sym is) (gives refl)

stops_not_open : (log : CheckLog) → GoesOn log (or_not_open None) (Err (stop.Refused EBADF)) log
unfolding judge EndsBy
stops_not_open log = record { continues = tt; stops = λ rest. refl; subject = refl }

-- and one that is not stops it
pub not_open : (log : CheckLog) {w : Option Opened} → w ≡ None → GoesOn log (or_not_open w) (Err (stop.Refused EBADF)) log
not_open log is = subst (λ w. GoesOn log (or_not_open w) (Err (stop.Refused EBADF)) log) (sym is) (stops_not_open log)
