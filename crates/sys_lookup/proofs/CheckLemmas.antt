-- Checks that were passed.
use Rattle.std.specs.Prelude.{◌≡◌, ⊤, Bool, true, false, None, [], Result, Ok, Err, OnOk, cond, refl}
use Rattle.std.proofs.Common.{ap, sym, ◌∙◌}
use Rattle.kern_model.specs.declared.calls.Answer.TheVariants.{Nothing}
use Rattle.kern_model.specs.declared.calls.Errno.{Errno}
use Rattle.kern_model.specs.declared.calls.Errno.TheVariants.{EPERM}
use Rattle.kern_model.specs.declared.checks.Check.{Check}
use Rattle.kern_model.specs.declared.checks.Verdict.TheVariants.{Passed, Exercised, Denied}
use Rattle.kern_model.specs.Row.{Row, Need, Refuse, Commit, Subject, Fail, Stopped, Refused, Done, judge, may, verdict_of}
use Rattle.kern_model.specs.Rules.{cap_of}
use Rattle.kern_model.proofs.RowLemmas.{judge-stop, judge-fail}
use Rattle.chk_rules.specs.CheckLog.{CheckLog}
use Rattle.chk_rules.specs.RowSteps.{GoesOn}
use Rattle.chk_rules.specs.declared.stop.Stop.{Stop}

-- denied, where the rule fails and no capability helps
denied : (a : Subject) (c : Check) → cap_of c.name ≡ None → c.holds ≡ false → Denied ≡ verdict_of a c
unfolding verdict_of
denied a c no_cap fails = sym (ap (λ h. cond h Passed (cond (may a.effective (cap_of c.name)) Exercised Denied)) fails ∙ ap (λ o. cond (may a.effective o) Exercised Denied) no_cap)

-- a check without a capability lets the row go on where its rule holds alone
pub holds_where_passed : (a b : CheckLog) (c : Check) → cap_of c.name ≡ None → GoesOn a (λ (rest : ⊤ → Row). Need c (rest tt)) (Ok tt) b → c.holds ≡ true
holds_where_passed a b c no_cap goes =
    elim c.holds as (λ h. c.holds ≡ h → h ≡ true) [
      | true ↦ λ _. refl
      | false ↦ λ fails.
          let ends : Stopped c.name c.place ≡ Refused EPERM =
          ap (λ j. j.end) (sym (judge-stop a.subject a.used c Denied (Fail EPERM) (denied a.subject c no_cap fails) refl) ∙ goes.continues (λ _. Fail EPERM) ∙ judge-fail b.subject b.used EPERM) in
          cc
    ] refl

-- a refusal lets the row go on where its condition does not hold
pub not_refused : (a b : CheckLog) (e : Errno) (holds : Bool) → GoesOn a (λ (rest : ⊤ → Row). Refuse e holds (rest tt)) (Ok tt) b → holds ≡ false
unfolding judge
not_refused a b e false goes = refl
not_refused a b e true goes =
    let ends : Refused e ≡ Done [] Nothing None = ap (λ j. j.end) (goes.continues (λ _. Commit [] Nothing None)) in
    cc

-- the same of a refusal that may stop the row
pub not_refused_where_ok : (a b : CheckLog) (e : Errno) (holds : Bool) (r : Result ⊤ Stop) → GoesOn a (λ (rest : ⊤ → Row). Refuse e holds (rest tt)) r b → OnOk r (holds ≡ false)
not_refused_where_ok a b e holds (Ok tt) goes = not_refused a b e holds goes
not_refused_where_ok a b e holds (Err how) goes = tt
