-- A row and its list of items have the same exercises and the same stop.
use Rattle.std.specs.Prelude.{◌≡◌, Bool, true, false, List, Some, refl, cond}
use Rattle.std.proofs.Common.{sym, ◌∙◌, ap}
use Rattle.kern_model.specs.declared.checks.Check.{Check}
use Rattle.kern_model.specs.declared.checks.Verdict.{Verdict}
use Rattle.kern_model.specs.declared.checks.Verdict.TheVariants as verdict
use Rattle.kern_model.specs.declared.records.Rec.{Rec}
use Rattle.kern_model.specs.Items.{visible_stop, first_stop, items}
use Rattle.kern_model.specs.Row.{Row, Need, Soft, Refuse, Fail, Commit, Subject, Stopped, Refused, CheckOutcome, judge, verdict_of, is_denied, exercises_after}

seen_cond : (b : Bool) (x y : CheckOutcome) → visible_stop (cond b x y) ≡ cond b (visible_stop x) (visible_stop y)
seen_cond true x y = refl
seen_cond false x y = refl

-- a soft check that is denied adds no exercise
denied_adds_none : (a : Subject) (c : Check) (v : Verdict) (used : List Rec) → is_denied v ≡ true → exercises_after a c v used ≡ used
denied_adds_none a c verdict.Passed used h = refl
denied_adds_none a c verdict.Exercised used h = absurd (cc)
denied_adds_none a c verdict.Denied used h = refl

-- the exercises and the stop of a row are those of its items
pub judge-items : (a : Subject) (used : List Rec) (r : Row) → visible_stop (judge a used r) ≡ first_stop a used (items a r)
unfolding judge
judge-items a used (Need c r) = seen_cond (is_denied (verdict_of a c)) _ _ ∙ ap (cond (is_denied (verdict_of a c)) (record { used = used; stop = Some (Stopped c.name c.place) })) (judge-items a (exercises_after a c (verdict_of a c) used) r)
judge-items a used (Soft c r w) =
    elim (is_denied (verdict_of a c)) as (λ b. is_denied (verdict_of a c) ≡ b → visible_stop (cond b (judge a used w) (judge a (exercises_after a c (verdict_of a c) used) r)) ≡ first_stop a (exercises_after a c (verdict_of a c) used) (cond b (items a w) (items a r))) [
      | true ↦ λ h. judge-items a used w ∙ ap (λ us. first_stop a us (items a w)) (sym (denied_adds_none a c (verdict_of a c) used h))
      | false ↦ λ _. judge-items a (exercises_after a c (verdict_of a c) used) r
    ] refl
judge-items a used (Refuse e h r) = seen_cond h _ _ ∙ ap (cond h (record { used = used; stop = Some (Refused e) })) (judge-items a used r)
judge-items a used (Fail e) = refl
judge-items a used (Commit cs answer own) = refl
