-- How a row is judged, item by item.
use Rattle.std.specs.Prelude.{◌≡◌, true, List, Option, refl, cond}
use Rattle.std.proofs.Common.{ap, sym, ◌∙◌}
use Rattle.kern_model.specs.declared.checks.Check.{Check}
use Rattle.kern_model.specs.declared.checks.Verdict.{Verdict}
use Rattle.kern_model.specs.declared.calls.Errno.{Errno}
use Rattle.kern_model.specs.declared.calls.Answer.{Answer}
use Rattle.kern_model.specs.declared.records.Rec.{Rec}
use Rattle.kern_model.specs.State.{Change}
use Rattle.kern_model.specs.Row.{Row, Need, Fail, Commit, Subject, Stopped, Refused, Done, check_outcome, judge, verdict_of, is_denied, exercises_after}

-- a denied check stops the row
pub judge-stop : (a : Subject) (used : List Rec) (c : Check) (v : Verdict) (r : Row) → v ≡ verdict_of a c → is_denied v ≡ true → judge a used (Need c r) ≡ check_outcome used (Stopped c.name c.place)
unfolding judge
judge-stop a used c v r e stop =
    ap (λ w. cond (is_denied w) (check_outcome used (Stopped c.name c.place)) (judge a (exercises_after a c w used) r)) (sym e)
    ∙ ap (λ b. cond b (check_outcome used (Stopped c.name c.place)) (judge a (exercises_after a c v used) r)) stop

-- a failure stops the row
pub judge-fail : (a : Subject) (used : List Rec) (e : Errno) → judge a used (Fail e) ≡ check_outcome used (Refused e)
unfolding judge
judge-fail a used e = refl

-- a commit ends the row
pub judge-give : (a : Subject) (used : List Rec) (changes : List Change) (answer : Answer) (own : Option Rec) → judge a used (Commit changes answer own) ≡ check_outcome used (Done changes answer own)
unfolding judge
judge-give a used changes answer own = refl
