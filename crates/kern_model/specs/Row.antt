-- A row of the call table: items in order, and then what is done. The first item that stops counts.
use Rattle.std.specs.Prelude.{Bool, true, false, List, [], ◌∷◌, ◌++◌, Option, Some, None, cond}
use Rattle.cap_bits.specs.CapSet.{CapSet, has}
use Rattle.cap_bits.specs.declared.cap.Cap.{Cap}
use Rattle.lab_lattice.specs.Label.{Label}
use Rattle.kern_model.specs.declared.numbers.Pid.{Pid}
use Rattle.kern_model.specs.declared.checks.Check.{Check}
use Rattle.kern_model.specs.declared.checks.CheckName.{CheckName}
use Rattle.kern_model.specs.declared.checks.Place.{Place}
use Rattle.kern_model.specs.declared.checks.Verdict.{Verdict}
use Rattle.kern_model.specs.declared.checks.Verdict.TheVariants.{Passed, Exercised, Denied}
use Rattle.kern_model.specs.declared.calls.Errno.{Errno}
use Rattle.kern_model.specs.declared.calls.Answer.{Answer}
use Rattle.kern_model.specs.declared.records.Rec.{Rec}
use Rattle.kern_model.specs.declared.records.Rec.TheVariants.{Exercise}
use Rattle.kern_model.specs.State.{Change}
use Rattle.kern_model.specs.Rules.{cap_of}

pub data Row : Type 0 where
  -- a check, which stops the call where it is denied
  Need : (check : Check) (rest : Row) → Row
  -- a soft check, which stops nothing: where it is denied the weaker row is taken
  Soft : (check : Check) (granted weaker : Row) → Row
  -- a refusal, which stops the call where its condition holds
  Refuse : (errno : Errno) (holds : Bool) (rest : Row) → Row
  -- a refusal without a condition
  Fail : (errno : Errno) → Row
  -- nothing stopped the call: what changes, what it answers, and its own record if it leaves one
  Commit : (changes : List Change) (answer : Answer) (own : Option Rec) → Row

-- a check that is made only where it is asked for
unfoldable pub need_if : Bool → Check → Row → Row
need_if asked check rest = cond asked (Need check rest) rest

-- who asks, and with which effective capabilities
pub record Subject : Type 0 where
  pub who : Pid
  pub label : Label
  pub effective : CapSet

-- whether the capability of a check, if it has one, is effective
abbrev pub may : CapSet → Option Cap → Bool
may caps None = false
may caps (Some c) = has caps c

-- passed where the rule holds, and else exercised where the capability is effective
unfoldable pub verdict_of : Subject → Check → Verdict
verdict_of a c = cond c.holds Passed (cond (may a.effective (cap_of c.name)) Exercised Denied)

abbrev pub is_denied : Verdict → Bool
is_denied Passed = false
is_denied Exercised = false
is_denied Denied = true

abbrev pub exercise_with : Subject → Check → Option Cap → List Rec
exercise_with a c None = []
exercise_with a c (Some cap) =
    Exercise (record {
      who = a.who;
      label = a.label;
      cap = cap;
      check = c.name;
      thing = c.thing;
      thing_label = c.thing_label;
      new_label = c.new_label;
      place = c.place;
    })
    ∷ []

-- the exercises so far, and one more where the check was exercised
abbrev pub exercises_after : Subject → Check → Verdict → List Rec → List Rec
exercises_after a c Passed used = used
exercises_after a c Exercised used = used ++ exercise_with a c (cap_of c.name)
exercises_after a c Denied used = used

-- how a call ends
pub data End : Type 0 where
  Stopped : (name : CheckName) (place : Place) → End
  Refused : (errno : Errno) → End
  Done : (changes : List Change) (answer : Answer) (own : Option Rec) → End

-- the exercises, and how the call ends
pub record CheckOutcome : Type 0 where
  pub used : List Rec
  pub end : End

abbrev pub check_outcome : List Rec → End → CheckOutcome
check_outcome used end = record { used = used; end = end }

-- the first item that stops, or else what is done, with the exercises before it added to those so far
unfoldable pub judge : Subject → List Rec → Row → CheckOutcome
judge a used (Need c rest) = cond (is_denied (verdict_of a c)) (check_outcome used (Stopped c.name c.place)) (judge a (exercises_after a c (verdict_of a c) used) rest)
judge a used (Soft c granted weaker) = cond (is_denied (verdict_of a c)) (judge a used weaker) (judge a (exercises_after a c (verdict_of a c) used) granted)
judge a used (Refuse e holds rest) = cond holds (check_outcome used (Refused e)) (judge a used rest)
judge a used (Fail e) = check_outcome used (Refused e)
judge a used (Commit changes answer own) = check_outcome used (Done changes answer own)
