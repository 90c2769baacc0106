-- A row read as a list of items, of which the first that stops counts.
use Rattle.std.specs.Prelude.{Bool, true, List, [], ◌∷◌, Option, Some, None, cond}
use Rattle.kern_model.specs.declared.checks.Check.{Check}
use Rattle.kern_model.specs.declared.calls.Errno.{Errno}
use Rattle.kern_model.specs.declared.records.Rec.{Rec}
use Rattle.kern_model.specs.Row.{Row, Need, Soft, Refuse, Fail, Commit, Subject, End, Stopped, Refused, Done, CheckOutcome, verdict_of, is_denied, exercises_after}

-- a check, a soft check or a refusal
pub data Item : Type 0 where
  Must : (check : Check) → Item
  May : (check : Check) → Item
  Refusal : (errno : Errno) (holds : Bool) → Item

-- the exercises before the first item that stops, and what stopped, if anything did
pub record Stop : Type 0 where
  pub used : List Rec
  pub stop : Option End

-- items are gone through up to the first that stops: a check that is denied, or a refusal whose condition holds
abbrev pub first_stop : Subject → List Rec → List Item → Stop
first_stop a used [] = record { used = used; stop = None }
first_stop a used (Must c ∷ is) = cond (is_denied (verdict_of a c)) (record { used = used; stop = Some (Stopped c.name c.place) }) (first_stop a (exercises_after a c (verdict_of a c) used) is)
first_stop a used (May c ∷ is) = first_stop a (exercises_after a c (verdict_of a c) used) is
first_stop a used (Refusal e h ∷ is) = cond h (record { used = used; stop = Some (Refused e) }) (first_stop a used is)

-- the items of a row in order; a soft check picks those that follow
abbrev pub items : Subject → Row → List Item
items a (Need c r) = Must c ∷ items a r
items a (Soft c r w) = May c ∷ cond (is_denied (verdict_of a c)) (items a w) (items a r)
items a (Refuse e h r) = Refusal e h ∷ items a r
items a (Fail e) = Refusal e true ∷ []
items a (Commit cs answer own) = []

-- what stopped a row, if it stopped
abbrev pub stop_of : End → Option End
stop_of (Stopped name place) = Some (Stopped name place)
stop_of (Refused e) = Some (Refused e)
stop_of (Done cs answer own) = None

abbrev pub visible_stop : CheckOutcome → Stop
visible_stop j = record { used = j.used; stop = stop_of j.end }
