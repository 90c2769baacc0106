-- What a watch saw of one call, and of several.
use Rattle.std.specs.Prelude.{◌≡◌, true, List, [], ◌∷◌, ◌++◌, Result, OnOk, OnErr}
use Rattle.std.specs.List.{AllByRecursion}
use Rattle.lab_lattice.specs.Label.{Label, dominates}
use Rattle.kern_model.specs.declared.calls.Call.{Call}
use Rattle.kern_model.specs.declared.numbers.Pid.{Pid}
use Rattle.kern_model.specs.declared.records.Outcome.{Outcome}
use Rattle.iso_laws.specs.Labels.{AreBelow, HasAnswerBelow, HasLabelsBelow, labels_in_call}
use Rattle.sched_progs.specs.Turns.{LoopItem}

-- a call, with its reply and its records
abbrev pub item_of : Pid → Call → Outcome → LoopItem
item_of who call outcome = record { who = who; call = call; reply = outcome.reply; recs = outcome.recs }

-- the label dominates each label of a call: in the number of who made it, in its arguments, in its reply and in its records; and the modes in the reply lie
-- within octal 6777
pub record IsWithin (top : Label) (i : LoopItem) : Type 0 where
  pub who : dominates top i.who.label ≡ true
  pub call : AreBelow top (labels_in_call i.call)
  pub reply : HasAnswerBelow top i.reply
  pub recs : AllByRecursion (HasLabelsBelow top) i.recs

-- a call was added to the list, or is the refused one
pub record Saw {T E : Type 0} (result : Result T E) (item : LoopItem) (seen new_seen new_refused : List LoopItem) : Type 0 where
  pub ok : OnOk result ((new_seen ≡ seen ++ item ∷ []) × (new_refused ≡ []))
  pub err : OnErr result ((new_seen ≡ seen) × (new_refused ≡ item ∷ []))

-- the first of these calls were added, and the refused one, if there is one, is the next of them
pub record SawPart (items seen new_seen new_refused : List LoopItem) : Type 0 where
  pub added : List LoopItem
  pub rest : List LoopItem
  pub items_are : items ≡ added ++ (new_refused ++ rest)
  pub seen_is : new_seen ≡ seen ++ added

-- the first of these calls were added, and at Ok all of them
pub record SawCalls {T E : Type 0} (result : Result T E) (items seen new_seen new_refused : List LoopItem) : Type 0 where
  pub part : SawPart items seen new_seen new_refused
  pub whole : OnOk result ((new_seen ≡ seen ++ items) × (new_refused ≡ []))
