-- A run: the steps of a script, one after another.
use Rattle.std.specs.Prelude.{ℕ, List, [], ◌∷◌}
use Rattle.kern_model.specs.declared.numbers.Pid.{Pid}
use Rattle.kern_model.specs.declared.calls.Reply.{Reply}
use Rattle.kern_model.specs.declared.records.Rec.{Rec}
use Rattle.kern_model.specs.declared.world.ScriptItem.{ScriptItem}
use Rattle.kern_model.specs.State.{State}
use Rattle.kern_model.specs.Step.{step}

-- one call that was played: who called, the word or words that the reply shows, the reply and the records
pub record CallRecord : Type 0 where
  pub who : Pid
  pub head : List ℕ
  pub reply : Reply
  pub recs : List Rec

-- an item as it is played on a state
abbrev pub item_record : State → ScriptItem → CallRecord
item_record s i = record { who = i.who; head = i.head; reply = (step s i.who i.call).reply; recs = (step s i.who i.call).recs }

-- what is played of a script from a state on
abbrev pub run : State → List ScriptItem → List CallRecord
run s [] = []
run s (i ∷ is) = item_record s i ∷ run (step s i.who i.call).state is

-- the last state
abbrev pub state_after_run : State → List ScriptItem → State
state_after_run s [] = s
state_after_run s (i ∷ is) = state_after_run (step s i.who i.call).state is
