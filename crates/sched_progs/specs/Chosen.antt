-- A loop beside the script that its programs choose.
use Rattle.std.specs.Prelude.{◌≡◌, ℕ, List, map}
use Rattle.lab_lattice.specs.Label.{Label}
use Rattle.kern_model.specs.declared.world.ScriptItem.{ScriptItem}
use Rattle.kern_model.specs.Names.{name_of, word_of}
use Rattle.kern_model.specs.Run.{CallRecord, run, state_after_run}
use Rattle.kern_model.specs.State.{State}
use Rattle.sched_progs.specs.Programs.{Programs}
use Rattle.sched_progs.specs.Turns.{LoopItem}
use Rattle.sched_progs.specs.Loop.{loop, loop_end}

-- a call of a program as an item of a script
abbrev pub chosen_item : LoopItem → ScriptItem
chosen_item i = record { who = i.who; head = word_of (name_of i.call); call = i.call }

-- a call of a program as it was played
abbrev pub record_of_item : LoopItem → CallRecord
record_of_item i = record { who = i.who; head = word_of (name_of i.call); reply = i.reply; recs = i.recs }

-- the script that the programs choose: the calls of the loop, one after another
abbrev pub chosen_script : List LoopItem → List ScriptItem
chosen_script items = map chosen_item items

-- these calls are the run of their script from one state to another
pub record IsRunOf (s : State) (items : List LoopItem) (last : State) : Type 0 where
  pub calls : run s (chosen_script items) ≡ map record_of_item items
  pub state : state_after_run s (chosen_script items) ≡ last

-- a loop is the run of the script that its programs choose
abbrev pub LoopIsRun : Type 0
LoopIsRun = (s : State) (programs : Programs) (slices : List Label) (rounds : ℕ) → IsRunOf s (loop s programs slices rounds) (loop_end s programs slices rounds)
