-- What a run is without capabilities that it never needs.
use Rattle.std.specs.Prelude.{◌≡◌, ℕ, Bool, true, false, List, map, Option}
use Rattle.std.specs.FinMap as table
use Rattle.std.specs.List.{filter, list_any}
use Rattle.std.specs.Option.{option_map}
use Rattle.cap_bits.specs.CapSet.{CapSet, meet_of, no_caps}
use Rattle.cap_bits.specs.declared.state.CapState.{CapState}
use Rattle.kern_model.specs.declared.calls.Reply.{Reply}
use Rattle.kern_model.specs.declared.numbers.Pid.{Pid}
use Rattle.kern_model.specs.declared.records.Rec.{Rec}
use Rattle.kern_model.specs.declared.records.Rec.TheVariants as rec
use Rattle.kern_model.specs.declared.world.ScriptItem.{ScriptItem}
use Rattle.kern_model.specs.declared.world.World.{World}
use Rattle.kern_model.specs.Arguments.{is_script}
use Rattle.kern_model.specs.Boot.{boot}
use Rattle.kern_model.specs.Lineage.{all_recs}
use Rattle.kern_model.specs.Run.{CallRecord, run, state_after_run}
use Rattle.kern_model.specs.State.{State, Process}
use Rattle.kern_model.specs.World.{IsWorld}
use Rattle.least_caps.specs.Asks.{asks}
use Rattle.least_caps.specs.Named.{named}
use Rattle.least_caps.specs.Narrowed.{caps_narrowed, narrowed}
use Rattle.least_caps.specs.NarrowedStates.{LessFsetid, record_without, state_without}

-- no record is an exercise of one of these capabilities
abbrev pub NamesNone : CapSet → List Rec → Type 0
NamesNone d recs = meet_of d (named recs) ≡ no_caps

-- whether some call of a script asks for capability sets
abbrev pub script_asks : List ScriptItem → Bool
script_asks items = list_any (λ (i : ScriptItem). asks i.call) items

-- the world is accepted, the script may be played and asks for no capability sets, and no record of its run is an exercise of one of these capabilities
pub record NeverNeeds (d : CapSet) (w : World) (items : List ScriptItem) : Type 0 where
  pub world : IsWorld w
  pub script : is_script w.top items ≡ true
  pub asks_none : script_asks items ≡ false
  pub unnamed : NamesNone d (all_recs w items)

-- who called, the word or words of the reply, and the reply
abbrev pub reply_with_head : CallRecord → Pid × List ℕ × Reply
reply_with_head c = (c.who, c.head, c.reply)

-- the replies of a run
abbrev pub replies : State → List ScriptItem → List (Pid × List ℕ × Reply)
replies s items = map reply_with_head (run s items)

-- from the world without the capabilities, the run has the same replies
abbrev pub NarrowedReplies : Type 0
NarrowedReplies = (d : CapSet) (w : World) (items : List ScriptItem) → NeverNeeds d w items → replies (boot (narrowed d w)) items ≡ replies (boot w) items

-- whether a record is an exercise
abbrev pub is_exercise : Rec → Bool
is_exercise (rec.Exercise e) = true
is_exercise _ = false

-- the exercises among records
abbrev pub exercises : List Rec → List Rec
exercises recs = filter is_exercise recs

-- and the same exercises in order, less some by check `fsetid`
abbrev pub NarrowedExercises : Type 0
NarrowedExercises = (d : CapSet) (w : World) (items : List ScriptItem) → NeverNeeds d w items
    → LessFsetid (exercises (all_recs w items)) (exercises (all_recs (narrowed d w) items))

-- the other records are the same too, without the capabilities in the sets that they have
abbrev pub NarrowedRecords : Type 0
NarrowedRecords = (d : CapSet) (w : World) (items : List ScriptItem) → NeverNeeds d w items
    → LessFsetid (map (record_without d) (all_recs w items)) (all_recs (narrowed d w) items)

-- the capability sets of a process, if it lives
abbrev pub sets_of : State → Pid → Option CapState
sets_of s who = option_map (λ (p : Process). p.caps) (table.get s.procs who)

-- each process ends with the capability sets that it had at the end, without the capabilities
abbrev pub NarrowedSets : Type 0
NarrowedSets = (d : CapSet) (w : World) (items : List ScriptItem) (who : Pid) → NeverNeeds d w items
    → sets_of (state_after_run (boot (narrowed d w)) items) who ≡ option_map (caps_narrowed d) (sets_of (state_after_run (boot w) items) who)

-- and the last state is the same in all else, where also the bound and each file are without the capabilities
abbrev pub NarrowedEnd : Type 0
NarrowedEnd = (d : CapSet) (w : World) (items : List ScriptItem) → NeverNeeds d w items
    → state_after_run (boot (narrowed d w)) items ≡ state_without d (state_after_run (boot w) items)
