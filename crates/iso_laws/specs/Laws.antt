-- The laws, each by its name.
use Rattle.std.specs.Prelude.{◌≡◌, ℕ, Bool, true, false, List, ◌++◌, Some, take}
use Rattle.std.specs.List.{AllByRecursion, list_any}
use Rattle.std.specs.FinMap as map
use Rattle.cap_bits.specs.CapSet.{CapSet, meet_of}
use Rattle.cap_bits.specs.FileCaps.{is_uniform}
use Rattle.cap_bits.specs.declared.state.CapState.{CapState}
use Rattle.lab_lattice.specs.Label.{Label, dominates}
use Rattle.kern_model.specs.declared.numbers.Pid.{Pid}
use Rattle.kern_model.specs.declared.calls.Call.{Call}
use Rattle.kern_model.specs.declared.records.Rec.{Rec}
use Rattle.kern_model.specs.declared.records.Rec.TheVariants as rec
use Rattle.kern_model.specs.declared.world.World.{World}
use Rattle.kern_model.specs.declared.world.ScriptItem.{ScriptItem}
use Rattle.kern_model.specs.Arguments.{has_names, is_call, is_script}
use Rattle.kern_model.specs.Boot.{boot}
use Rattle.kern_model.specs.Drawing.{StayDrawn, NumbersGoOn, NothingComesBack}
use Rattle.kern_model.specs.Exec.{exec_caps, exec_permitted}
use Rattle.kern_model.specs.Isolation.{low, any_crosses, part, part_script, answers, alone, up_to, Kept}
use Rattle.kern_model.specs.Items.{first_stop, items, visible_stop}
use Rattle.kern_model.specs.Keys.{same_pid}
use Rattle.kern_model.specs.Lineage.{caps_of, all_recs, OnlyDrops, GrowsByExec}
use Rattle.kern_model.specs.Prefixes.{IsPrefix, Agree}
use Rattle.kern_model.specs.Refusals.{IsNamed}
use Rattle.kern_model.specs.Row.{Row, Subject, judge}
use Rattle.kern_model.specs.Run.{run, state_after_run}
use Rattle.kern_model.specs.State.{State, Process}
use Rattle.kern_model.specs.Step.{step}
use Rattle.kern_model.specs.Valid.{IsValid}
use Rattle.kern_model.specs.World.{IsWorld}
use Rattle.iso_laws.specs.Follows.{AllFollow}
use Rattle.iso_laws.specs.Labels.{AreBelow, HasAnswerBelow, HasLabelsBelow, labels_in_call}
use Rattle.iso_laws.specs.Unnamed.{NeedsOnlyNamed}

-- ---- a step, by a call whose arguments are in their ranges

-- from a valid state that is kept, a step of a Low process by such a call, which crosses nothing
pub record IsLowStep (l : Label) (s : State) (who : Pid) (c : Call) : Type 0 where
  pub arguments : is_call s.top c ≡ true
  pub valid : IsValid s
  pub kept : Kept l s
  pub is_low : low l who.label ≡ true
  pub inside : any_crosses l (step s who c).recs ≡ false

-- it gives the same reply in the part
abbrev pub LowStepReply : Type 0
LowStepReply = (l : Label) (s : State) (who : Pid) (c : Call) → IsLowStep l s who c → (step (part l s) who c).reply ≡ (step s who c).reply

-- and the same records
abbrev pub LowStepRecords : Type 0
LowStepRecords = (l : Label) (s : State) (who : Pid) (c : Call) → IsLowStep l s who c → (step (part l s) who c).recs ≡ (step s who c).recs

-- and the part of the new state
abbrev pub LowStepState : Type 0
LowStepState = (l : Label) (s : State) (who : Pid) (c : Call) → IsLowStep l s who c → (step (part l s) who c).state ≡ part l (step s who c).state

-- a step of a process that is not Low, which crosses nothing, leaves the part as it was
abbrev pub OtherStep : Type 0
OtherStep = (l : Label) (s : State) (who : Pid) (c : Call) → is_call s.top c ≡ true → IsValid s → Kept l s → low l who.label ≡ false → any_crosses l (step s who c).recs ≡ false
    → part l (step s who c).state ≡ part l s

-- a state that is kept stays kept over a step that crosses nothing
abbrev pub KeptStep : Type 0
KeptStep = (l : Label) (s : State) (who : Pid) (c : Call) → is_call s.top c ≡ true → IsValid s → Kept l s → any_crosses l (step s who c).recs ≡ false → Kept l (step s who c).state

-- a valid state stays valid, where also what an entry may be named by is a name
abbrev pub ValidStep : Type 0
ValidStep = (s : State) (who : Pid) (c : Call) → is_call s.top c ≡ true → has_names c ≡ true → IsValid s → IsValid (step s who c).state

-- ---- the first state of a world

-- the first state is kept
abbrev pub KeptBoot : Type 0
KeptBoot = (l : Label) (w : World) → Kept l (boot w)

-- the first state of a world that is accepted is valid
abbrev pub ValidBoot : Type 0
ValidBoot = (w : World) → IsWorld w → IsValid (boot w)

-- ---- runs of scripts that may be played

-- what Low tags are answered, up to any call before the first that crosses, is a prefix of what they are answered in the part alone
abbrev pub IsolatedPrefix : Type 0
IsolatedPrefix = (l : Label) (w : World) (items : List ScriptItem) (m : ℕ) → IsWorld w → is_script w.top items ≡ true
    → IsPrefix (answers l (take m (up_to l (run (boot w) items)))) (alone l w items)

-- where no call crosses, both are the same
abbrev pub IsolatedWhole : Type 0
IsolatedWhole = (l : Label) (w : World) (items : List ScriptItem) → IsWorld w → is_script w.top items ≡ true
    → up_to l (run (boot w) items) ≡ run (boot w) items → answers l (run (boot w) items) ≡ alone l w items

-- where no call crosses, the last state is kept, and its part is the last state of the part alone
abbrev pub IsolatedEnd : Type 0
IsolatedEnd = (l : Label) (w : World) (items : List ScriptItem) → IsWorld w → is_script w.top items ≡ true → up_to l (run (boot w) items) ≡ run (boot w) items
    → Kept l (state_after_run (boot w) items) × (part l (state_after_run (boot w) items) ≡ state_after_run (part l (boot w)) (part_script l items))

-- and the run of the part alone crosses nothing either
abbrev pub IsolatedInside : Type 0
IsolatedInside = (l : Label) (w : World) (items : List ScriptItem) → IsWorld w → is_script w.top items ≡ true → up_to l (run (boot w) items) ≡ run (boot w) items
    → up_to l (run (part l (boot w)) (part_script l items)) ≡ run (part l (boot w)) (part_script l items)

-- on two worlds with the same part, two scripts with the same Low items answer Low tags alike, up to any calls before the first that crosses: one list is a
-- prefix of the other
abbrev pub TwoWorldsAgree : Type 0
TwoWorldsAgree = (l : Label) (w v : World) (is js : List ScriptItem) (m n : ℕ) → IsWorld w → IsWorld v → is_script w.top is ≡ true → is_script v.top js ≡ true
    → part l (boot w) ≡ part l (boot v) → part_script l is ≡ part_script l js → Agree (answers l (take m (up_to l (run (boot w) is)))) (answers l (take n (up_to l (run (boot v) js))))

-- where no call crosses, both are the same
abbrev pub TwoWorldsSame : Type 0
TwoWorldsSame = (l : Label) (w v : World) (is js : List ScriptItem) → IsWorld w → IsWorld v → is_script w.top is ≡ true → is_script v.top js ≡ true
    → part l (boot w) ≡ part l (boot v) → part_script l is ≡ part_script l js
    → up_to l (run (boot w) is) ≡ run (boot w) is → up_to l (run (boot v) js) ≡ run (boot v) js → answers l (run (boot w) is) ≡ answers l (run (boot v) js)

-- ---- labels of calls, replies and records

-- each label in a record of a run is below the highest one
abbrev pub LabelsBelow : Type 0
LabelsBelow = (w : World) (items : List ScriptItem) → IsWorld w → is_script w.top items ≡ true → AllByRecursion (HasLabelsBelow w.top) (all_recs w items)

-- so is that of the number of each living process of a valid state
abbrev pub CallerBelow : Type 0
CallerBelow = (s : State) (who : Pid) (p : Process) → IsValid s → map.get s.procs who ≡ Some p → dominates s.top who.label ≡ true

-- and each label in a call whose arguments are in their ranges
abbrev pub CallBelow : Type 0
CallBelow = (top : Label) (c : Call) → is_call top c ≡ true → AreBelow top (labels_in_call c)

-- and each label in the reply of a step of a valid state, whose modes are modes; for every call
abbrev pub ReplyBelow : Type 0
ReplyBelow = (s : State) (who : Pid) (c : Call) → IsValid s → HasAnswerBelow s.top (step s who c).reply

-- and each label in the records of such a step, by a call whose arguments are in their ranges
abbrev pub RecordsBelow : Type 0
RecordsBelow = (s : State) (who : Pid) (c : Call) → is_call s.top c ≡ true → IsValid s → AllByRecursion (HasLabelsBelow s.top) (step s who c).recs

-- ---- capability sets, for every call

-- each process that lives at the end of a run has the capability sets that the records give
abbrev pub CapsByRecords : Type 0
CapsByRecords = (w : World) (items : List ScriptItem) (who : Pid) (p : Process) → map.get (state_after_run (boot w) items).procs who ≡ Some p → p.caps ≡ caps_of w.bound (all_recs w items) who

-- what `cap_set_proc` makes permitted was permitted, by the records before its own
abbrev pub DropsByRecords : Type 0
DropsByRecords = (w : World) (items : List ScriptItem) → OnlyDrops w.bound (all_recs w items)

-- permitted sets grow by exec alone
abbrev pub GrowthByRecords : Type 0
GrowthByRecords = (w : World) (items : List ScriptItem) → GrowsByExec w.bound (all_recs w items)

-- each record may come after those before it
abbrev pub OwnTrail : Type 0
OwnTrail = (w : World) (items : List ScriptItem) → AllFollow w.bound (all_recs w items)

-- whether a record gives a process its capability sets: that of its start, of the fork that made it, or of `exec` or `cap_set_proc` by it
abbrev pub gives_sets : Pid → Rec → Bool
gives_sets q (rec.Boot who label caps) = same_pid q who
gives_sets q (rec.Fork who child) = same_pid q child
gives_sets q (rec.Exec who file file_caps caps) = same_pid q who
gives_sets q (rec.CapSetProc who caps) = same_pid q who
gives_sets q _ = false

-- a process that lives before and after a step keeps its capability sets, where no record of the step gives it others
abbrev pub CapsStay : Type 0
CapsStay = (s : State) (who : Pid) (c : Call) (q : Pid) (old new : Process) → map.get s.procs q ≡ Some old → map.get (step s who c).state.procs q ≡ Some new
    → list_any (gives_sets q) (step s who c).recs ≡ false → new.caps ≡ old.caps

-- ---- refusals and numbers, for every call

-- a reply that a check denied holds EACCES or EPERM, and no other refusal holds one of them
abbrev pub RefusalsAreNamed : Type 0
RefusalsAreNamed = (s : State) (who : Pid) (c : Call) → IsNamed (step s who c).reply

-- numbers that were drawn stay drawn over a step
abbrev pub DrawnStep : Type 0
DrawnStep = (s : State) (who : Pid) (c : Call) → StayDrawn s (step s who c).state

-- numbers go on over a step of a valid state
abbrev pub NumbersStep : Type 0
NumbersStep = (s : State) (who : Pid) (c : Call) → IsValid s → NumbersGoOn s (step s who c).state

-- numbers go on from the state after some calls of a run to the state after more
abbrev pub NumbersRun : Type 0
NumbersRun = (w : World) (items more : List ScriptItem) → IsWorld w → NumbersGoOn (state_after_run (boot w) items) (state_after_run (boot w) (items ++ more))

-- what has a number that was drawn, and is not there, does not come back
abbrev pub GoneRun : Type 0
GoneRun = (w : World) (items more : List ScriptItem) → IsWorld w → NothingComesBack (state_after_run (boot w) items) (state_after_run (boot w) (items ++ more))

-- ---- capabilities that are not needed, for every call

-- a step needs no capability that no exercise of it names
abbrev pub UnnamedCapability : Type 0
UnnamedCapability = (s : State) (who : Pid) (c : Call) → NeedsOnlyNamed s who c (step s who c).reply (step s who c).recs (step s who c).state

-- ---- the highest label, for every call

-- the first state has that of the world
abbrev pub TopBoot : Type 0
TopBoot = (w : World) → (boot w).top ≡ w.top

-- and a step keeps it
abbrev pub TopStep : Type 0
TopStep = (s : State) (who : Pid) (c : Call) → (step s who c).state.top ≡ s.top

-- ---- other readings of the definitions

-- every row has the exercises and the stop of its items
abbrev pub RowsAreItems : Type 0
RowsAreItems = (a : Subject) (used : List Rec) (r : Row) → visible_stop (judge a used r) ≡ first_stop a used (items a r)

-- by the exec formula, for each file with uniform sets, a process has effective what the file's effective set and the new permitted set share
abbrev pub UniformExec : Type 0
UniformExec = (old file : CapState) (bound : CapSet) → is_uniform file ≡ true → meet_of file.e (exec_permitted old file bound) ≡ (exec_caps old file bound).e
