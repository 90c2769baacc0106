-- The laws, each by its name.
use Rattle.std.specs.Prelude.{◌≡◌, ◌||◌, true, false, List}
use Rattle.std.specs.List.{list_any}
use Rattle.cap_bits.specs.CapSet.{has}
use Rattle.cap_bits.specs.declared.cap.Cap.{Cap}
use Rattle.lab_lattice.specs.Label.{Label}
use Rattle.kern_model.specs.declared.calls.Call.{Call}
use Rattle.kern_model.specs.declared.numbers.Pid.{Pid}
use Rattle.kern_model.specs.declared.world.ScriptItem.{ScriptItem}
use Rattle.kern_model.specs.declared.world.World.{World}
use Rattle.kern_model.specs.declared.world.WorldObject.{WorldObject}
use Rattle.kern_model.specs.declared.world.WorldProc.{WorldProc}
use Rattle.kern_model.specs.Arguments.{is_script}
use Rattle.kern_model.specs.Boot.{boot}
use Rattle.kern_model.specs.Isolation.{alone, answers, any_crosses, part, part_script}
use Rattle.kern_model.specs.Lineage.{all_recs}
use Rattle.kern_model.specs.Run.{run, state_after_run}
use Rattle.kern_model.specs.State.{State}
use Rattle.kern_model.specs.Step.{step}
use Rattle.kern_model.specs.World.{IsWorld}
use Rattle.iso_laws.specs.Unnamed.{IsUnnamed}
use Rattle.ever_caps.specs.Absent.{IsAbsent}
use Rattle.ever_caps.specs.Ever.{ever, is_confined, mac_ever, mac_given, mac_held}
use Rattle.ever_caps.specs.Uncrossed.{is_uncrossed}

-- ---- a step, of every state and for every call

-- a capability that is absent stays absent
abbrev pub AbsentStep : Type 0
AbsentStep = (c : Cap) (s : State) (who : Pid) (called : Call) → IsAbsent c s → IsAbsent c (step s who called).state

-- and no record of the step is an exercise of it
abbrev pub AbsentUnnamed : Type 0
AbsentUnnamed = (c : Cap) (s : State) (who : Pid) (called : Call) → IsAbsent c s → IsUnnamed c (step s who called).recs

-- ---- a run, of every world and for every script

-- what is never had is absent from the first state
abbrev pub NeverBoot : Type 0
NeverBoot = (c : Cap) (w : World) → has (ever w) c ≡ false → IsAbsent c (boot w)

-- and from the last state of each run
abbrev pub NeverEnd : Type 0
NeverEnd = (c : Cap) (w : World) (items : List ScriptItem) → has (ever w) c ≡ false → IsAbsent c (state_after_run (boot w) items)

-- and no record of a run is an exercise of it
abbrev pub NeverExercised : Type 0
NeverExercised = (c : Cap) (w : World) (items : List ScriptItem) → has (ever w) c ≡ false → IsUnnamed c (all_recs w items)

-- those of the five capabilities over labels that a process may ever have are held by processes of the world, or given by its files
abbrev pub EverHasSource : Type 0
EverHasSource = (c : Cap) (w : World)
    → has (mac_ever w) c ≡ (list_any (λ (p : WorldProc). has (mac_held p) c) w.procs || list_any (λ (o : WorldObject). has (mac_given w o) c) w.objects)

-- ---- worlds in which no process may ever have one of the five capabilities over labels

-- no record of a run crosses a label
abbrev pub ConfinedInside : Type 0
ConfinedInside = (l : Label) (w : World) (items : List ScriptItem) → is_confined w ≡ true → any_crosses l (all_recs w items) ≡ false

-- what Low tags are answered is what they are answered in the part alone
abbrev pub ConfinedAlone : Type 0
ConfinedAlone = (l : Label) (w : World) (items : List ScriptItem) → IsWorld w → is_script w.top items ≡ true → is_confined w ≡ true
    → answers l (run (boot w) items) ≡ alone l w items

-- two such worlds with the same part answer Low tags alike in two scripts with the same Low items
abbrev pub ConfinedWorlds : Type 0
ConfinedWorlds = (l : Label) (w v : World) (is js : List ScriptItem) → IsWorld w → IsWorld v → is_script w.top is ≡ true → is_script v.top js ≡ true
    → part l (boot w) ≡ part l (boot v) → part_script l is ≡ part_script l js → is_confined w ≡ true → is_confined v ≡ true
    → answers l (run (boot w) is) ≡ answers l (run (boot v) js)

-- ---- worlds in which processes with labels strictly above one may come to have cap_mac_read and cap_mac_upgrade, and none may have another of the five

-- no record of a run crosses this label
abbrev pub UncrossedInside : Type 0
UncrossedInside = (l : Label) (w : World) (items : List ScriptItem) → is_uncrossed l w ≡ true → any_crosses l (all_recs w items) ≡ false

-- what its Low tags are answered is what they are answered in the part alone
abbrev pub UncrossedAlone : Type 0
UncrossedAlone = (l : Label) (w : World) (items : List ScriptItem) → IsWorld w → is_script w.top items ≡ true → is_uncrossed l w ≡ true
    → answers l (run (boot w) items) ≡ alone l w items

-- two such worlds with the same part answer Low tags alike in two scripts with the same Low items
abbrev pub UncrossedWorlds : Type 0
UncrossedWorlds = (l : Label) (w v : World) (is js : List ScriptItem) → IsWorld w → IsWorld v → is_script w.top is ≡ true → is_script v.top js ≡ true
    → part l (boot w) ≡ part l (boot v) → part_script l is ≡ part_script l js → is_uncrossed l w ≡ true → is_uncrossed l v ≡ true
    → answers l (run (boot w) is) ≡ answers l (run (boot v) js)

-- where no process may ever have one of the five, this is so of each label
abbrev pub ConfinedUncrossed : Type 0
ConfinedUncrossed = (l : Label) (w : World) → is_confined w ≡ true → is_uncrossed l w ≡ true
