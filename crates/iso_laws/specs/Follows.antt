-- What record a trail may go on with, by the records before it.
use Rattle.std.specs.Prelude.{◌≡◌, Bool, true, false, List, ◌∷◌, ◌++◌}
use Rattle.std.specs.List.{list_any}
use Rattle.cap_bits.specs.CapSet.{CapSet, has}
use Rattle.cap_bits.specs.declared.state.CapState.{CapState}
use Rattle.kern_model.specs.declared.numbers.Pid.{Pid}
use Rattle.kern_model.specs.declared.records.Rec.{Rec}
use Rattle.kern_model.specs.declared.records.Rec.TheVariants as rec
use Rattle.kern_model.specs.Exec.{exec_caps}
use Rattle.kern_model.specs.Keys.{same_pid}
use Rattle.kern_model.specs.Lineage.{caps_of}
use Rattle.kern_model.specs.Records.{who_of}
use Rattle.kern_model.specs.Rules.{may_become}

-- ---- what processes are known

-- whether a record makes a process known: it is that of its start, or of the fork that made it
abbrev pub makes_known : Pid → Rec → Bool
makes_known q (rec.Boot who label caps) = same_pid q who
makes_known q (rec.Fork who child) = same_pid q child
makes_known q _ = false

-- whether a process is known by records: it started, or is the child of a fork
abbrev pub is_known : List Rec → Pid → Bool
is_known recs q = list_any (makes_known q) recs

-- ---- what a record may be, given which processes are known and which capability sets they have

-- a process that starts is not known, and each other process that a record is about is known; the child of a fork is not known
abbrev pub ProcessesFollow : (Pid → Bool) → Rec → Type 0
ProcessesFollow known (rec.Boot who label caps) = known who ≡ false
ProcessesFollow known (rec.Fork who child) = (known who ≡ true) × (known child ≡ false)
ProcessesFollow known r = known (who_of r) ≡ true

-- the sets that a program gives are those of the exec formula, those that `cap_set_proc` gives can be had from the sets before,
-- and a capability that is exercised is effective
abbrev pub SetsFollow : CapSet → (Pid → CapState) → Rec → Type 0
SetsFollow bound caps (rec.Exec who id file new) = new ≡ exec_caps (caps who) file bound
SetsFollow bound caps (rec.CapSetProc who new) = may_become (caps who) new ≡ true
SetsFollow bound caps (rec.Exercise exercise) = has (caps exercise.who).e exercise.cap ≡ true
SetsFollow bound caps _ = Unit {0}

-- a record may come next, where these processes are known and have these capability sets: both hold of it
abbrev pub FollowsBy : CapSet → (Pid → Bool) → (Pid → CapState) → Rec → Type 0
FollowsBy bound known caps r = ProcessesFollow known r × SetsFollow bound caps r

-- ---- trails

-- the record may come after these, by the processes that they make known and the capability sets that they give
abbrev pub Follows : CapSet → List Rec → Rec → Type 0
Follows bound before r = FollowsBy bound (is_known before) (caps_of bound before) r

-- each record may come after those before it
abbrev pub AllFollow : CapSet → List Rec → Type 0
AllFollow bound recs = (before after : List Rec) (r : Rec) → recs ≡ before ++ r ∷ after → Follows bound before r
