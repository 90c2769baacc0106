-- Whether the records of a trail can follow one another, and where they first do not.
use Rattle.std.specs.Prelude.{◌≡◌, ⊤, ℕ, ◌+◌, ◌&&◌, ◌||◌, not, Bool, true, false, cond, List, [], ◌∷◌, ◌++◌, Option, None, Some, is_some, unwrap_or, length, map, codes}
use Rattle.std.specs.BTreeMap.{BTreeMap, get}
use Rattle.std.specs.Option.{option_or}
use Rattle.cap_bits.specs.CapSet.{CapSet, has, same_sets}
use Rattle.cap_bits.specs.declared.state.CapState.{CapState}
use Rattle.cap_bits.specs.State.{no_flags}
use Rattle.kern_model.specs.declared.numbers.Pid.{Pid}
use Rattle.kern_model.specs.declared.records.Rec.{Rec}
use Rattle.kern_model.specs.declared.records.Rec.TheVariants as rec
use Rattle.kern_model.specs.Exec.{exec_caps}
use Rattle.kern_model.specs.Keys.{pid_cmp}
use Rattle.kern_model.specs.Lineage.{caps_after_one, caps_of}
use Rattle.kern_model.specs.Records.{who_of}
use Rattle.kern_model.specs.Rules.{may_become}
use Rattle.iso_laws.specs.Follows.{makes_known, is_known, Follows, AllFollow}
use Rattle.aud_record.specs.declared.reading.ReadRec.{ReadRec}
use Rattle.aud_red.specs.declared.lineage.Lineage.{Lineage}
use Rattle.aud_red.specs.declared.lineage.Lineage.TheVariants as lineage
use Rattle.aud_red.specs.declared.lineage.Why.{Why}
use Rattle.aud_red.specs.declared.lineage.Why.TheVariants as why
use Rattle.aud_red.specs.declared.trail.Trail.{Trail}

-- the records of lines
abbrev pub recs_in : List ReadRec → List Rec
recs_in lines = map (λ (r : ReadRec). r.rec) lines

-- the records of a trail
abbrev pub recs_of : Trail → List Rec
recs_of t = recs_in t.recs

-- the word of a reason
abbrev pub why_word : Why → List ℕ
why_word why.Unknown = codes "unknown"
why_word why.Number = codes "number"
why_word why.Exec = codes "exec"
why_word why.Grow = codes "grow"
why_word why.Exercise = codes "exercise"

-- ---- why a record may not come, given which processes are known and which capability sets they have

-- a reason, where a test fails
abbrev pub unless : Bool → Why → Option Why
unless holds why = cond holds None (Some why)

-- whether the sets of two states are the same
abbrev pub same_states : CapState → CapState → Bool
same_states a b = same_sets a.e b.e && same_sets a.i b.i && same_sets a.p b.p

-- a process that starts is known, or another that a record is about is not; or the child of a fork is known
abbrev pub process_fault : (Pid → Bool) → Rec → Option Why
process_fault known (rec.Boot who label caps) = unless (not (known who)) why.Number
process_fault known (rec.Fork who child) = option_or (unless (known who) why.Unknown) (unless (not (known child)) why.Number)
process_fault known r = unless (known (who_of r)) why.Unknown

-- the sets that a program gives are not those of the exec formula, those that `cap_set_proc` gives cannot be had from the sets
-- before, or a capability that is exercised is not effective
abbrev pub sets_fault : CapSet → (Pid → CapState) → Rec → Option Why
sets_fault bound caps (rec.Exec who id file new) = unless (same_states new (exec_caps (caps who) file bound)) why.Exec
sets_fault bound caps (rec.CapSetProc who new) = unless (may_become (caps who) new) why.Grow
sets_fault bound caps (rec.Exercise exercise) = unless (has (caps exercise.who).e exercise.cap) why.Exercise
sets_fault bound caps _ = None

-- the first of these
abbrev pub why_not : CapSet → (Pid → Bool) → (Pid → CapState) → Rec → Option Why
why_not bound known caps r = option_or (process_fault known r) (sets_fault bound caps r)

-- ---- the answer of a trail

-- a record with this place ends the answer where there is a reason, else the records after it give it
abbrev pub answer_at : ℕ → Option Why → Lineage → Lineage
answer_at at None rest = rest
answer_at at (Some why) rest = lineage.No at why

-- which processes are known after a record
abbrev pub known_with : (Pid → Bool) → Rec → Pid → Bool
known_with known r q = makes_known q r || known q

-- the answer of records from this place on
abbrev pub lineage_from : CapSet → (Pid → Bool) → (Pid → CapState) → ℕ → List Rec → Lineage
lineage_from bound known caps at [] = lineage.Yes
lineage_from bound known caps at (r ∷ rs) = answer_at at (why_not bound known caps r) (lineage_from bound (known_with known r) (caps_after_one bound caps r) (at + 1) rs)

-- the answer of all records: before them no process is known
abbrev pub lineage_of : CapSet → List Rec → Lineage
lineage_of bound recs = lineage_from bound (λ _. false) (λ _. no_flags) 0 recs

-- ---- what the answer No means

-- a process that starts is known, or the child that a known process makes is
abbrev pub IsNumberUsed : (Pid → Bool) → Rec → Type 0
IsNumberUsed known (rec.Boot who label caps) = known who ≡ true
IsNumberUsed known (rec.Fork who child) = (known who ≡ true) × (known child ≡ true)
IsNumberUsed known _ = ⊥

-- a process that a record is about is not known, and the record does not start it
abbrev pub IsUnknown : (Pid → Bool) → Rec → Type 0
IsUnknown known (rec.Boot who label caps) = ⊥
IsUnknown known r = known (who_of r) ≡ false

-- the sets that a program gives a known process are not those of the exec formula
abbrev pub IsOtherExec : CapSet → (Pid → Bool) → (Pid → CapState) → Rec → Type 0
IsOtherExec bound known caps (rec.Exec who id file new) = (known who ≡ true) × (new ≡ exec_caps (caps who) file bound → ⊥)
IsOtherExec bound known caps _ = ⊥

-- the sets that a known process gives itself cannot be had from those before
abbrev pub IsGrowth : (Pid → Bool) → (Pid → CapState) → Rec → Type 0
IsGrowth known caps (rec.CapSetProc who new) = (known who ≡ true) × (may_become (caps who) new ≡ false)
IsGrowth known caps _ = ⊥

-- a known process exercises a capability that is not effective
abbrev pub IsOutsideEffective : (Pid → Bool) → (Pid → CapState) → Rec → Type 0
IsOutsideEffective known caps (rec.Exercise exercise) = (known exercise.who ≡ true) × (has (caps exercise.who).e exercise.cap ≡ false)
IsOutsideEffective known caps _ = ⊥

-- what each reason says of a record, by the processes that are known and their capability sets
abbrev pub IsReason : CapSet → (Pid → Bool) → (Pid → CapState) → Rec → Why → Type 0
IsReason bound known caps r why.Unknown = IsUnknown known r
IsReason bound known caps r why.Number = IsNumberUsed known r
IsReason bound known caps r why.Exec = IsOtherExec bound known caps r
IsReason bound known caps r why.Grow = IsGrowth known caps r
IsReason bound known caps r why.Exercise = IsOutsideEffective known caps r

-- the record at a place is the first that does not follow the ones before it, and the reason is so
pub record FailsAt (bound : CapSet) (recs : List Rec) (at : ℕ) (why : Why) : Type 0 where
  pub before : List Rec
  pub after : List Rec
  pub r : Rec
  pub split : recs ≡ before ++ r ∷ after
  pub place : length before ≡ at
  pub follow : AllFollow bound before
  pub fails : Follows bound before r → ⊥
  pub reason : IsReason bound (is_known before) (caps_of bound before) r why

-- a fact of the place and the reason, where the answer is No
abbrev pub IfNo : Lineage → (ℕ → Why → Type 0) → Type 0
IfNo lineage.Yes P = ⊤
IfNo (lineage.No at why) P = P at why

-- ---- the map from processes to capability sets

-- whether a process is in the map
abbrev pub is_in : BTreeMap Pid CapState → Pid → Bool
is_in known q = is_some (get pid_cmp known q)

-- the sets that the map has of a process
abbrev pub caps_in : BTreeMap Pid CapState → Pid → CapState
caps_in known q = unwrap_or (get pid_cmp known q) no_flags

-- the process that a record starts, makes or gives sets, and its sets after the record
abbrev pub entry_of : (Pid → CapState) → Rec → Option (Pid × CapState)
entry_of caps (rec.Boot who label new) = Some (who, new)
entry_of caps (rec.Fork who child) = Some (child, caps who)
entry_of caps (rec.Exec who id file new) = Some (who, new)
entry_of caps (rec.CapSetProc who new) = Some (who, new)
entry_of caps _ = None

-- a map has after a record what it had before it and what the record gives
pub record IsAfter (bound : CapSet) (old : BTreeMap Pid CapState) (r : Rec) (new : BTreeMap Pid CapState) : Type 0 where
  pub known : (q : Pid) → is_in new q ≡ known_with (is_in old) r q
  pub caps : (q : Pid) → caps_in new q ≡ caps_after_one bound (caps_in old) r q

-- so it is under each bound under which the record may come
abbrev pub Adds : BTreeMap Pid CapState → Rec → BTreeMap Pid CapState → Type 0
Adds old r new = (bound : CapSet) → why_not bound (is_in old) (caps_in old) r ≡ None → IsAfter bound old r new
