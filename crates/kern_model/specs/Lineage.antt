-- The capability sets that records give of a process, and how capabilities come into them.
use Rattle.std.specs.Prelude.{◌≡◌, true, false, ◌&&◌, ◌||◌, List, [], ◌∷◌, ◌++◌, cond}
use Rattle.std.specs.List.{flat_map}
use Rattle.cap_bits.specs.CapSet.{CapSet, has, is_within}
use Rattle.cap_bits.specs.declared.cap.Cap.{Cap}
use Rattle.cap_bits.specs.declared.state.CapState.{CapState}
use Rattle.cap_bits.specs.State.{no_flags}
use Rattle.lab_lattice.specs.Label.{Label}
use Rattle.kern_model.specs.declared.numbers.Oid.{Oid}
use Rattle.kern_model.specs.declared.numbers.Pid.{Pid}
use Rattle.kern_model.specs.declared.records.Rec.{Rec}
use Rattle.kern_model.specs.declared.records.Rec.TheVariants as rec
use Rattle.kern_model.specs.declared.world.World.{World}
use Rattle.kern_model.specs.declared.world.ScriptItem.{ScriptItem}
use Rattle.kern_model.specs.Exec.{exec_caps}
use Rattle.kern_model.specs.Keys.{same_pid}
use Rattle.kern_model.specs.Boot.{boot, boot_recs}
use Rattle.kern_model.specs.Run.{CallRecord, run}

-- what a record makes of the sets that were given of each process before it: a start and `cap_set_proc` give those in the
-- record, a child has its parent's, a program makes the exec formula of them, and any other record leaves them
abbrev pub caps_after_one : CapSet → (Pid → CapState) → Rec → Pid → CapState
caps_after_one bound before (rec.Boot who label caps) q = cond (same_pid q who) caps (before q)
caps_after_one bound before (rec.Fork who child) q = cond (same_pid q child) (before who) (before q)
caps_after_one bound before (rec.Exec who id file new) q = cond (same_pid q who) (exec_caps (before q) file bound) (before q)
caps_after_one bound before (rec.CapSetProc who caps) q = cond (same_pid q who) caps (before q)
caps_after_one bound before _ q = before q

-- what records make of them, from the first to the last
abbrev pub caps_after : CapSet → (Pid → CapState) → List Rec → Pid → CapState
caps_after bound before [] q = before q
caps_after bound before (r ∷ rs) q = caps_after bound (caps_after_one bound before r) rs q

-- the capability sets of a process by the records alone; without a record of it they are empty
abbrev pub caps_of : CapSet → List Rec → Pid → CapState
caps_of bound rs q = caps_after bound (λ _. no_flags) rs q

-- all records of a run: those of the start, and those of each call
abbrev pub all_recs : World → List ScriptItem → List Rec
all_recs w items = boot_recs w ++ flat_map (λ (p : CallRecord). p.recs) (run (boot w) items)

-- what `cap_set_proc` makes permitted was permitted, by the records before its own
abbrev pub OnlyDrops : CapSet → List Rec → Type 0
OnlyDrops bound recs = (before after : List Rec) (who : Pid) (caps : CapState) → recs ≡ before ++ rec.CapSetProc who caps ∷ after → is_within caps.p (caps_of bound before who).p ≡ true

-- what a process was before a record: the parent, where the record makes it as a child
abbrev pub origin : Rec → Pid → Pid
origin (rec.Fork who child) q = cond (same_pid q child) who q
origin _ q = q

-- what a process was before records: itself, or the one that it descends from
abbrev pub ancestor : List Rec → Pid → Pid
ancestor [] q = q
ancestor (r ∷ rs) q = origin r (ancestor rs q)

-- the process that a process descends from started with these sets
pub record StartedWith (recs : List Rec) (q : Pid) (caps : CapState) : Type 0 where
  pub before : List Rec
  pub after : List Rec
  pub label : Label
  pub split : recs ≡ before ++ rec.Boot (ancestor after q) label caps ∷ after

-- the process that a process descends from started
pub record HasStarted (recs : List Rec) (q : Pid) : Type 0 where
  pub caps : CapState
  pub started : StartedWith recs q caps

-- a program gave a capability to an ancestor of a process: the file permits it and the bound has it, or the file inherits it
-- and so does the ancestor, by the records before that of the program
pub record FromExec (bound : CapSet) (recs : List Rec) (q : Pid) (cap : Cap) : Type 0 where
  pub before : List Rec
  pub after : List Rec
  pub id : Oid
  pub file : CapState
  pub new : CapState
  pub split : recs ≡ before ++ rec.Exec (ancestor after q) id file new ∷ after
  pub given : (has file.p cap && has bound cap || has file.i cap && has (caps_of bound before (ancestor after q)).i cap) ≡ true

-- no process starts twice
abbrev pub StartOnce : List Rec → Type 0
StartOnce recs = (before between after : List Rec) (who : Pid) (label label' : Label) (caps caps' : CapState) → recs ≡ before ++ rec.Boot who label caps ∷ (between ++ rec.Boot who label' caps' ∷ after) → ⊥

-- permitted sets grow by exec alone
pub record GrowsByExec (bound : CapSet) (recs : List Rec) : Type 0 where
  pub start_once : StartOnce recs
  -- a process that is permitted something descends from one that started
  pub started : (q : Pid) (cap : Cap) → has (caps_of bound recs q).p cap ≡ true → HasStarted recs q
  -- and what that one was not permitted at its start is from a program
  pub grown : (q : Pid) (cap : Cap) (caps : CapState) → has (caps_of bound recs q).p cap ≡ true → StartedWith recs q caps → has caps.p cap ≡ false → FromExec bound recs q cap
