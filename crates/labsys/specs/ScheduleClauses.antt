-- What is promised of a run of programs, by the bytes of its ends.
use Rattle.std.specs.Prelude.{◌≡◌, ℕ, ◌≤◌, false, List, length, take}
use Rattle.std.specs.List.{list_any}
use Rattle.lab_lattice.specs.Label.{Label}
use Rattle.kern_model.specs.declared.limits.TheConstants.{MAX_INPUT}
use Rattle.kern_model.specs.Boot.{boot}
use Rattle.kern_model.specs.Isolation.{part}
use Rattle.kern_model.specs.Prefixes.{IsPrefix, Agree}
use Rattle.lab_engine.specs.Input.{Accepted}
use Rattle.lab_engine.specs.Order.{IsInOrder, session_order}
use Rattle.lab_engine.specs.Session.{bytes_of, replies_of, session_of}
use Rattle.sched_engine.specs.declared.schedule.Schedule.{Schedule}
use Rattle.sched_progs.specs.Laws.{before_crossing, item_crosses, loop_alone, low_items, part_programs, part_slices}
use Rattle.sched_progs.specs.Turns.{LoopItem}
use Rattle.labsys.specs.declared.status.Status.{Status}
use Rattle.labsys.specs.Clauses.{Reports, WhereReported, OnWhole, Written, Covered, RepliesFirst, Printed, Dropped}
use Rattle.labsys.specs.Lineage.{AnsweredYes, PrintedByAny}
use Rattle.labsys.specs.Scheduling.{HasSchedule, chosen, loop_of, programs_of, session_by}

-- a text has a world and a schedule, and P holds of them
abbrev pub WhereScheduled : List ℕ → (Accepted → Schedule → Type 0) → Type 0
WhereScheduled text P = (a : Accepted) (s : Schedule) → programs_of text ≡ HasSchedule a s → P a s

-- the input has a world and a schedule, and P holds of them and of what the output and the trail got
abbrev pub OnScheduled : Reports → Reports → (Accepted → Schedule → List ℕ → List ℕ → Type 0) → Type 0
OnScheduled old now P = WhereReported old now (λ text out trail. WhereScheduled text (λ a s. P a s out trail))

-- ---- isolation

-- the calls that l sees of some: those of Low numbers before the first that crosses l, each with its reply and its
-- records
abbrev pub seen_of : Label → List LoopItem → List LoopItem
seen_of l items = low_items l (before_crossing l items)

-- what the part of a world and of programs below l does, in the turns of Low labels, with nothing else there
abbrev pub loop_below : Label → Accepted → Schedule → List LoopItem
loop_below l a s = loop_alone l (boot a.world) s.programs s.slices s.rounds

-- of the calls whose replies were written, those that l sees are a prefix of what the part alone does
pub record LoopIsolated (l : Label) (a : Accepted) (s : Schedule) (out : List ℕ) : Type 0 where
  pub written : Written (bytes_of (session_by a s)) out
  pub seen : IsPrefix (seen_of l (take written.count (loop_of a s))) (loop_below l a s)

-- the output has all replies, and where no call crosses l those of Low numbers are all that the part alone does
pub record LoopIsolatedWhole (l : Label) (a : Accepted) (s : Schedule) (out : List ℕ) : Type 0 where
  pub written : IsPrefix (replies_of (bytes_of (session_by a s))) out
  pub seen : list_any (item_crosses l) (loop_of a s) ≡ false → low_items l (loop_of a s) ≡ loop_below l a s

-- two inputs that look the same to l: one policy, one part of the worlds, the same programs of Low numbers and the same
-- turns of Low labels
pub record SameProgramsBelow (l : Label) (a : Accepted) (s : Schedule) (b : Accepted) (t : Schedule) : Type 0 where
  pub policy : a.policy ≡ b.policy
  pub world : part l (boot a.world) ≡ part l (boot b.world)
  pub programs : part_programs l s.programs ≡ part_programs l t.programs
  pub slices : part_slices l s.slices ≡ part_slices l t.slices
  pub rounds : s.rounds ≡ t.rounds

-- of what l sees of the calls whose replies were written and of the first calls of the other run, one list begins with
-- the other
pub record TwoLoops (l : Label) (a : Accepted) (s : Schedule) (b : Accepted) (t : Schedule)
    (out : List ℕ) : Type 0 where
  pub written : Written (bytes_of (session_by a s)) out
  pub agree : (n : ℕ) → Agree (seen_of l (take written.count (loop_of a s))) (seen_of l (take n (loop_of b t)))

-- the output has all replies, and where neither run crosses l the calls of Low numbers are the other run's
pub record TwoLoopsWhole (l : Label) (a : Accepted) (s : Schedule) (b : Accepted) (t : Schedule)
    (out : List ℕ) : Type 0 where
  pub written : IsPrefix (replies_of (bytes_of (session_by a s))) out
  pub equal : list_any (item_crosses l) (loop_of a s) ≡ false → list_any (item_crosses l) (loop_of b t) ≡ false
      → low_items l (loop_of a s) ≡ low_items l (loop_of b t)

-- the input and another one, which look the same to l, have a world and a schedule each, and P holds of these and of
-- what the output got
abbrev pub OnTwoScheduled : Label → List ℕ → Reports → Reports
    → (Accepted → Schedule → Accepted → Schedule → List ℕ → Type 0) → Type 0
OnTwoScheduled l other old now P =
    OnScheduled old now (λ a s out trail. WhereScheduled other (λ b t. SameProgramsBelow l a s b t → P a s b t out))

-- ---- a run

-- a run of `sched` with this status, by what the three ends reported before it and after it
pub record Schedules (status : Status) (old now : Reports) : Type 0 where
  -- Where a reply was written, the trail has its head and the records of that call and of all before it.
  pub covered : OnScheduled old now (λ a s out trail. Covered (session_by a s) out trail)
  -- A byte of a call's record is written only after the replies to all calls before it.
  pub replies_first : OnScheduled old now (λ a s out trail. RepliesFirst (session_by a s) out trail)
  -- What is written is what `play` writes of the script that the programs choose.
  pub as_played : OnScheduled old now (λ a s out trail. IsInOrder (session_order (session_of a (chosen a s))) out trail)
  -- Up to the first record that crosses a label, programs below it make the calls that they make with nothing else
  -- there, in the same turns, and get the same replies.
  pub isolated : (l : Label) → OnScheduled old now (λ a s out trail. LoopIsolated l a s out)
  -- In a whole run that no record crosses these are all their calls.
  pub isolated_whole : (l : Label) → OnWhole status (OnScheduled old now (λ a s out trail. LoopIsolatedWhole l a s out))
  -- Inputs that look the same from below make the same calls there and get the same replies, each up to its first
  -- crossing.
  pub two_inputs : (l : Label) (other : List ℕ) → OnTwoScheduled l other old now (λ a s b t out. TwoLoops l a s b t out)
  -- In whole runs that no record crosses they are equal.
  pub two_whole : (l : Label) (other : List ℕ)
      → OnWhole status (OnTwoScheduled l other old now (λ a s b t out. TwoLoopsWhole l a s b t out))
  -- Each end line has the capability sets that the records give, all of which are in the trail then.
  pub printed : OnScheduled old now (λ a s out trail. Printed (session_by a s) out trail)
  -- The trail is read as these records. Whatever records it is read as, each end line has the capability sets that they
  -- give.
  pub printed_by_any : OnScheduled old now (λ a s out trail. PrintedByAny (session_by a s) out trail)
  -- The trail is of records in which permitted sets grow by exec alone.
  pub dropped : OnScheduled old now (λ a s out trail. Dropped (session_by a s) trail)
  -- Of the trail of a whole run, where it is no longer than an input may be, `lineage` has to write `yes` and the
  -- number of the records of the run.
  pub answered_yes : OnWhole status (OnScheduled old now
      (λ a s out trail. length trail ≤ MAX_INPUT → AnsweredYes (session_by a s) trail))
