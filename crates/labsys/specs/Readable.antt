-- That the records of a run are read from their lines, as long as it goes on.
use Rattle.std.specs.Prelude.{◌≡◌, ◌⊎◌, ℕ, List, Some}
use Rattle.std.specs.List.{AllByRecursion}
use Rattle.lab_text.specs.Policy.{PolicyNames}
use Rattle.kern_model.specs.declared.records.Rec.{Rec}
use Rattle.lab_engine.specs.Input.{Accepted, Script, Input}
use Rattle.lab_engine.specs.Session.{Session, session_of, numbered_recs}
use Rattle.lab_engine.specs.Order.{Sent, order_before_end}
use Rattle.lab_engine.specs.Playing.{Ends, SendsPrefix}
use Rattle.lab_engine.specs.Readable.{IsReadable}
use Rattle.sched_engine.specs.declared.schedule.Schedule.{Schedule}
use Rattle.labsys.specs.Scheduling.{HasSchedule, ProgramInput, session_by}

-- either these records are readable, or a prefix of an order was written in which no end line stands
abbrev pub ReadableOrStopped : PolicyNames → List (ℕ × Rec) → List Sent → Ends → Ends → Type 0
ReadableOrStopped policy recs order before after =
    AllByRecursion (IsReadable policy) recs ⊎ SendsPrefix order before after

-- the same of all records of what was played
abbrev pub RunReadable : Session → Ends → Ends → Type 0
RunReadable s before after = ReadableOrStopped s.policy (numbered_recs s) (order_before_end s) before after

-- the same of an accepted world and its script
abbrev pub SessionReadable : Accepted → Script → Ends → Ends → Type 0
SessionReadable a script before after = RunReadable (session_of a script) before after

-- the same where the world of an input was accepted
abbrev pub InputReadable : Input → Ends → Ends → Type 0
InputReadable i before after = (a : Accepted) → i.accepted ≡ Some a → SessionReadable a i.script before after

-- the same where an input has a world and a schedule
abbrev pub ProgramsReadable : ProgramInput → Ends → Ends → Type 0
ProgramsReadable i before after =
    (a : Accepted) (s : Schedule) → i ≡ HasSchedule a s → RunReadable (session_by a s) before after
