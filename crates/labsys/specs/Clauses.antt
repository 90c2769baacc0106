-- What is promised of a run, by the bytes of its ends.
use Rattle.std.specs.Prelude.{◌≡◌, ℕ, ◌+◌, ◌≤◌, ◌<◌, Bool, true, false, List, [], ◌++◌, length, map, take, Result, Ok, Err, Option, None, Some}
use Rattle.std.specs.List.{flat_map}
use Rattle.std.specs.Io.KnownBytes.{Consumes}
use Rattle.std.specs.FinMap as finite
use Rattle.lab_lattice.specs.Label.{Label}
use Rattle.aud_record.specs.Written.{rec_text, header_text}
use Rattle.kern_model.specs.declared.records.Rec.{Rec}
use Rattle.kern_model.specs.Boot.{boot}
use Rattle.kern_model.specs.Run.{CallRecord, run}
use Rattle.kern_model.specs.Lineage.{caps_of, OnlyDrops, GrowsByExec}
use Rattle.kern_model.specs.Isolation.{part, part_script, answers, alone, up_to}
use Rattle.kern_model.specs.Prefixes.{IsPrefix, Agree}
use Rattle.lab_engine.specs.declared.ending.InputEnd.{InputEnd}
use Rattle.lab_engine.specs.declared.ending.InputEnd.TheVariants.{Whole, Refused as IsRefused, RefusedWord, TooMuch}
use Rattle.lab_engine.specs.declared.ending.Fault.{Fault}
use Rattle.lab_engine.specs.declared.ending.Fault.TheVariants.{Read, Write, Trail, NoMemory as Memory}
use Rattle.labsys.specs.declared.command.Command.{Command}
use Rattle.labsys.specs.declared.status.Status.{Status}
use Rattle.labsys.specs.declared.status.Status.TheVariants.{Done, Refused, ReadFault, WriteFault, TrailFault, NoMemory, TooLong}
use Rattle.labsys.specs.Commands.{reads_source, writes_trail}
use Rattle.lab_engine.specs.Input.{Accepted, Script, input_of}
use Rattle.lab_engine.specs.Session.{Session, CallBytes, session_of, bytes_of, replies_of, records_of, head_text, numbered_recs}
use Rattle.lab_engine.specs.Texts.{end_text, label_in, last_text}

-- ---- what the ends report

-- the bytes that the source has left, and those that the output and the trail hold, each where its end reports them
pub record Reports : Type 0 where
  pub left : Option (List ℕ)
  pub out : Option (List ℕ)
  pub trail : Option (List ℕ)

-- the three together
abbrev pub reports : Option (List ℕ) → Option (List ℕ) → Option (List ℕ) → Reports
reports left out trail = record { left = left; out = out; trail = trail }

-- what an end reports, where one that is not used counts as one that holds nothing
abbrev pub if_used : Bool → Option (List ℕ) → Option (List ℕ)
if_used true bytes = bytes
if_used false bytes = Some []

-- the same of the three ends, by which of them a command uses
abbrev pub reports_used : Command → Reports → Reports
reports_used command r =
    record { left = if_used (reads_source command) r.left; out = r.out; trail = if_used (writes_trail command) r.trail }

-- the first bytes of the text were taken, these were appended to what the output and the trail held, all three report
-- it, and P holds of the text and of what was appended
pub record Moved (text before above : List ℕ) (now : Reports) (P : List ℕ → List ℕ → List ℕ → Type 0) : Type 0 where
  pub taken : List ℕ
  pub rest : List ℕ
  pub out : List ℕ
  pub trail : List ℕ
  pub text_is : text ≡ taken ++ rest
  pub left_is : now.left ≡ Some rest
  pub out_is : now.out ≡ Some (before ++ out)
  pub trail_is : now.trail ≡ Some (above ++ trail)
  pub holds : P text out trail

-- where all three ends reported their bytes at entry they do so at exit, and P holds of the text that the source had
-- and of what the output and the trail got
abbrev pub WhereReported : Reports → Reports → (List ℕ → List ℕ → List ℕ → Type 0) → Type 0
WhereReported old now P = (text before above : List ℕ) → old.left ≡ Some text → old.out ≡ Some before
    → old.trail ≡ Some above → Moved text before above now P

-- the world of a text was accepted, and P holds of it and of its script
abbrev pub WhereAccepted : List ℕ → (Accepted → Script → Type 0) → Type 0
WhereAccepted text P = (a : Accepted) → (input_of text).accepted ≡ Some a → P a (input_of text).script

-- the output has the replies to all calls, and the trail its head and their records; without an accepted world both
-- have nothing
abbrev pub HasAllCalls : Option Accepted → Script → List ℕ → List ℕ → Type 0
HasAllCalls None script out trail = (out ≡ []) × (trail ≡ [])
HasAllCalls (Some a) script out trail =
    (out ≡ replies_of (bytes_of (session_of a script)))
    × (trail ≡ head_text (session_of a script) ++ records_of (bytes_of (session_of a script)))

-- the same of the world and the calls in the bytes that were taken of a text
abbrev pub PlayedTaken : List ℕ → Option (List ℕ) → List ℕ → List ℕ → Type 0
PlayedTaken text left out trail = (taken rest : List ℕ) → text ≡ taken ++ rest → left ≡ Some rest
    → HasAllCalls (input_of taken).accepted (input_of taken).script out trail

-- at most so many bytes were taken
pub record TakesAtMost (most : ℕ) (left now : Option (List ℕ)) : Type 0 where
  pub taken : List ℕ
  pub took : Consumes left now taken
  pub few : length taken ≤ most

-- ---- statuses

-- the status of a run that ended so
abbrev pub status_of : Result InputEnd Fault → Status
status_of (Ok Whole) = Done
status_of (Ok (IsRefused n part why)) = Refused
status_of (Ok (RefusedWord word why)) = Refused
status_of (Ok TooMuch) = TooLong
status_of (Err Read) = ReadFault
status_of (Err Write) = WriteFault
status_of (Err Trail) = TrailFault
status_of (Err Memory) = NoMemory

-- the input was played to its end
abbrev pub OnWhole : Status → Type 0 → Type 0
OnWhole Done P = P
OnWhole Refused P = P
OnWhole TooLong P = P
OnWhole s P = Unit {0}

-- ---- replies and their records

-- where the output has the replies to the first calls, the trail has its head and their records
abbrev pub Covered : Session → List ℕ → List ℕ → Type 0
Covered s out trail = (m : ℕ) → m + 1 ≤ length (bytes_of s) → IsPrefix (replies_of (take (m + 1) (bytes_of s))) out
    → IsPrefix (head_text s ++ records_of (take (m + 1) (bytes_of s))) trail

-- where the trail goes on after the records of the first calls, the output has their replies
abbrev pub RepliesFirst : Session → List ℕ → List ℕ → Type 0
RepliesFirst s out trail =
    (m : ℕ) → m ≤ length (bytes_of s) → length (head_text s ++ records_of (take m (bytes_of s))) < length trail
    → IsPrefix (replies_of (take m (bytes_of s))) out

-- how many whole replies the output has
pub record Written (calls : List CallBytes) (out : List ℕ) : Type 0 where
  pub count : ℕ
  pub few : count ≤ length calls
  pub begins : IsPrefix (replies_of (take count calls)) out
  pub no_more : count + 1 ≤ length calls → length out < length (replies_of (take (count + 1) calls))

-- ---- records and capability sets

-- records without the numbers of their calls
abbrev pub recs_in : List (ℕ × Rec) → List Rec
recs_in recs = map (λ (r : ℕ × Rec). r.1) recs

-- the trail that has these records
abbrev pub trail_with : Session → List (ℕ × Rec) → List ℕ
trail_with s recs = header_text s.policy s.bound ++ flat_map (λ (r : ℕ × Rec). rec_text s.policy r.0 r.1) recs

-- the output in which each end line has the capability sets that these records give
abbrev pub out_with : Session → List Rec → List ℕ
out_with s recs = replies_of (bytes_of s)
    ++ (flat_map (λ who. end_text s.policy who (label_in s.last_state who) (Some (caps_of s.bound recs who)))
    (finite.keys s.last_state.procs) ++ last_text (length s.calls) s.ending)

-- each end line has the capability sets that the records give, and where the output goes on after the replies the trail
-- has them all
pub record Printed (s : Session) (out trail : List ℕ) : Type 0 where
  pub by_records : IsPrefix out (out_with s (recs_in (numbered_recs s)))
  pub recorded : length (replies_of (bytes_of s)) < length out → trail ≡ trail_with s (numbered_recs s)

-- the trail has a prefix of the records; in all of them `cap_set_proc` makes nothing permitted that was not, and
-- permitted sets grow by exec alone
pub record Dropped (s : Session) (trail : List ℕ) : Type 0 where
  pub begins : IsPrefix trail (trail_with s (numbered_recs s))
  pub drops : OnlyDrops s.bound (recs_in (numbered_recs s))
  pub grows : GrowsByExec s.bound (recs_in (numbered_recs s))

-- ---- isolation

-- the calls of an accepted world's script, as the table plays them
abbrev pub run_of : Accepted → Script → List CallRecord
run_of a script = run (boot a.world) script.items

-- up to the first call with a record that crosses l, the written replies to Low tags are a prefix of those of the run
-- of the Low items on the part of the world alone
pub record Isolated (l : Label) (a : Accepted) (script : Script) (out : List ℕ) : Type 0 where
  pub written : Written (bytes_of (session_of a script)) out
  pub reported : (m : ℕ) → m ≤ written.count → m ≤ length (up_to l (run_of a script))
      → IsPrefix (answers l (take m (run_of a script))) (alone l a.world script.items)

-- the output has all replies, and where no call crosses l those to Low tags are all of that run
pub record IsolatedWhole (l : Label) (a : Accepted) (script : Script) (out : List ℕ) : Type 0 where
  pub written : IsPrefix (replies_of (bytes_of (session_of a script))) out
  pub reported : up_to l (run_of a script) ≡ run_of a script
      → answers l (run_of a script) ≡ alone l a.world script.items

-- two inputs that look the same to l: one policy, one part of the worlds, one part of the scripts
pub record SameBelow (l : Label) (a : Accepted) (script : Script) (b : Accepted) (script' : Script) : Type 0 where
  pub policy : a.policy ≡ b.policy
  pub world : part l (boot a.world) ≡ part l (boot b.world)
  pub items : part_script l script.items ≡ part_script l script'.items

-- of the written replies to Low tags and those of the other run, each up to its first crossing, one list begins with
-- the other
pub record TwoInputs (l : Label) (a : Accepted) (script : Script) (b : Accepted) (script' : Script)
    (out : List ℕ) : Type 0 where
  pub written : Written (bytes_of (session_of a script)) out
  pub agree : (m n : ℕ) → m ≤ written.count → m ≤ length (up_to l (run_of a script))
      → n ≤ length (up_to l (run_of b script'))
      → Agree (answers l (take m (run_of a script))) (answers l (take n (run_of b script')))

-- the output has all replies, and where neither run crosses l those to Low tags are the other run's
pub record TwoWhole (l : Label) (a : Accepted) (script : Script) (b : Accepted) (script' : Script)
    (out : List ℕ) : Type 0 where
  pub written : IsPrefix (replies_of (bytes_of (session_of a script))) out
  pub equal : up_to l (run_of a script) ≡ run_of a script → up_to l (run_of b script') ≡ run_of b script'
      → answers l (run_of a script) ≡ answers l (run_of b script')
