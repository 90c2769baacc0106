-- What each command promises, where the ends that it uses report their bytes.
use Rattle.std.specs.Prelude.{◌≡◌, ℕ, ◌≤◌, true, List, Some, length}
use Rattle.cap_bits.specs.declared.cap.Cap.{Cap}
use Rattle.cap_bits.specs.CapSet.{has}
use Rattle.lab_lattice.specs.Label.{Label}
use Rattle.lab_text.specs.Text.{parse_label}
use Rattle.kern_model.specs.declared.limits.TheConstants.{MAX_INPUT}
use Rattle.kern_model.specs.Isolation.{up_to}
use Rattle.iso_laws.specs.Unnamed.{IsUnnamed}
use Rattle.ever_caps.specs.Uncrossed.{is_uncrossed}
use Rattle.lab_engine.specs.Input.{Accepted, Script, input_of}
use Rattle.lab_engine.specs.Order.{out_of, trail_of}
use Rattle.lab_engine.specs.Session.{numbered_recs, session_of}
use Rattle.lab_engine.specs.Viewing.{session_alone, view_text}
use Rattle.lab_engine.specs.Upgrading.{UpgradedTo}
use Rattle.labsys.specs.declared.command.Command.{Command}
use Rattle.labsys.specs.declared.command.Command.TheVariants.{Lineage, OnInput}
use Rattle.labsys.specs.declared.command.InputCommand.TheVariants.{Least, Never, Play, Sched, Upgrade, View}
use Rattle.labsys.specs.declared.status.Status.{Status}
use Rattle.labsys.specs.declared.status.Status.TheVariants.{Done, ReadFault}
use Rattle.labsys.specs.Commands.{due}
use Rattle.labsys.specs.Never.{never_text, unexercised}
use Rattle.labsys.specs.Clauses.{Reports, reports_used, run_of, OnWhole, WhereReported, WhereAccepted, PlayedTaken, Covered, RepliesFirst, Printed, Dropped, Isolated, IsolatedWhole, SameBelow, TwoInputs, TwoWhole, recs_in, trail_with}
use Rattle.labsys.specs.Least.{NarrowedTo}
use Rattle.labsys.specs.Lineage.{AnsweredYes, PrintedByAny}
use Rattle.labsys.specs.LineageText.{SaysLineage}
use Rattle.labsys.specs.ScheduleClauses.{Schedules}

-- the world was accepted, and P holds of it, of its script, and of what the output and the trail got
abbrev pub OnAccepted : Reports → Reports → (Accepted → Script → List ℕ → List ℕ → Type 0) → Type 0
OnAccepted old now P = WhereReported old now (λ text out trail. WhereAccepted text (λ a script. P a script out trail))

-- the same of two inputs that look the same to a label, of which the first was played and the other is any
abbrev pub OnTwo : Label → List ℕ → Reports → Reports
    → (Accepted → Script → Accepted → Script → List ℕ → Type 0) → Type 0
OnTwo l other old now P = OnAccepted old now
    (λ a script out trail. WhereAccepted other (λ b script'. SameBelow l a script b script' → P a script b script' out))

-- a run of `play` with this status, by what the three ends reported before it and after it
pub record Plays (status : Status) (old now : Reports) : Type 0 where
  -- Where a reply was written, the trail has its head and the records of that call and of all before it.
  pub covered : OnAccepted old now (λ a script out trail. Covered (session_of a script) out trail)
  -- A byte of a call's record is written only after the replies to all calls before it.
  pub replies_first : OnAccepted old now (λ a script out trail. RepliesFirst (session_of a script) out trail)
  -- Where a read failed, all calls in the bytes that were taken were played, and nothing else was written.
  pub line_by_line : status ≡ ReadFault → WhereReported old now (λ text out trail. PlayedTaken text now.left out trail)
  -- Up to the first record that crosses a label, the replies below it are those of the part below it alone.
  pub isolated : (l : Label) → OnAccepted old now (λ a script out trail. Isolated l a script out)
  -- In a whole run that no record crosses they are all of them.
  pub isolated_whole : (l : Label)
      → OnWhole status (OnAccepted old now (λ a script out trail. IsolatedWhole l a script out))
  -- Inputs that look the same from below get the same replies there, each up to its first crossing.
  pub two_inputs : (l : Label) (other : List ℕ)
      → OnTwo l other old now (λ a script b script' out. TwoInputs l a script b script' out)
  -- In whole runs that no record crosses they are equal.
  pub two_whole : (l : Label) (other : List ℕ)
      → OnWhole status (OnTwo l other old now (λ a script b script' out. TwoWhole l a script b script' out))
  -- Each end line has the capability sets that the records give, all of which are in the trail then.
  pub printed : OnAccepted old now (λ a script out trail. Printed (session_of a script) out trail)
  -- The trail is read as these records. Whatever records it is read as, each end line has the capability sets that they
  -- give.
  pub printed_by_any : OnAccepted old now (λ a script out trail. PrintedByAny (session_of a script) out trail)
  -- The trail is of records in which permitted sets grow by exec alone.
  pub dropped : OnAccepted old now (λ a script out trail. Dropped (session_of a script) trail)
  -- Of the trail of a whole run, where it is no longer than an input may be, `lineage` has to write `yes` and the
  -- number of the records of the run.
  pub answered_yes : OnWhole status (OnAccepted old now
      (λ a script out trail. length trail ≤ MAX_INPUT → AnsweredYes (session_of a script) trail))

-- a run of `view` of a label's word, with this status
pub record Views (word : List ℕ) (status : Status) (old now : Reports) : Type 0 where
  -- Where no record of the whole run crosses the label, `view` writes what it writes of the part below the label alone.
  pub view_alone : (l : Label) → status ≡ Done
      → OnAccepted (reports_used (OnInput (View word)) old) (reports_used (OnInput (View word)) now)
      (λ a script out trail. parse_label a.policy word ≡ Some l → up_to l (run_of a script) ≡ run_of a script
      → out ≡ view_text l (session_alone l a script))

-- a run of `upgrade`, with this status
pub record Upgrades (status : Status) (old now : Reports) : Type 0 where
  -- The output is the canonical text of the world, and after it each line behind the line `script`, unchanged. Where no
  -- line is too long, nor the output as a whole, it is the same input.
  pub upgraded : status ≡ Done
      → WhereReported (reports_used (OnInput Upgrade) old) (reports_used (OnInput Upgrade) now) (λ text out trail. UpgradedTo text out)

-- a run of `least`, with this status
pub record Narrows (status : Status) (old now : Reports) : Type 0 where
  -- The output is the line of the capabilities that the script did not need, and the canonical text of the world
  -- without them. Where no line is too long, nor the output with all that stands behind the line `script`, these two
  -- are an input with that world and the same calls, and each call gets the same reply.
  pub narrowed : status ≡ Done
      → WhereReported (reports_used (OnInput Least) old) (reports_used (OnInput Least) now) (λ text out trail. NarrowedTo text out)

-- what `never` says of an accepted world holds of an input with this world, whatever script follows it
pub record HoldsOf (a : Accepted) (other : List ℕ) (script : Script) : Type 0 where
  -- The trail that is due of `play` is the one with the records of the run.
  pub trail : trail_of (due (OnInput Play) other).order ≡ trail_with (session_of a script) (numbered_recs (session_of a script))
  -- No record of them is an exercise of a capability of the first line.
  pub unexercised : (c : Cap) → has (unexercised a.world) c ≡ true
      → IsUnnamed c (recs_in (numbered_recs (session_of a script)))
  -- No call has a record that crosses a label which has a line `uncrossed`.
  pub uncrossed : (l : Label) → is_uncrossed l a.world ≡ true → up_to l (run_of a script) ≡ run_of a script
  -- What is due of `view` of such a label is what it writes of the part below the label alone.
  pub viewed : (l : Label) (word : List ℕ) → is_uncrossed l a.world ≡ true → parse_label a.policy word ≡ Some l
      → out_of (due (OnInput (View word)) other).order ≡ view_text l (session_alone l a script)

-- a run of `never`, with this status
pub record SaysNever (status : Status) (old now : Reports) : Type 0 where
  -- The output is what is said of the world, and that holds of each input with this world, whatever script follows it.
  pub for_all : status ≡ Done → OnAccepted (reports_used (OnInput Never) old) (reports_used (OnInput Never) now)
      (λ a script out trail. (out ≡ never_text a)
      × ((other : List ℕ) → (input_of other).accepted ≡ Some a → HoldsOf a other (input_of other).script))

-- a run of `lineage`, with this status
pub record ChecksLineage (status : Status) (old now : Reports) : Type 0 where
  -- The input is the text of a trail. The output is `yes` and the number of its records, each of which may come after
  -- those before it; or it is `no`, with the line of the first record that may not, and why.
  pub answers : status ≡ Done
      → WhereReported (reports_used Lineage old) (reports_used Lineage now) (λ text out trail. SaysLineage text out)

-- what a command promises besides, with this status:
-- * `play`, records before replies, isolation, the capability sets at the end, and a trail of which `lineage` says `yes`;
-- * `sched`, records before replies, isolation of programs that react, the capability sets at the end, and such a trail;
-- * `view`, that it writes what it writes of the part below its label alone;
-- * `upgrade`, the same world and the same script, in the format of today;
-- * `least`, that the world without the capabilities that the script did not need gives the same replies to it;
-- * `never`, that what it says of the world holds of each input with this world, whatever script follows it;
-- * `lineage`, that each record of the trail may come after those before it, or the first that may not is named.
abbrev pub PromisedBy : Command → Status → Reports → Reports → Type 0
PromisedBy (OnInput Play) status old now = Plays status old now
PromisedBy (OnInput Sched) status old now = Schedules status old now
PromisedBy (OnInput (View word)) status old now = Views word status old now
PromisedBy (OnInput Upgrade) status old now = Upgrades status old now
PromisedBy (OnInput Least) status old now = Narrows status old now
PromisedBy (OnInput Never) status old now = SaysNever status old now
PromisedBy Lineage status old now = ChecksLineage status old now
PromisedBy _ status old now = Unit {0}
