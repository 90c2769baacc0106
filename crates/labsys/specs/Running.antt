-- What is promised of a run, by what contracts see of its three ends before it and after it.
use Rattle.std.specs.Prelude.{◌≡◌, ◌≢◌, ◌↔◌, ℕ, ◌+◌, true, List, None, Some, IfSome}
use Rattle.std.specs.declared.string.String.{String}
use Rattle.std.specs.declared.alloc.Global.{Global}
use Rattle.std.specs.Io.KnownBytes.{IsAtEnd}
use Rattle.io_ends.specs.Ends.{SinkView, SourceView}
use Rattle.kern_model.specs.declared.limits.TheConstants.{MAX_INPUT}
use Rattle.lab_engine.specs.Counts.{Counts, counts}
use Rattle.lab_engine.specs.Order.{IsInOrder, out_of, trail_of}
use Rattle.labsys.specs.declared.command.Command.{Command}
use Rattle.labsys.specs.declared.status.Status.{Status}
use Rattle.labsys.specs.declared.status.Status.TheVariants.{Done, Usage, ReadFault, TrailFault, NoMemory}
use Rattle.labsys.specs.Clauses.{OnWhole, Reports, TakesAtMost, WhereReported, if_used, reports, reports_used}
use Rattle.labsys.specs.Commands.{command_of, due, reads_source, writes_trail}
use Rattle.labsys.specs.Counts.{counts_after}
use Rattle.labsys.specs.Promises.{PromisedBy}

-- what contracts see of the source, the output and the trail
pub record RunEnds : Type 0 where
  pub source : SourceView
  pub out : SinkView
  pub trail : SinkView

-- the three together
abbrev pub run_ends : SourceView → SinkView → SinkView → RunEnds
run_ends source out trail = record { source = source; out = out; trail = trail }

-- the bytes that they report
abbrev pub reports_of : RunEnds → Reports
reports_of e = reports e.source.left e.out.held e.trail.held

-- how many faults each has counted
abbrev pub faults_in : RunEnds → Counts
faults_in e = counts e.source.faults e.out.faults e.trail.faults

-- P holds of the text that the source had and of what the output and the trail got, where the ends report their bytes
-- that a command uses
abbrev pub WhereUsed : Command → (old now : RunEnds) → (List ℕ → List ℕ → List ℕ → Type 0) → Type 0
WhereUsed command old now P =
    WhereReported (reports_used command (reports_of old)) (reports_used command (reports_of now)) P

-- a run of the command that the words name, if they name one, with this status
pub record Runs (words : List (String Global)) (status : Status) (old now : RunEnds) : Type 0 where
  -- With any status but 6, status 1 comes exactly where the words name no command.
  pub usage : status ≢ NoMemory → ((status ≡ Usage) ↔ (command_of words ≡ None))
  -- The first fault ends the run: one is counted with status 3, 4 or 5, by the end that it reports, and none with
  -- another.
  pub counts : faults_in now ≡ counts_after status (faults_in old)
  -- A read fault comes only of a command that reads the source, and a trail fault only of one that writes the trail.
  pub read_fault : IfSome (command_of words) (λ command. status ≡ ReadFault → reads_source command ≡ true)
  pub trail_fault : IfSome (command_of words) (λ command. status ≡ TrailFault → writes_trail command ≡ true)
  -- At every exit both sinks have received the bytes of a prefix of the one order. An end that the command does not use
  -- need not report.
  pub order : IfSome (command_of words) (λ command. WhereUsed command old now
      (λ text o t. IsInOrder (due command text).order o t))
  -- With status 0, 2 or 7 they have received all of it.
  pub whole : IfSome (command_of words) (λ command. OnWhole status (WhereUsed command old now
      (λ text o t. (o ≡ out_of (due command text).order) × (t ≡ trail_of (due command text).order))))
  -- Which of these three it is depends on the source's bytes alone, and of a command that does not read the source not
  -- on them.
  pub ending : IfSome (command_of words) (λ command. OnWhole status
      ((text : List ℕ) → if_used (reads_source command) old.source.left ≡ Some text
      → status ≡ (due command text).status))
  -- What each command promises besides.
  pub promised : IfSome (command_of words)
      (λ command. PromisedBy command status (reports_of old) (reports_of now))
  -- A command that reads the source reads it to its end where the input was accepted whole.
  pub to_the_end : IfSome (command_of words)
      (λ command. reads_source command ≡ true → status ≡ Done → IsAtEnd now.source.left)
  -- No more of it is read than the limit and one byte.
  pub few : TakesAtMost (MAX_INPUT + 1) old.source.left now.source.left
