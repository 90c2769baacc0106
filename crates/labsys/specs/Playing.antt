-- What a command did at its ends.
use Rattle.std.specs.Prelude.{◌≡◌, ℕ, ◌+◌, ◌≤◌, ◌^◌, true, List, ◌++◌, length, Option, Some, Result, Err, IfOk}
use Rattle.std.specs.Io.KnownBytes.{Consumes, IsAtEnd}
use Rattle.io_ends.specs.LinesState.{LinesState, may_take}
use Rattle.kern_model.specs.declared.limits.TheConstants.{MAX_INPUT}
use Rattle.kern_model.specs.World.{IsWorld}
use Rattle.lab_lattice.specs.Label.{Label}
use Rattle.lab_text.specs.Policy.{top_of}
use Rattle.world_text.specs.declared.format.Format.{Format}
use Rattle.lab_engine.specs.declared.ending.InputEnd.{InputEnd}
use Rattle.lab_engine.specs.declared.ending.InputEnd.TheVariants.{Whole as AllRead}
use Rattle.lab_engine.specs.declared.ending.Fault.{Fault}
use Rattle.lab_engine.specs.declared.ending.Fault.TheVariants.{Read}
use Rattle.lab_engine.specs.declared.keeping.Kept.{Kept}
use Rattle.lab_engine.specs.declared.opening.OpenedWorld.{OpenedWorld}
use Rattle.lab_engine.specs.Input.{Accepted, Script, input_of}
use Rattle.lab_engine.specs.Order.{calls_by, order_of_calls, to_out}
use Rattle.lab_engine.specs.Playing.{Ends, Sends, Writes}
use Rattle.lab_engine.specs.Reading.{least_at, left_of, script_at}
use Rattle.lab_engine.specs.Report.{caps_in}
use Rattle.lab_engine.specs.Session.{session_of}
use Rattle.labsys.specs.declared.command.Command.{Command}
use Rattle.labsys.specs.declared.command.Command.TheVariants.{OnInput}
use Rattle.labsys.specs.declared.command.InputCommand.{InputCommand}
use Rattle.labsys.specs.declared.command.InputCommand.TheVariants.{Least, Play, Sched, Upgrade}
use Rattle.labsys.specs.Clauses.{TakesAtMost}
use Rattle.labsys.specs.Commands.{due, reads_source, Due, ReadAs, due_of, due_with, ends_with, format_in, read_left, read_of, kind_of}
use Rattle.labsys.specs.Drilling.{drill_text}
use Rattle.labsys.specs.Least.{NarrowedReadsBack, needed_by}
use Rattle.labsys.specs.Readable.{InputReadable, ProgramsReadable}
use Rattle.labsys.specs.Upgrading.{WorldReadsBack}
use Rattle.labsys.specs.Viewing.{viewed_ending, viewed_text}

-- ---- a command

-- what holds besides of what a command has read: of `play` and `sched`, that the records which they wrote are readable
-- as long as the run goes on; of `upgrade` and `least`, that the text of the world which they wrote is read as that world
abbrev pub BesidesOf : (c : InputCommand) → ReadAs (kind_of c) → Result InputEnd Fault → Ends → Ends → Type 0
BesidesOf Play i r before after = InputReadable i before after
BesidesOf Sched i r before after = ProgramsReadable i before after
BesidesOf Upgrade i r before after = IfOk r (λ _. WorldReadsBack i)
BesidesOf Least i r before after = IfOk r (NarrowedReadsBack i)
BesidesOf _ i r before after = Unit {0}

-- the same of a command by the bytes of the source
abbrev pub Besides : Command → List ℕ → Result InputEnd Fault → Ends → Ends → Type 0
Besides (OnInput c) text r before after = BesidesOf c (read_of (kind_of c) text) r before after
Besides _ text r before after = Unit {0}

-- a command took bytes of the source, and wrote what is due of all its bytes; where it reads the source, and ended with
-- that whole, it read to its end; where a read of `play` failed, it had played all that it took
pub record CommandDid (command : Command) (result : Result InputEnd Fault) (left left' : Option (List ℕ))
    (before after : Ends) : Type 0 where
  pub taken : List ℕ
  pub took : Consumes left left' taken
  pub few : length taken ≤ MAX_INPUT + 1
  pub writes : Writes result (due command (taken ++ left_of left')).order before after
  pub status : IfOk result (λ e. ends_with e ≡ (due command (taken ++ left_of left')).status)
  pub to_the_end : reads_source command ≡ true → IfOk result (λ e. e ≡ AllRead → IsAtEnd left')
  pub by_line : command ≡ OnInput Play → result ≡ Err Read → Sends (order_of_calls (input_of taken)) before after
  pub besides : Besides command (taken ++ left_of left') result before after

-- ---- a command that reads an input: a world, and what follows it

-- the format of the input
abbrev pub format_of : InputCommand → Format
format_of c = format_in (kind_of c)

-- a world that was opened is one, its names make its highest label, and the reader of what follows it may go on
pub record IsOpened (o : OpenedWorld) : Type 0 where
  pub world : IsWorld o.read.world
  pub top : o.read.world.top ≡ top_of o.read.policy
  pub more : o.lines.more ≡ true
  pub small : o.lines.room ≤ 2 ^ 24

-- what is due of a command by an accepted world and by the bytes that are left at the reader of what follows it
abbrev pub due_left : InputCommand → Accepted → LinesState → List ℕ → Due
due_left c a lines more = due_of c (read_left (kind_of c) a lines more)

-- what holds besides, by the same
abbrev pub BesidesLeft : InputCommand → Accepted → LinesState → List ℕ → Result InputEnd Fault → Ends → Ends → Type 0
BesidesLeft c a lines more r before after = BesidesOf c (read_left (kind_of c) a lines more) r before after

-- what is due was written, by the bytes that were taken at a reader and those that are left; where that ended whole,
-- they were read to their end
pub record WritesLeft (due_of : List ℕ → Due) (result : Result InputEnd Fault) (lines : LinesState)
    (left left' : Option (List ℕ)) (before after : Ends) : Type 0 where
  pub reads : TakesAtMost (may_take lines) left left'
  pub writes : Writes result (due_of (reads.taken ++ left_of left')).order before after
  pub status : IfOk result (λ e. ends_with e ≡ (due_of (reads.taken ++ left_of left')).status)
  pub to_the_end : IfOk result (λ e. e ≡ AllRead → IsAtEnd left')

-- what a command did with an accepted world and with what follows it
pub record DoesWorld (command : InputCommand) (result : Result InputEnd Fault) (a : Accepted) (lines : LinesState)
    (left left' : Option (List ℕ)) (before after : Ends) : Type 0 where
  pub wrote : WritesLeft (due_left command a lines) result lines left left' before after
  pub by_line : command ≡ Play → result ≡ Err Read
      → Sends (calls_by (Some a) (script_at a.policy lines wrote.reads.taken)) before after
  pub besides : BesidesLeft command a lines (wrote.reads.taken ++ left_of left') result before after

-- ---- parts of a command

-- what is due of a view from a label, if there is one, by the same
abbrev pub due_of_label : Option Label → Accepted → LinesState → List ℕ → Due
due_of_label o a lines more = due_with (to_out (viewed_text o a (script_at a.policy lines more)))
    (viewed_ending o (script_at a.policy lines more).ending)

-- a script of an accepted world was played from the first state on, and its exercises name these capabilities
pub record NeededIn (a : Accepted) (m : Script) (left : Option (List ℕ)) (k : Kept) : Type 0 where
  pub ending : k.ending ≡ m.ending
  pub caps : caps_in k.report ≡ needed_by a m
  pub to_the_end : k.ending ≡ AllRead → IsAtEnd left

-- the same of the script at a reader, by the bytes that were taken and are left
pub record NeedsWorld (result : Result Kept Fault) (a : Accepted) (lines : LinesState)
    (left left' : Option (List ℕ)) : Type 0 where
  pub reads : TakesAtMost (may_take lines) left left'
  pub did : IfOk result (λ k. NeededIn a (least_at a.policy lines (reads.taken ++ left_of left')) left' k)

-- this is the line of what was played of an accepted world and its script, by the bytes that were taken and are left
pub record DrillsWorld (text : List ℕ) (n : ℕ) (a : Accepted) (lines : LinesState)
    (left left' : Option (List ℕ)) : Type 0 where
  pub reads : TakesAtMost (may_take lines) left left'
  pub is_line : text ≡ drill_text n (session_of a (script_at a.policy lines (reads.taken ++ left_of left')))
