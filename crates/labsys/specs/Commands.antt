-- The commands: which words name one, what each reads, and what each is to write of the bytes of a source.
use Rattle.std.specs.Prelude.{ℕ, ◌≤◌, Bool, true, false, cond, List, [], ◌∷◌, Option, Some, None, codes}
use Rattle.std.specs.Option.{option_map}
use Rattle.std.specs.declared.string.String.{String}
use Rattle.std.specs.declared.alloc.Global.{Global}
use Rattle.fs_path.specs.Options.{then}
use Rattle.fs_path.specs.Values.{numeral}
use Rattle.gen_world.specs.declared.generator.TheConstants.{MAX_LINES}
use Rattle.gen_world.specs.Text.{gen_text}
use Rattle.lab_text.specs.Names.{same_bytes}
use Rattle.lab_usage.specs.Words.{Given, given_words}
use Rattle.labsys.specs.declared.command.Command.{Command}
use Rattle.labsys.specs.declared.command.Command.TheVariants.{OnInput, Gen, Drill, Select, Lineage}
use Rattle.labsys.specs.declared.command.InputCommand.TheVariants.{Play, Sched, Check, View, Upgrade, Least, Never}
use Rattle.lab_engine.specs.declared.ending.InputEnd.TheVariants.{Whole, Refused as IsRefused, RefusedWord, TooMuch}
use Rattle.labsys.specs.Drilling.{drilled_text}
use Rattle.labsys.specs.LineageText.{ending_of_lineage, text_of_lineage}
use Rattle.labsys.specs.Selecting.{ending_by_word, text_of_select}
use Rattle.labsys.specs.Trails.{trail_in}
use Rattle.labsys.specs.declared.trails.ReadTrail.{ReadTrail}
use Rattle.lab_engine.specs.Order.{to_out, Sent, order_of}
use Rattle.io_ends.specs.LinesState.{LinesState}
use Rattle.world_text.specs.declared.format.Format.{Format}
use Rattle.world_text.specs.declared.format.Format.TheVariants.{One, Two}
use Rattle.lab_engine.specs.declared.ending.InputEnd.{InputEnd}
use Rattle.lab_engine.specs.Input.{Accepted, Input, input_of, no_world}
use Rattle.lab_engine.specs.LeastInput.{least_of}
use Rattle.lab_engine.specs.Reading.{least_at, script_at, upgrade_at}
use Rattle.lab_engine.specs.UpgradeInput.{UpgradeInput, kept_script, upgrade_of}
use Rattle.sched_engine.specs.Reading.{schedule_at}
use Rattle.labsys.specs.declared.command.InputCommand.{InputCommand}
use Rattle.labsys.specs.declared.status.Status.{Status}
use Rattle.labsys.specs.declared.status.Status.TheVariants.{Done, Refused, TooLong}
use Rattle.labsys.specs.Checking.{order_of_check}
use Rattle.labsys.specs.Least.{order_of_least}
use Rattle.labsys.specs.Never.{order_of_never}
use Rattle.labsys.specs.Scheduling.{NoSchedule, ProgramInput, ending_of_programs, order_of_programs, programs_of, with_schedule}
use Rattle.labsys.specs.Upgrading.{order_of_upgrade}
use Rattle.labsys.specs.Viewing.{ending_of_view, text_of_view}

-- ---- words

-- how many lines a word asks for: 1 to 6 digits, of a value from 1 to 100,000
abbrev pub lines_of : List ℕ → Option ℕ
lines_of word = numeral 10 6 1 MAX_LINES word

-- what stands after the word of a command, and gives the command where it is as it has to be
abbrev pub After : Type 0
After = Option (List ℕ) → Option Command

-- nothing
abbrev pub nothing : Command → After
nothing command None = Some command
nothing command (Some argument) = None

-- a word that is part of the command, as LABEL and SPEC
abbrev pub a_word : (List ℕ → Command) → After
a_word command None = None
a_word command (Some word) = Some (command word)

-- FILE, which is no part of the command
abbrev pub a_file : Command → After
a_file command = a_word (λ file. command)

-- N, how many lines are asked for
abbrev pub a_number : (ℕ → Command) → After
a_number command None = None
a_number command (Some word) = option_map command (lines_of word)

-- the commands: the word of each, and what stands after it
abbrev pub commands : List (List ℕ × After)
commands =
    (codes "play", a_file (OnInput Play))
    ∷ (codes "sched", a_file (OnInput Sched))
    ∷ (codes "view", a_word (λ word. OnInput (View word)))
    ∷ (codes "check", nothing (OnInput Check))
    ∷ (codes "gen", a_number Gen)
    ∷ (codes "drill", a_number Drill)
    ∷ (codes "upgrade", nothing (OnInput Upgrade))
    ∷ (codes "least", nothing (OnInput Least))
    ∷ (codes "never", nothing (OnInput Never))
    ∷ (codes "select", a_word Select)
    ∷ (codes "lineage", nothing Lineage)
    ∷ []

-- the command that a word and the argument after it name in a table
abbrev pub command_in : List (List ℕ × After) → Given → Option Command
command_in [] given = None
command_in (row ∷ rows) given = cond (same_bytes given.command row.0) (row.1 given.argument) (command_in rows given)

-- the command that the words name, if they name one
abbrev pub command_of : List (String Global) → Option Command
command_of words = then (given_words words) (command_in commands)

-- so many lines can be generated
abbrev pub FitsCommand : Command → Type 0
FitsCommand (Gen n) = (1 ≤ n) × (n ≤ MAX_LINES)
FitsCommand (Drill n) = (1 ≤ n) × (n ≤ MAX_LINES)
FitsCommand command = Unit {0}

-- ---- what is due, in general

-- the status by how an input ends
abbrev pub ends_with : InputEnd → Status
ends_with Whole = Done
ends_with (IsRefused n part why) = Refused
ends_with (RefusedWord word why) = Refused
ends_with TooMuch = TooLong

-- what is due: the bytes in order, each with its sink, and the status where all of them are written
pub record Due : Type 0 where
  pub order : List Sent
  pub status : Status

-- these bytes are due, and the status by how an input ends
abbrev pub due_with : List Sent → InputEnd → Due
due_with order ending = record { order = order; status = ends_with ending }

-- ---- what is read

-- what follows the world of an input
pub data InputKind : Type 0 where
  -- the lines of a script
  Calls : InputKind
  -- the lines of a script, none of which may ask for capability sets
  CallsWithoutSets : InputKind
  -- the lines of a script of the old format
  OldLines : InputKind
  -- programs and their turns
  Programs : InputKind

-- what is kept of such an input
abbrev pub ReadAs : InputKind → Type 0
ReadAs Calls = Input
ReadAs CallsWithoutSets = Input
ReadAs OldLines = UpgradeInput
ReadAs Programs = ProgramInput

-- its format
abbrev pub format_in : InputKind → Format
format_in OldLines = One
format_in _ = Two

-- the input that bytes are
abbrev pub read_of : (kind : InputKind) → List ℕ → ReadAs kind
read_of Calls text = input_of text
read_of CallsWithoutSets text = least_of text
read_of OldLines text = upgrade_of text
read_of Programs text = programs_of text

-- the same by an accepted world and by the bytes that are left at the reader of what follows it
abbrev pub read_left : (kind : InputKind) → Accepted → LinesState → List ℕ → ReadAs kind
read_left Calls a lines more = record { accepted = Some a; script = script_at a.policy lines more }
read_left CallsWithoutSets a lines more = record { accepted = Some a; script = least_at a.policy lines more }
read_left OldLines a lines more = record { accepted = Some a; script = upgrade_at a.policy lines more }
read_left Programs a lines more = with_schedule a (schedule_at a.policy lines more)

-- an input without a world, by how it ends
abbrev pub read_none : (kind : InputKind) → InputEnd → ReadAs kind
read_none Calls ending = no_world ending
read_none CallsWithoutSets ending = no_world ending
read_none OldLines ending = record { accepted = None; script = kept_script [] ending }
read_none Programs ending = NoSchedule ending

-- what is due of an input that is viewed from the label of a word
abbrev pub due_of_view : List ℕ → Input → Due
due_of_view word i =
    due_with (to_out (text_of_view word i.accepted i.script)) (ending_of_view word i.accepted i.script.ending)

-- ---- the plans of commands that read an input

-- what a command reads
abbrev pub kind_of : InputCommand → InputKind
kind_of Sched = Programs
kind_of Upgrade = OldLines
kind_of Least = CallsWithoutSets
kind_of _ = Calls

-- what is due of a command by what it has read
abbrev pub due_of : (c : InputCommand) → ReadAs (kind_of c) → Due
due_of Play i = due_with (order_of i) i.script.ending
due_of Sched i = due_with (order_of_programs i) (ending_of_programs i)
due_of Check i = due_with (order_of_check i) i.script.ending
due_of (View word) i = due_of_view word i
due_of Upgrade i = due_with (order_of_upgrade i) i.script.ending
due_of Least i = due_with (order_of_least i) i.script.ending
due_of Never i = due_with (order_of_never i) i.script.ending

-- ---- what is due of a command

-- what is due of a trail of which a word picks records
abbrev pub due_of_select : List ℕ → ReadTrail → Due
due_of_select word t = due_with (to_out (text_of_select word t)) (ending_by_word word t)

-- what is due of a trail whose records may follow one another or not
abbrev pub due_of_lineage : ReadTrail → Due
due_of_lineage t = due_with (to_out (text_of_lineage t)) (ending_of_lineage t)

-- what is due of a command, by the bytes of the source
abbrev pub due : Command → List ℕ → Due
due (OnInput c) text = due_of c (read_of (kind_of c) text)
due (Gen n) text = due_with (to_out (gen_text n)) Whole
due (Drill n) text = due_with (to_out (drilled_text n)) Whole
due (Select word) text = due_of_select word (trail_in text)
due Lineage text = due_of_lineage (trail_in text)

-- ---- the ends

-- whether a command reads the source
abbrev pub reads_source : Command → Bool
reads_source (Gen n) = false
reads_source (Drill n) = false
reads_source command = true

-- whether a command writes to the trail
abbrev pub writes_trail : Command → Bool
writes_trail (OnInput Play) = true
writes_trail (OnInput Sched) = true
writes_trail command = false

-- this holds unless the test does
abbrev pub Unless : Bool → Type 0 → Type 0
Unless true P = Unit {0}
Unless false P = P

-- which ends a command leaves as they were: those that it does not use, and without a command all of them
abbrev pub LeavesAlone : Option Command → (source out trail : Type 0) → Type 0
LeavesAlone None source out trail = source × out × trail
LeavesAlone (Some command) source out trail = Unless (reads_source command) source × Unless (writes_trail command) trail
