-- What is left of an input at a reader of its lines, and what each line says of it.
use Rattle.std.specs.Prelude.{◌≡◌, ℕ, ◌+◌, ◌<◌, true, List, [], ◌++◌, ◌∷◌, length, take, nat_lt, Option, Some, None, Result, MatchResult}
use Rattle.std.specs.Io.KnownBytes.{Consumes, IsAtEnd}
use Rattle.fs_path.specs.Split.{pieces}
use Rattle.io_ends.specs.LinesState.{LinesState, may_take}
use Rattle.lab_text.specs.Policy.{PolicyNames, top_of}
use Rattle.script_text.specs.Line.{MayBePlayed}
use Rattle.script_text.specs.declared.line.Line.{Line}
use Rattle.world_text.specs.declared.expecting.Expecting.{Expecting}
use Rattle.world_text.specs.declared.expecting.Expecting.TheVariants as at
use Rattle.world_text.specs.declared.format.Format.{Format}
use Rattle.world_text.specs.declared.world.WorldText.{WorldText}
use Rattle.world_text.specs.Reading.{read_lines}
use Rattle.lab_engine.specs.declared.ending.Fault.{Fault}
use Rattle.lab_engine.specs.declared.ending.Fault.TheVariants.{Read as ReadFault}
use Rattle.lab_engine.specs.declared.ending.InputEnd.{InputEnd}
use Rattle.lab_engine.specs.declared.ending.InputEnd.TheVariants.{Whole}
use Rattle.lab_engine.specs.declared.reading.ReadWorld.{ReadWorld}
use Rattle.lab_engine.specs.declared.reading.ReadWorld.TheVariants as world
use Rattle.lab_engine.specs.declared.reading.WorldLine.{WorldLine}
use Rattle.lab_engine.specs.declared.reading.WorldLine.TheVariants as world_line
use Rattle.lab_engine.specs.declared.reading.NextLine.{NextLine}
use Rattle.lab_engine.specs.declared.reading.NextLine.TheVariants as next
use Rattle.lab_engine.specs.Input.{Begun, HasWorld, Judge, NoWorld, Script, ScriptLines, begun_by, input_from, items_in, lines_from, script_line, script_of, taken_lines, takes_all}
use Rattle.lab_engine.specs.LeastInput.{refuses_asked}
use Rattle.lab_engine.specs.UpgradeInput.{UpgradeScript, kept_of, refuses_mixed}

-- ---- what is left at a reader, where these bytes come after those that it holds

-- what the input is at the end of its world, from a line of that on
unfoldable pub begun_at : Expecting → LinesState → List ℕ → Begun
begun_at expecting s more = begun_by (nat_lt s.room (length (s.held ++ more))) (read_lines (s.number + 1) expecting (pieces 10 (take s.room (s.held ++ more))))

-- the same where a world was accepted, and its script is left
unfoldable pub script_left : WorldText → LinesState → List ℕ → Begun
script_left w s more = HasWorld w (nat_lt s.room (length (s.held ++ more))) (s.number + 1) (pieces 10 (take s.room (s.held ++ more)))

-- the lines of the script that a judge takes
unfoldable pub lines_at : Judge → PolicyNames → LinesState → List ℕ → ScriptLines
lines_at judge policy s more = lines_from judge (nat_lt s.room (length (s.held ++ more))) policy (s.number + 1) (pieces 10 (take s.room (s.held ++ more)))

-- the script of these lines
abbrev pub script_by : Judge → PolicyNames → LinesState → List ℕ → Script
script_by judge policy s more = script_of (lines_at judge policy s more)

-- the script of all lines
abbrev pub script_at : PolicyNames → LinesState → List ℕ → Script
script_at policy s more = script_by takes_all policy s more

-- the script of the lines that do not ask for capability sets
abbrev pub least_at : PolicyNames → LinesState → List ℕ → Script
least_at policy s more = script_by refuses_asked policy s more

-- the text of the lines that set no capability sets that are not uniform
abbrev pub upgrade_at : PolicyNames → LinesState → List ℕ → UpgradeScript
upgrade_at policy s more = kept_of (lines_at refuses_mixed policy s more)

-- the bytes that a source has left, where it reports them
abbrev pub left_of : Option (List ℕ) → List ℕ
left_of None = []
left_of (Some bytes) = bytes

-- a reader took these bytes from its source
pub record Takes (before now : LinesState) (left left' : Option (List ℕ)) (taken : List ℕ) : Type 0 where
  pub took : Consumes left left' taken
  pub within : may_take before ≡ length taken + may_take now

-- ---- the world

-- a world was accepted, and its script is what is left
pub record Accepts (e : Expecting) (before now : LinesState) (taken : List ℕ) (w : WorldText) : Type 0 where
  pub says : (more : List ℕ) → begun_at e before (taken ++ more) ≡ script_left w now more
  pub more : now.more ≡ true
  pub fewer : now.room < before.room

-- the input ends before its world does
pub record EndsWorld (e : Expecting) (before : LinesState) (left : Option (List ℕ)) (taken : List ℕ) (ending : InputEnd) : Type 0 where
  pub says : begun_at e before (taken ++ left_of left) ≡ NoWorld ending
  pub to_the_end : ending ≡ Whole → IsAtEnd left

-- after a line of the world another one is expected
pub record GoesOn (e : Expecting) (before now : LinesState) (taken : List ℕ) (after : Expecting) : Type 0 where
  pub says : (more : List ℕ) → begun_at e before (taken ++ more) ≡ begun_at after now more
  pub more : now.more ≡ true
  pub fewer : now.room < before.room

-- where a read failed, the bytes that were taken have no whole world
abbrev pub HasNoWorld : Expecting → LinesState → List ℕ → Fault → Type 0
HasNoWorld e before taken fault = fault ≡ ReadFault → (input_from (begun_at e before taken)).accepted ≡ None

-- what a line of a world says
abbrev pub SaysLine : Expecting → LinesState → LinesState → Option (List ℕ) → List ℕ → WorldLine → Type 0
SaysLine e before now left taken (world_line.GoesOn after) = GoesOn e before now taken after
SaysLine e before now left taken (world_line.World w) = Accepts e before now taken w
SaysLine e before now left taken (world_line.Ended ending) = EndsWorld e before left taken ending

-- what a world says
abbrev pub SaysWorld : Expecting → LinesState → LinesState → Option (List ℕ) → List ℕ → ReadWorld → Type 0
SaysWorld e before now left taken (world.World w) = Accepts e before now taken w
SaysWorld e before now left taken (world.Ended ending) = EndsWorld e before left taken ending

-- a line of a world was read
pub record ReadsLine (result : Result WorldLine Fault) (e : Expecting) (before now : LinesState) (left left' : Option (List ℕ)) : Type 0 where
  pub taken : List ℕ
  pub takes : Takes before now left left' taken
  pub shows : MatchResult result (λ line. SaysLine e before now left' taken line) (λ fault. HasNoWorld e before taken fault)

-- a world of the format that is due was read, from its first line on
pub record ReadsWorld (due : Format) (result : Result ReadWorld Fault) (before now : LinesState) (left left' : Option (List ℕ)) : Type 0 where
  pub taken : List ℕ
  pub takes : Takes before now left left' taken
  pub shows : MatchResult result (λ world. SaysWorld (at.Format due) before now left' taken world) (λ fault. HasNoWorld (at.Format due) before taken fault)

-- ---- the script

-- a script begins with a line that a judge takes, and whose calls may be played, and goes on with what is left; the line has more bytes than calls
pub record BeginsWith (judge : Judge) (policy : PolicyNames) (before now : LinesState) (taken : List ℕ) (line : Line) : Type 0 where
  pub says : (more : List ℕ) → lines_at judge policy before (taken ++ more) ≡ taken_lines (script_line now.line line ∷ (lines_at judge policy now more).lines) (lines_at judge policy now more).ending
  pub number : 0 < now.number
  pub calls : MayBePlayed (top_of policy) line
  pub more : now.more ≡ true
  pub fewer : length (items_in line) + now.room < before.room

-- a script ends without a further call
pub record EndsScript (judge : Judge) (policy : PolicyNames) (before : LinesState) (left : Option (List ℕ)) (taken : List ℕ) (ending : InputEnd) : Type 0 where
  pub says : lines_at judge policy before (taken ++ left_of left) ≡ taken_lines [] ending
  pub to_the_end : ending ≡ Whole → IsAtEnd left

-- what is next in a script
abbrev pub SaysNext : Judge → PolicyNames → LinesState → LinesState → Option (List ℕ) → List ℕ → NextLine → Type 0
SaysNext judge policy before now left taken (next.Line line) = BeginsWith judge policy before now taken line
SaysNext judge policy before now left taken (next.Ended ending) = EndsScript judge policy before left taken ending

-- where a read failed, the bytes that were taken have no further whole line
abbrev pub HasNoLine : Judge → PolicyNames → LinesState → List ℕ → Fault → Type 0
HasNoLine judge policy before taken fault = fault ≡ ReadFault → (lines_at judge policy before taken).lines ≡ []

-- the next line of a script that a judge takes was read
pub record Follows (result : Result NextLine Fault) (judge : Judge) (policy : PolicyNames) (before now : LinesState) (left left' : Option (List ℕ)) : Type 0 where
  pub taken : List ℕ
  pub takes : Takes before now left left' taken
  pub shows : MatchResult result (λ line. SaysNext judge policy before now left' taken line) (λ fault. HasNoLine judge policy before taken fault)
