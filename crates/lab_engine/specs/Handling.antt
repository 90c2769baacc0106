-- What a handler of lines did with the lines of a script.
use Rattle.std.specs.Prelude.{◌≡◌, ◌⊎◌, ◌<◌, ℕ, true, List, [], ◌∷◌, ◌++◌, length, Result, MatchResult, OnOk}
use Rattle.std.specs.Io.KnownBytes.{IsAtEnd}
use Rattle.io_ends.specs.Ends.{SourceView}
use Rattle.io_ends.specs.LinesState.{LinesState}
use Rattle.lab_lattice.specs.Label.{Label}
use Rattle.lab_text.specs.Policy.{PolicyNames}
use Rattle.script_text.specs.Line.{MayBePlayed}
use Rattle.script_text.specs.declared.line.Line.{Line}
use Rattle.lab_engine.specs.Counts.{counted_by, counts}
use Rattle.lab_engine.specs.declared.ending.Fault.{Fault}
use Rattle.lab_engine.specs.declared.ending.Fault.TheVariants.{Read}
use Rattle.lab_engine.specs.declared.ending.InputEnd.TheVariants.{Whole}
use Rattle.lab_engine.specs.declared.playing.Played.{Played}
use Rattle.lab_engine.specs.Input.{Judge, ScriptLine, ScriptLines, items_of_lines}
use Rattle.lab_engine.specs.Reading.{Takes, left_of, lines_at}

-- a reader holds a line, and has given it
abbrev pub HoldsLine : LinesState → Type 0
HoldsLine lines = (lines.more ≡ true) × (0 < lines.number)

-- a handler that is ready for calls below some labels may be given a line: its calls are below one of these
abbrev pub MayBeHandled : (Label → Type 0) → Line → Type 0
MayBeHandled ready line = (top : Label) × ready top × MayBePlayed top line

-- a handler that was ready is ready again where it succeeds, for calls below the same labels
abbrev pub StaysReady : {X : Type 0} → Result X Fault → (before after : Label → Type 0) → Type 0
StaysReady result before after = (top : Label) → before top → OnOk result (after top)

-- a handler handled a line after so many calls, or was stopped in it by the fault that it reports
abbrev pub HandlesOrStops : {X H : Type 0} → (ℕ → ScriptLine → H → H → Type 0) → (ℕ → ScriptLine → Fault → H → H → Type 0) → Result X Fault → ℕ → ScriptLine → (h h' : H) → Type 0
HandlesOrStops handles stops result count line h h' = MatchResult result (λ _. handles count line h h') (λ fault. stops count line fault h h')

module _ {H : Type 0} (handles : ℕ → ScriptLine → H → H → Type 0) where
  -- lines were handled, one after another
  pub data Handled (first : H) : List ScriptLine → H → Type 0 where
    NoLine : Handled first [] first
    NextLine : (before : List ScriptLine) (line : ScriptLine) (between now : H) → Handled first before between → handles (length (items_of_lines before)) line between now → Handled first (before ++ line ∷ []) now

  -- all lines of a script were handled
  pub record HandlesAll (m : ScriptLines) (p : Played) (source source' : SourceView) (first now : H) : Type 0 where
    pub ending : p.ending ≡ m.ending
    pub count : p.count ≡ length (items_of_lines m.lines)
    pub handled : Handled first m.lines now
    pub no_fault : source'.faults ≡ source.faults
    pub to_the_end : p.ending ≡ Whole → IsAtEnd source'.left

  -- a read failed, or memory ran out, after some of the lines of a script: where a read failed, after all those in the bytes that were taken
  pub record StopsBetween (m taken : ScriptLines) (fault : Fault) (source source' : SourceView) (first now : H) : Type 0 where
    pub lines : List ScriptLine
    pub rest : List ScriptLine
    pub prefix : m.lines ≡ lines ++ rest
    pub handled : Handled first lines now
    pub one_fault : (out trail : ℕ) → counts source'.faults out trail ≡ counted_by fault (counts source.faults out trail)
    pub by_line : fault ≡ Read → taken.lines ≡ lines

  module _ (stops : ℕ → ScriptLine → Fault → H → H → Type 0) where
    -- the handler was stopped in a line, after the lines before it
    pub record StopsWithin (m : ScriptLines) (fault : Fault) (source source' : SourceView) (first now : H) : Type 0 where
      pub before : List ScriptLine
      pub line : ScriptLine
      pub rest : List ScriptLine
      pub prefix : m.lines ≡ before ++ (line ∷ rest)
      pub between : H
      pub handled : Handled first before between
      pub stopped : stops (length (items_of_lines before)) line fault between now
      pub no_fault : source'.faults ≡ source.faults

    -- a script was read from a reader of lines, and the lines that a judge takes were handled
    pub record HandlesScript (result : Result Played Fault) (judge : Judge) (policy : PolicyNames) (lines lines' : LinesState) (source source' : SourceView) (first now : H) : Type 0 where
      pub taken : List ℕ
      pub takes : Takes lines lines' source.left source'.left taken
      pub did : MatchResult result (λ p. HandlesAll (lines_at judge policy lines (taken ++ left_of source'.left)) p source source' first now)
          (λ fault. StopsBetween (lines_at judge policy lines (taken ++ left_of source'.left)) (lines_at judge policy lines taken) fault source source' first now
          ⊎ StopsWithin (lines_at judge policy lines (taken ++ left_of source'.left)) fault source source' first now)
