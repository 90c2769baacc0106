-- A script whose lines are handled as they are read: what each step leads to.
use Rattle.std.proofs.Common.{◌≡◌, ℕ, ◌+◌, ◌≤◌, ◌^◌, true, List, [], ◌∷◌, ◌++◌, length, inl, inr, refl, sym, ◌∙◌, ap, subst, arith, append_assoc}
use Rattle.std.specs.Prelude.{IsErrAnd, Result, Ok, Err}
use Rattle.std.proofs.lemmas.List.{append-nil}
use Rattle.io_ends.specs.Ends.{SourceView}
use Rattle.io_ends.specs.LinesState.{LinesState}
use Rattle.lab_text.specs.Policy.{PolicyNames}
use Rattle.script_text.specs.declared.line.Line.{Line}
use Rattle.lab_engine.specs.declared.ending.Fault.{Fault}
use Rattle.lab_engine.specs.declared.ending.InputEnd.{InputEnd}
use Rattle.lab_engine.specs.declared.playing.Played.{Played}
use Rattle.lab_engine.specs.declared.reading.NextLine.{NextLine}
use Rattle.lab_engine.specs.declared.reading.NextLine.TheVariants as next
use Rattle.lab_engine.specs.Counts.{Counts, counted_by, counts}
use Rattle.lab_engine.specs.Handling.{Handled, NoLine, NextLine as HandledNext, HandlesScript, StopsBetween}
use Rattle.lab_engine.specs.Input.{Judge, ScriptLine, ScriptLines, items_in, items_of_lines, script_line}
use Rattle.lab_engine.specs.Reading.{Follows, left_of, lines_at}
use Rattle.lab_engine.proofs.ReadSoFar.{ReadSoFar, line_read, line_says, read_begins, read_ends, read_line, read_small, read_takes, says_more}

-- the lines that were read so far were handled
pub record HandledSoFar {H : Type 0} (handles : ℕ → ScriptLine → H → H → Type 0) (judge : Judge) (policy : PolicyNames) (lines0 lines : LinesState) (source0 source : SourceView) (first now : H) (count : ℕ) : Type 0 where
  pub read : ReadSoFar judge policy lines0 lines source0.left source.left count
  pub handled : Handled handles first read.given now
  pub no_fault : source.faults ≡ source0.faults

module _ {H : Type 0} (handles : ℕ → ScriptLine → H → H → Type 0) (stops : ℕ → ScriptLine → Fault → H → H → Type 0) (judge : Judge) (policy : PolicyNames) where
  -- nothing was read yet
  pub handled_begins : (lines : LinesState) (source : SourceView) (first : H) → lines.more ≡ true → lines.room ≤ 2 ^ 24 → HandledSoFar handles judge policy lines lines source source first first 0
  handled_begins lines source first more small = record { read = read_begins judge policy lines source.left more small; handled = NoLine; no_fault = refl }

  module _ (lines0 lines lines' : LinesState) (source0 source source' : SourceView) (first now : H) (count : ℕ) (p : HandledSoFar handles judge policy lines0 lines source0 source first now count) where
    module _ (l : NextLine) (read : Follows (Ok l) judge policy lines lines' source.left source'.left) (still : (out trail : ℕ) → counts source'.faults out trail ≡ counts source.faults out trail) where
      no_more : source'.faults ≡ source0.faults
      no_more = ap (λ (c : Counts). c.source) (still 0 0) ∙ p.no_fault

      -- a line
      module _ (line : Line) (is : l ≡ next.Line line) where
        abbrev begun : Follows (Ok (next.Line line)) judge policy lines lines' source.left source'.left
        begun = line_read judge policy lines lines' source.left source'.left l read line is

        abbrev this : ScriptLine
        this = script_line lines'.line line

        pub line_small : count + length (items_in line) ≤ 2 ^ 60
        line_small = omega (arith, read_small judge policy lines0 lines source0.left source.left count p.read begun.taken lines' source'.left begun.takes line begun.shows)

        pub line_handled : (count' : ℕ) (now' : H) → count' ≡ count + length (items_in line) → handles count this now now' → HandledSoFar handles judge policy lines0 lines' source0 source' first now' count'
        line_handled count' now' counted done = record {
          read = read_line judge policy lines0 lines source0.left source.left count p.read begun.taken lines' source'.left begun.takes line begun.shows count' counted;
          handled = HandledNext p.read.given this now now' p.handled (subst (λ n. handles n this now now') p.read.counted done);
          no_fault = no_more;
        }

        pub line_stops : (result : Result Played Fault) (fault : Fault) → IsErrAnd result (λ q. q ≡ fault) → (now' : H) → stops count this fault now now' → HandlesScript handles stops result judge policy lines0 lines' source0 source' first now'
        line_stops (Ok x) fault by now' stopped = absurd by
        line_stops (Err q) fault by now' stopped =
            let rest = (lines_at judge policy lines' (left_of source'.left)).lines in
            record {
              taken = p.read.taken ++ begun.taken;
              takes = read_takes judge policy lines0 lines source0.left source.left count p.read begun.taken lines' source'.left begun.takes;
              did = inr (record {
                before = p.read.given;
                line = this;
                rest = rest;
                prefix = ap (λ (m : ScriptLines). m.lines) (line_says judge policy lines0 lines source0.left source.left count p.read begun.taken lines' source'.left begun.takes line begun.shows (left_of source'.left)) ∙ append_assoc p.read.given (this ∷ []) rest;
                between = now;
                handled = p.handled;
                stopped = subst (λ k. stops (length (items_of_lines p.read.given)) this k now now') (sym by) (subst (λ n. stops n this fault now now') p.read.counted stopped);
                no_fault = no_more;
              });
            }

      -- the script ends
      pub script_ends : (ending : InputEnd) → l ≡ next.Ended ending → HandlesScript handles stops (Ok (record { count = count; ending = ending })) judge policy lines0 lines' source0 source' first now
      script_ends ending is =
          let last = subst (λ k. Follows (Ok k) judge policy lines lines' source.left source'.left) is read in
          let whole = read_ends judge policy lines0 lines source0.left source.left count p.read last.taken lines' source'.left last.takes ending last.shows in
          let same = sym (ap (λ (m : ScriptLines). m.lines) whole) in
          record {
            taken = p.read.taken ++ last.taken;
            takes = read_takes judge policy lines0 lines source0.left source.left count p.read last.taken lines' source'.left last.takes;
            did = record {
              ending = sym (ap (λ (m : ScriptLines). m.ending) whole);
              count = p.read.counted ∙ ap (λ (ls : List ScriptLine). length (items_of_lines ls)) same;
              handled = subst (λ (ls : List ScriptLine). Handled handles first ls now) same p.handled;
              no_fault = no_more;
              to_the_end = last.shows.to_the_end;
            };
          }

    -- a read failed, or memory ran out
    pub read_stops : (result : Result Played Fault) (fault : Fault) → IsErrAnd result (λ q. q ≡ fault) → Follows (Err fault) judge policy lines lines' source.left source'.left → ((out trail : ℕ) → counts source'.faults out trail ≡ counted_by fault (counts source.faults out trail))
        → HandlesScript handles stops result judge policy lines0 lines' source0 source' first now
    read_stops (Ok x) fault by read once = absurd by
    read_stops (Err q) fault by read once =
        let after = says_more judge policy lines0 lines source0.left source.left count p.read read.taken in
        let between : StopsBetween handles (lines_at judge policy lines0 ((p.read.taken ++ read.taken) ++ left_of source'.left)) (lines_at judge policy lines0 (p.read.taken ++ read.taken)) fault source0 source' first now = record {
          lines = p.read.given;
          rest = (lines_at judge policy lines (read.taken ++ left_of source'.left)).lines;
          prefix = ap (λ (m : ScriptLines). m.lines) (after (left_of source'.left));
          handled = p.handled;
          one_fault = λ out trail. once out trail ∙ ap (λ n. counted_by fault (counts n out trail)) p.no_fault;
          by_line = λ failed. ap (λ (m : ScriptLines). m.lines) (p.read.says read.taken) ∙ ap (λ (ls : List ScriptLine). p.read.given ++ ls) (read.shows failed) ∙ append-nil p.read.given;
        } in
        record {
          taken = p.read.taken ++ read.taken;
          takes = read_takes judge policy lines0 lines source0.left source.left count p.read read.taken lines' source'.left read.takes;
          did = inl (subst (λ k. StopsBetween handles (lines_at judge policy lines0 ((p.read.taken ++ read.taken) ++ left_of source'.left)) (lines_at judge policy lines0 (p.read.taken ++ read.taken)) k source0 source' first now) (sym by) between);
        }
