-- A script whose lines are written as they came.
use Rattle.std.proofs.Common.{◌≡◌, ℕ, List, [], ◌∷◌, ◌++◌, refl, sym, ◌∙◌, ap, subst}
use Rattle.std.proofs.lemmas.Grind.{flat_map-append}
use Rattle.std.proofs.lemmas.List.{append-nil}
use Rattle.std.specs.Prelude.{IsErrAnd, Result, Ok, Err, MatchResult}
use Rattle.io_ends.specs.Ends.{SinkView, SourceView}
use Rattle.io_ends.specs.LinesState.{LinesState}
use Rattle.lab_text.specs.Policy.{PolicyNames}
use Rattle.lab_engine.specs.declared.ending.Fault.{Fault}
use Rattle.lab_engine.specs.declared.ending.InputEnd.{InputEnd}
use Rattle.lab_engine.specs.declared.playing.Played.{Played}
use Rattle.lab_engine.specs.Handling.{HandlesScript, NextLine, NoLine}
use Rattle.lab_engine.specs.Input.{ScriptLine}
use Rattle.lab_engine.specs.UpgradeInput.{refuses_mixed, text_of_lines}
use Rattle.lab_engine.specs.Order.{Sent, to_out}
use Rattle.lab_engine.specs.Playing.{SendsAll, StopsBy, ends}
use Rattle.lab_engine.specs.Reading.{left_of, lines_at}
use Rattle.lab_engine.specs.Upgrading.{CopiesLine, StopsInLine, UpgradesScript}
use Rattle.lab_engine.proofs.LinesWritten.{Continues, WritesLines, WritesPart, all_written, part_written}
use Rattle.lab_engine.proofs.Sending.{all_more, all_nothing, stops_after, stops_longer, to_out-append}

-- a piece that is a line with its line feed
pub copied_piece : (line : ScriptLine) (piece : List ℕ) → piece ≡ line.text ++ 10 ∷ [] → (out out' : SinkView) → ((source : ℕ) (trail : SinkView) → SendsAll (to_out piece) (ends source out trail) (ends source out' trail)) → CopiesLine line out out'
copied_piece line piece is out out' sends = λ source trail. subst (λ (t : List ℕ). SendsAll (to_out t) (ends source out trail) (ends source out' trail)) is (sends source trail)

-- a fault that stopped it
pub stopped_piece : {X : Type 0} (handled : Type 0) (r : Result X Fault) (fault : Fault) → IsErrAnd r (λ q. q ≡ fault) → (line : ScriptLine) (piece : List ℕ) → piece ≡ line.text ++ 10 ∷ [] → (out out' : SinkView)
    → ((source : ℕ) (trail : SinkView) → StopsBy fault (to_out piece) (ends source out trail) (ends source out' trail)) → MatchResult r (λ _. handled) (λ q. StopsInLine line q out out')
stopped_piece handled (Ok x) fault by line piece is out out' stops = absurd by
stopped_piece handled (Err q) fault by line piece is out out' stops = λ source trail. subst (λ (t : List ℕ). StopsBy q (to_out t) (ends source out trail) (ends source out' trail)) is
    (subst (λ k. StopsBy k (to_out piece) (ends source out trail) (ends source out' trail)) (sym by) (stops source trail))

-- the order of lines
abbrev copied : List ScriptLine → List Sent
copied ls = to_out (text_of_lines ls)

copied_none : copied [] ≡ []
unfolding to_out
copied_none = refl

copied_append : (ls more : List ScriptLine) → copied (ls ++ more) ≡ copied ls ++ copied more
copied_append ls more = ap to_out (flat_map-append (λ (l : ScriptLine). l.text ++ 10 ∷ []) ls more) ∙ to_out-append (text_of_lines ls) (text_of_lines more)

copied_one : (line : ScriptLine) → copied (line ∷ []) ≡ to_out (line.text ++ 10 ∷ [])
copied_one line = ap to_out (append-nil (line.text ++ 10 ∷ []))

module _ {H : Type 0} (out : H → SinkView) where
  abbrev pub copies : ℕ → ScriptLine → H → H → Type 0
  copies count line a b = CopiesLine line (out a) (out b)

  abbrev pub cuts : ℕ → ScriptLine → Fault → H → H → Type 0
  cuts count line fault a b = StopsInLine line fault (out a) (out b)

  module _ (first : H) (trail : SinkView) where
    lines_copied : WritesLines copies (cuts) out (λ h. trail) first copied
    lines_copied ls now NoLine = λ source. subst (λ (o : List Sent). SendsAll o (ends source (out first) trail) (ends source (out first) trail)) (sym copied_none) (all_nothing (ends source (out first) trail))
    lines_copied ls now (NextLine before line between last lines next) = λ source.
        subst (λ (o : List Sent). SendsAll o (ends source (out first) trail) (ends source (out now) trail)) (sym (copied_append before (line ∷ []) ∙ ap (λ (o : List Sent). copied before ++ o) (copied_one line)))
        (all_more (copied before) (to_out (line.text ++ 10 ∷ [])) (ends source (out first) trail) (ends source (out between) trail) (ends source (out now) trail) (lines_copied before between lines source) (next source trail))

    line_cut : WritesPart copies cuts out (λ h. trail) first copied
    line_cut before line rest between now fault handled stopped source =
        subst (λ (o : List Sent). StopsBy fault o (ends source (out first) trail) (ends source (out now) trail)) (sym (copied_append before (line ∷ rest)))
        (stops_after fault (copied before) (copied (line ∷ rest)) (ends source (out first) trail) (ends source (out between) trail) (ends source (out now) trail) (lines_copied before between handled source)
        (subst (λ (o : List Sent). StopsBy fault o (ends source (out between) trail) (ends source (out now) trail)) (sym (to_out-append (line.text ++ 10 ∷ []) (text_of_lines rest)))
        (stops_longer fault (to_out (line.text ++ 10 ∷ [])) (copied rest) (ends source (out between) trail) (ends source (out now) trail) (stopped source trail))))

    goes_on : (ls more : List ScriptLine) → Continues copied ls more
    goes_on ls more = record { rest = copied more; is = copied_append ls more }

    module _ (policy : PolicyNames) (lines lines' : LinesState) (source source' : SourceView) (now : H) where
      -- the script was copied to its end
      pub upgrades_all : (p : Played) → HandlesScript copies cuts (Ok p) refuses_mixed policy lines lines' source source' first now
          → UpgradesScript (Ok p.ending) policy lines lines' source.left source'.left (ends source.faults (out first) trail) (ends source'.faults (out now) trail)
      upgrades_all p h = record {
        taken = h.taken;
        takes = h.takes;
        writes = all_written copies cuts out (λ h. trail) first copied lines_copied source source' now (lines_at refuses_mixed policy lines (h.taken ++ left_of source'.left)) h.did.handled h.did.no_fault;
        ends = record { same = h.did.ending; to_the_end = h.did.to_the_end };
      }

      -- a fault stopped it
      pub upgrades_part : (r : Result InputEnd Fault) (fault : Fault) → IsErrAnd r (λ q. q ≡ fault) → HandlesScript copies cuts (Err fault) refuses_mixed policy lines lines' source source' first now
          → UpgradesScript r policy lines lines' source.left source'.left (ends source.faults (out first) trail) (ends source'.faults (out now) trail)
      upgrades_part (Ok e) fault by h = absurd by
      upgrades_part (Err q) fault by h = record {
        taken = h.taken;
        takes = h.takes;
        writes = subst (λ k. StopsBy k (copied (lines_at refuses_mixed policy lines (h.taken ++ left_of source'.left)).lines) (ends source.faults (out first) trail) (ends source'.faults (out now) trail)) (sym by)
            (part_written copies cuts out (λ h. trail) first copied lines_copied source source' now line_cut goes_on (lines_at refuses_mixed policy lines (h.taken ++ left_of source'.left)) (lines_at refuses_mixed policy lines h.taken) fault h.did).stops;
        ends = tt;
      }
