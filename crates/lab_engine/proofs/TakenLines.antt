-- A script of which a judge takes all lines.
use Rattle.std.proofs.Common.{◌≡◌, ℕ, ◌+◌, Bool, true, false, cond, List, [], ◌∷◌, ◌++◌, length, refl, sym, ◌∙◌, ap, subst, append_assoc, Option, None, Some}
use Rattle.std.specs.Prelude.{nat_lt, Result, Ok, Err}
use Rattle.std.specs.List.{join_with_byte}
use Rattle.fs_path.specs.declared.words.TheConstants.{MAX_LINE}
use Rattle.lab_text.specs.Policy.{PolicyNames}
use Rattle.line_text.specs.declared.fault.LineFault.{LineFault}
use Rattle.line_text.specs.declared.fault.LineFault.TheVariants as fault
use Rattle.script_text.specs.declared.line.Line.{Line}
use Rattle.script_text.specs.declared.fault.LineError.{LineError}
use Rattle.script_text.specs.Line as script_lines
use Rattle.lab_engine.specs.declared.ending.InputEnd.TheVariants.{Whole, Refused, TooMuch}
use Rattle.lab_engine.specs.declared.ending.Part.TheVariants as part
use Rattle.lab_engine.specs.Input.{Judge, ScriptLine, ScriptLines, after_line, judged, lines_from, script_line, taken_lines, takes_all}
use Rattle.lab_engine.specs.UpgradeInput.{text_of_lines}

-- a judge takes each of these lines
abbrev pub AreTaken : Judge → List ScriptLine → Type 0
AreTaken judge [] = Unit {0}
AreTaken judge (l ∷ ls) = (judge l.says ≡ None) × AreTaken judge ls

-- a judge takes all lines of a script, which is within the limit: they are its text, and the same where they are read again
pub record IsTaken (judge : Judge) (policy : PolicyNames) (over : Bool) (n : ℕ) (ps : List (List ℕ)) : Type 0 where
  pub within : over ≡ false
  pub text : text_of_lines (lines_from judge over policy n ps).lines ≡ join_with_byte 10 ps
  pub again : (m : ℕ) → lines_from takes_all false policy m ps ≡ taken_lines (lines_from judge over policy n ps).lines Whole
  pub all : AreTaken judge (lines_from judge over policy n ps).lines

not_whole : (v : Bool) (n : ℕ) → cond v (Refused n part.Script fault.TooLong) TooMuch ≡ Whole → ⊥
not_whole true n e = cc
not_whole false n e = cc

-- ---- a line before others

module _ (judge : Judge) (policy : PolicyNames) (over : Bool) (n : ℕ) (p q : List ℕ) (ps : List (List ℕ)) where
  abbrev more : ScriptLines
  more = lines_from judge over policy (n + 1) (q ∷ ps)

  by_line : IsTaken judge policy over (n + 1) (q ∷ ps) → (l : Line) → script_lines.parse_line policy p ≡ Ok l → judge l ≡ None → IsTaken judge policy over n (p ∷ q ∷ ps)
  unfolding lines_from
  by_line later l is none =
      let lines_are : lines_from judge over policy n (p ∷ q ∷ ps) ≡ taken_lines (script_line p l ∷ more.lines) more.ending =
      ap (λ (r : Result Line LineError). after_line judge r n p more) is ∙ ap (λ v. judged v n (script_line p l) more) none in
      record {
        within = later.within;
        text = ap (λ (m : ScriptLines). text_of_lines m.lines) lines_are ∙ append_assoc p (10 ∷ []) (text_of_lines more.lines) ∙ ap (λ (t : List ℕ). p ++ 10 ∷ t) later.text;
        again = λ m. ap (λ (r : Result Line LineError). after_line takes_all r m p (lines_from takes_all false policy (m + 1) (q ∷ ps))) is
            ∙ ap (λ (s : ScriptLines). taken_lines (script_line p l ∷ s.lines) s.ending) (later.again (m + 1))
            ∙ sym (ap (λ (s : ScriptLines). taken_lines s.lines Whole) lines_are);
        all = subst (λ (m : ScriptLines). AreTaken judge m.lines) (sym lines_are) (none, later.all);
      }

  by_judge : (more.ending ≡ Whole → IsTaken judge policy over (n + 1) (q ∷ ps)) → (l : Line) → script_lines.parse_line policy p ≡ Ok l → (v : Option LineFault) → judge l ≡ v
      → (judged v n (script_line p l) more).ending ≡ Whole → IsTaken judge policy over n (p ∷ q ∷ ps)
  by_judge later l is (Some why) found e = absurd (cc)
  by_judge later l is None none e = by_line (later e) l is none

  by_parsed : (more.ending ≡ Whole → IsTaken judge policy over (n + 1) (q ∷ ps)) → (r : Result Line LineError) → script_lines.parse_line policy p ≡ r
      → (after_line judge r n p more).ending ≡ Whole → IsTaken judge policy over n (p ∷ q ∷ ps)
  by_parsed later (Err why) is e = absurd (cc)
  by_parsed later (Ok l) is e = by_judge later l is (judge l) refl e

-- ---- all lines

pub all_taken : (judge : Judge) (policy : PolicyNames) (over : Bool) (n : ℕ) (p : List ℕ) (ps : List (List ℕ)) → (lines_from judge over policy n (p ∷ ps)).ending ≡ Whole → IsTaken judge policy over n (p ∷ ps)
unfolding lines_from
all_taken judge policy false n [] [] e = record { within = refl; text = refl; again = λ m. refl; all = tt }
all_taken judge policy false n (b ∷ p) [] e = absurd (cc)
all_taken judge policy true n p [] e = absurd (not_whole (nat_lt MAX_LINE (length p)) n e)
all_taken judge policy over n p (q ∷ ps) e = by_parsed judge policy over n p q ps (λ h. all_taken judge policy over (n + 1) q ps h) (script_lines.parse_line policy p) refl e
