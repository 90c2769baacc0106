-- The generated input is accepted whole.
use Rattle.std.proofs.Common.{◌≡◌, ℕ, ◌+◌, ◌*◌, ◌≤◌, false, zero, suc, List, [], ◌∷◌, ◌++◌, length, map, refl, sym, ◌∙◌, ap, subst, arith, length-append, Some}
use Rattle.std.specs.Prelude.{All, Result}
use Rattle.std.specs.List.{concat}
use Rattle.std.proofs.lemmas.Bool.{le-ltb}
use Rattle.std.proofs.lemmas.List.{take_all}
use Rattle.std.proofs.lemmas.List.Elements.{All-drop, All-head, All-tail}
use Rattle.gen_world.specs.Calls.{call_line, call_of, with_line_feed}
use Rattle.gen_world.specs.Text.{gen_lines, gen_text, head_lines, lines_after, step}
use Rattle.gen_world.proofs.LineLaws.{Fits, gen_lines_fit, gen_text_split}
use Rattle.kern_model.specs.declared.limits.TheConstants.{MAX_INPUT}
use Rattle.lab_text.specs.Policy.{PolicyNames}
use Rattle.script_text.specs.declared.line.Line.{Line}
use Rattle.script_text.specs.declared.fault.LineError.{LineError}
use Rattle.script_text.specs.Line.{parse_line}
use Rattle.world_text.specs.declared.expecting.Expecting.TheVariants as at
use Rattle.world_text.specs.declared.format.Format.TheVariants.{Two}
use Rattle.world_text.specs.Reading.{Accepted as AcceptedWorld, Reading, read_lines, read_text}
use Rattle.lab_engine.specs.declared.ending.InputEnd.TheVariants.{Whole}
use Rattle.lab_engine.specs.Input.{Accepted, Input, Script, ScriptLines, after_line, begun_by, begun_in, input_from, input_in, input_of, lines_from, of_world, script_of, takes_all}
use Rattle.lab_engine.proofs.GeneratedLines.{IsCall, is_call, policy}
use Rattle.lab_engine.proofs.GeneratedWorld.{generated_world, head_read, its_names, four_procs}

-- ---- the script

-- a script of this many calls, to its end
record IsPlayed (count : ℕ) (s : Script) : Type 0 where
  calls : length s.items ≡ count
  whole : s.ending ≡ Whole

-- a list that is not empty
record IsMore (ls : List (List ℕ)) : Type 0 where
  first : List ℕ
  rest : List (List ℕ)
  is : ls ≡ first ∷ rest

before_last : (ls : List (List ℕ)) → IsMore (ls ++ [] ∷ [])
before_last [] = record { first = []; rest = []; is = refl }
before_last (l ∷ ls) = record { first = l; rest = ls ++ [] ∷ []; is = refl }

abbrev lines_of : ℕ → List (List ℕ) → ScriptLines
lines_of n ls = lines_from takes_all false policy n ls

line_more : (n : ℕ) (line : List ℕ) (ls : List (List ℕ)) → IsMore ls → lines_of n (line ∷ ls) ≡ after_line takes_all (parse_line policy line) n line (lines_of (n + 1) ls)
unfolding lines_from
line_more n line ls more =
    ap (λ (r : List (List ℕ)). lines_of n (line ∷ r)) more.is ∙ sym (ap (λ (r : List (List ℕ)). after_line takes_all (parse_line policy line) n line (lines_of (n + 1) r)) more.is)

-- a line that is a call comes before the calls of the lines after it
call_first : (n count : ℕ) (line : List ℕ) (ls : List (List ℕ)) → IsMore ls → IsCall line → IsPlayed count (script_of (lines_of (n + 1) ls)) → IsPlayed (suc count) (script_of (lines_of n (line ∷ ls)))
call_first n count line ls more call rest =
    subst (λ (m : ScriptLines). IsPlayed (suc count) (script_of m)) (sym (line_more n line ls more ∙ ap (λ (r : Result Line LineError). after_line takes_all r n line (lines_of (n + 1) ls)) call.read))
    (record { calls = ap suc rest.calls; whole = rest.whole })

script_read : (count number n : ℕ) → All (Fits 32) (lines_after count number) → IsPlayed count (script_of (lines_of n (lines_after count number ++ [] ∷ [])))
unfolding lines_after lines_from
script_read zero number n fits = record { calls = refl; whole = refl }
script_read (suc count) number n fits =
    let rest = lines_after count (step number) in
    let line = call_line (call_of (step number)) in
    call_first n count line (rest ++ [] ∷ []) (before_last rest) (is_call (step number) (All-head (Fits 32) line rest fits).short) (script_read count (step number) (n + 1) (All-tail (Fits 32) line rest fits))

-- ---- the text

lines_length : (count number : ℕ) → length (lines_after count number) ≡ count
unfolding lines_after
lines_length zero number = refl
lines_length (suc count) number = ap suc (lines_length count (step number))

text_length : (lines : List (List ℕ)) → All (Fits 32) lines → length (concat (map with_line_feed lines)) ≤ 33 * length lines
text_length [] fits = omega arith
text_length (line ∷ lines) fits =
    let short = (All-head (Fits 32) line lines fits).short in
    let rest = text_length lines (All-tail (Fits 32) line lines fits) in
    omega (arith, short, rest, length-append line (10 ∷ []), length-append (with_line_feed line) (concat (map with_line_feed lines)))

-- the text is shorter than an input may be
text_short : (n : ℕ) → n ≤ 100000 → length (gen_text n) ≤ MAX_INPUT
unfolding gen_text
text_short n few = omega (arith, few, text_length (gen_lines n) (gen_lines_fit n), length-append head_lines (lines_after n n), lines_length n n)

-- ---- the input

text_read : (lines : List (List ℕ)) → IsMore lines → read_lines 1 (at.Format Two) (head_lines ++ lines) ≡ AcceptedWorld generated_world 15 lines
text_read lines more = ap (λ (ls : List (List ℕ)). read_lines 1 (at.Format Two) (head_lines ++ ls)) more.is ∙ head_read more.first more.rest ∙ sym (ap (AcceptedWorld generated_world 15) more.is)

input_is : (n : ℕ) → n ≤ 100000 → input_of (gen_text n) ≡ of_world takes_all false generated_world 15 (lines_after n n ++ [] ∷ [])
unfolding input_in begun_in
input_is n few =
    let short = text_short n few in
    (λ i. input_from (begun_by (le-ltb MAX_INPUT (length (gen_text n)) short i) (read_text Two (take_all MAX_INPUT (gen_text n) short i))))
    ∙ ap (λ (ls : List (List ℕ)). input_from (begun_by false (read_lines 1 (at.Format Two) ls))) (gen_text_split n)
    ∙ ap (λ (r : Reading). input_from (begun_by false r)) (text_read (lines_after n n ++ [] ∷ []) (before_last (lines_after n n)))

-- an input is a world of four processes and a script of so many calls, to its end
pub record IsWholeInput (calls : ℕ) (input : Input) : Type 0 where
  pub world : Accepted
  pub accepted : input.accepted ≡ Some world
  pub procs : length world.world.procs ≡ 4
  pub calls_are : length input.script.items ≡ calls
  pub whole : input.script.ending ≡ Whole

-- the generated text for n is an input of n calls
pub generated_is_whole : (n : ℕ) → n ≤ 100000 → IsWholeInput n (input_of (gen_text n))
generated_is_whole n few =
    let all = All-drop (Fits 32) 14 (gen_lines n) (gen_lines_fit n) in
    let script = subst (λ (p : PolicyNames). IsPlayed n (script_of (lines_from takes_all false p 15 (lines_after n n ++ [] ∷ [])))) (sym its_names) (script_read n n 15 all) in
    subst (IsWholeInput n) (sym (input_is n few)) (record { world = generated_world; accepted = refl; procs = four_procs; calls_are = script.calls; whole = script.whole })
