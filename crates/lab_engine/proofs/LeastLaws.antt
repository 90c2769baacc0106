-- What an input is where it is written again with another world, after a comment.
use Rattle.std.proofs.Common.{◌≡◌, ℕ, ◌+◌, ◌≤◌, ◌||◌, Bool, true, false, cond, List, [], ◌∷◌, ◌++◌, length, map, take, refl, sym, ◌∙◌, ap, append_assoc, Option, None, Some}
use Rattle.std.specs.Prelude.{filter_map, nat_lt, zip}
use Rattle.std.specs.List.{cons_option, list_any}
use Rattle.std.proofs.lemmas.List.Folds.{list_any-append}
use Rattle.cap_bits.specs.declared.state.CapState.{CapState}
use Rattle.fs_path.specs.Path.{PathValue}
use Rattle.kern_model.specs.declared.calls.Call.{Call}
use Rattle.kern_model.specs.declared.calls.Call.TheVariants as call
use Rattle.lab_lattice.specs.Label.{Label}
use Rattle.least_caps.specs.Asks.{asks as call_asks}
use Rattle.least_caps.specs.Laws.{script_asks}
use Rattle.sec_utils.specs.declared.util.Tool.{Tool}
use Rattle.sec_utils.specs.declared.util.Tool.TheVariants as tool
use Rattle.sec_utils.specs.declared.util.Util.{Util}
use Rattle.sec_utils.specs.Calls.{call_by, call_on, calls_of}
use Rattle.sec_utils.specs.Items.{item_of, items_of}
use Rattle.std.proofs.lemmas.Bool.{le-ltb, ltb-false}
use Rattle.std.proofs.lemmas.List.{take_all}
use Rattle.fs_path.specs.Split.{pieces}
use Rattle.fs_path.specs.Words.{is_blank, words_of}
use Rattle.fs_path.specs.declared.words.TheConstants.{MAX_LINE}
use Rattle.fs_path.proofs.SplitLemmas.{pieces_first}
use Rattle.kern_model.specs.declared.limits.TheConstants.{MAX_INPUT}
use Rattle.kern_model.specs.declared.world.ScriptItem.{ScriptItem}
use Rattle.lab_text.specs.Policy.{PolicyNames}
use Rattle.line_text.specs.declared.fault.LineFault.TheVariants as fault
use Rattle.script_text.specs.declared.line.Line.{Line}
use Rattle.script_text.specs.declared.line.Line.TheVariants as line_is
use Rattle.world_text.specs.declared.expecting.Expecting.{Expecting}
use Rattle.world_text.specs.declared.expecting.Expecting.TheVariants as at
use Rattle.world_text.specs.declared.expecting.Parsed.{Parsed}
use Rattle.world_text.specs.declared.expecting.Parsed.TheVariants.{Refuses, GoesOn, Begins}
use Rattle.world_text.specs.declared.format.Format.TheVariants.{Two}
use Rattle.world_text.specs.declared.world.WorldText.{WorldText}
use Rattle.world_text.specs.CanBeRead.{HasShortLines}
use Rattle.world_text.specs.Expecting.{parse_line, parse_words}
use Rattle.world_text.specs.Reading.{Reading, Accepted as AcceptedWorld, after, read_lines, read_text}
use Rattle.world_text.specs.Values.{unless, with_form}
use Rattle.world_text.specs.Written.{next_number, text_of_world}
use Rattle.lab_engine.specs.declared.ending.InputEnd.{InputEnd}
use Rattle.lab_engine.specs.declared.ending.InputEnd.TheVariants.{Whole}
use Rattle.lab_engine.specs.Input.{Accepted, Begun, HasWorld, NoWorld, ScriptLine, ScriptLines, begun_by, begun_in, input_from, input_in, input_of, items_in, items_of_lines, lines_from, script, script_of, takes_all}
use Rattle.lab_engine.specs.LeastInput.{least_by, least_in, least_of, line_asks, refuses_asked, tool_asks}
use Rattle.lab_engine.specs.Upgrading.{ReadsBack}
use Rattle.lab_engine.proofs.TakenLines.{AreTaken, IsTaken, all_taken}
use Rattle.lab_engine.proofs.UpgradeLaws.{Behind, behind, ended, has_world, no_world_whole, nothing, some_pieces, step, with_rest}

-- ---- calls that do not ask

or_none : (a b : Bool) → a ≡ false → b ≡ false → (a || b) ≡ false
or_none a b first second = ap (λ x. x || b) first ∙ second

or_parts : (a b : Bool) → (a || b) ≡ false → (a ≡ false) × (b ≡ false)
or_parts true b e = absurd (cc)
or_parts false b e = (refl, e)

-- the call of a utility that does not ask
call_none : (tool : Tool) (caps : CapState) (mark : Option Label) (path : PathValue) (c : Call) → tool_asks tool ≡ false → call_by tool caps mark path ≡ Some c → call_asks c ≡ false
call_none tool.GetFcap caps mark path c none is = absurd (cc)
call_none tool.SetFcap caps mark path c none is = absurd (cc)
call_none tool.GetFmac caps mark path c none is = let same : call.MacGetFile path ≡ c = cc in sym (ap call_asks same)
call_none tool.SetFmac caps None path c none is = absurd (cc)
call_none tool.SetFmac caps (Some label) path c none is = let same : call.MacSetFile path label ≡ c = cc in sym (ap call_asks same)

-- the calls for some paths
calls_none : (h : PathValue → Option Call) → ((path : PathValue) (c : Call) → h path ≡ Some c → call_asks c ≡ false) → (paths : List PathValue) → list_any call_asks (filter_map h paths) ≡ false
calls_none h none [] = refl
calls_none h none (path ∷ paths) = by_call (calls_none h none paths) (h path) refl
  where
    by_call : list_any call_asks (filter_map h paths) ≡ false → (o : Option Call) → h path ≡ o → list_any call_asks (cons_option o (filter_map h paths)) ≡ false
    by_call later None is = later
    by_call later (Some c) is = or_none (call_asks c) _ (none path c is) later

-- the items of some calls
pairs_none : (util : Util) (texts : List (List ℕ)) (calls : List Call) → list_any call_asks calls ≡ false → script_asks (map (λ (p : List ℕ × Call). item_of util p.0 p.1) (zip texts calls)) ≡ false
pairs_none util [] calls none = refl
pairs_none util (text ∷ texts) [] none = refl
pairs_none util (text ∷ texts) (c ∷ calls) none = let parts = or_parts (call_asks c) (list_any call_asks calls) none in or_none (call_asks c) _ parts.0 (pairs_none util texts calls parts.1)

tool_none : (util : Util) → tool_asks util.tool ≡ false → script_asks (items_of util) ≡ false
unfolding items_of calls_of
tool_none util none = pairs_none util util.texts _ (calls_none (call_on util) (λ path c is. call_none util.tool util.caps util.mark path c none is) util.paths)

-- the items of a line that does not ask
line_none : (l : Line) → line_asks l ≡ false → script_asks (items_in l) ≡ false
line_none line_is.Blank none = refl
line_none (line_is.One who c) none = or_none (call_asks c) false none refl
line_none (line_is.Tool util) none = tool_none util none

-- a line that is taken does not ask
not_asked : (asks : Bool) → cond asks (Some fault.CapsAsked) None ≡ None → asks ≡ false
not_asked true e = absurd (cc)
not_asked false e = refl

-- the calls of lines that are taken
lines_none : (ls : List ScriptLine) → AreTaken refuses_asked ls → script_asks (items_of_lines ls) ≡ false
lines_none [] all = refl
lines_none (l ∷ ls) all =
    list_any-append (λ (i : ScriptItem). call_asks i.call) (items_in l.says) (items_of_lines ls)
    ∙ or_none _ _ (line_none l.says (not_asked (line_asks l.says) all.0)) (lines_none ls all.1)

-- ---- a comment before a world

-- a line that is a comment: blank to a reader, not too long, and without a line feed
pub record IsComment (line : List ℕ) : Type 0 where
  pub blank : is_blank line ≡ true
  pub short : length line ≤ MAX_LINE
  pub one_line : (rest : List ℕ) → pieces 10 (line ++ 10 ∷ rest) ≡ line ∷ pieces 10 rest

-- a reader that expects a line goes on to expect it after a comment
after_comment : (e : Expecting) (line : List ℕ) → IsComment line → parse_line e line ≡ GoesOn e
unfolding parse_line
after_comment e line is =
    ap (λ b. unless b fault.Syntax (cond (is_blank line) (GoesOn e) (with_form (words_of line) (parse_words e)))) (le-ltb MAX_LINE (length line) is.short)
    ∙ ap (λ b. cond b (GoesOn e) (with_form (words_of line) (parse_words e))) is.blank

-- a world that is read from a line on is read from the next one on
later_lines : (ls : List (List ℕ)) (n : ℕ) (e : Expecting) (w : WorldText) (m : ℕ) (rest : List (List ℕ)) → read_lines n e ls ≡ AcceptedWorld w m rest → read_lines (n + 1) e ls ≡ AcceptedWorld w (m + 1) rest
later_lines [] n e w m rest read = let no = sym (nothing n e) ∙ read in absurd (cc)
later_lines (l ∷ []) n e w m rest read = let no = sym (ended n e l) ∙ read in absurd (cc)
later_lines (l ∷ p ∷ ls) n e w m rest read = step (n + 1) e l p ls ∙ by_parsed (λ next h. later_lines (p ∷ ls) (n + 1) next w m rest h) (parse_line e l) (sym (step n e l p ls) ∙ read)
  where
    by_parsed : ((next : Expecting) → read_lines (n + 1) next (p ∷ ls) ≡ AcceptedWorld w m rest → read_lines ((n + 1) + 1) next (p ∷ ls) ≡ AcceptedWorld w (m + 1) rest)
        → (r : Parsed) → after r n (p ∷ ls) (λ next. read_lines (n + 1) next (p ∷ ls)) ≡ AcceptedWorld w m rest
        → after r (n + 1) (p ∷ ls) (λ next. read_lines ((n + 1) + 1) next (p ∷ ls)) ≡ AcceptedWorld w (m + 1) rest
    by_parsed later (Refuses why) h = absurd (cc)
    by_parsed later (GoesOn next) h = later next h
    by_parsed later (Begins v) h =
        let world : v ≡ w = cc in
        let number : n + 1 ≡ m = cc in
        let left : p ∷ ls ≡ rest = cc in
        ap (λ (u : WorldText). AcceptedWorld u ((n + 1) + 1) (p ∷ ls)) world ∙ ap (λ k. AcceptedWorld w (k + 1) (p ∷ ls)) number ∙ ap (AcceptedWorld w (m + 1)) left

-- what is read of a comment, the text of a world and a script after it
module _ (line : List ℕ) (comment : IsComment line) (w : WorldText) (back : ReadsBack w) (rest : List ℕ) (short : HasShortLines w) where
  abbrev written : List ℕ
  written = line ++ 10 ∷ text_of_world w

  lines_are : pieces 10 (written ++ rest) ≡ line ∷ pieces 10 (text_of_world w ++ rest)
  lines_are = ap (pieces 10) (append_assoc line (10 ∷ text_of_world w) rest) ∙ comment.one_line (text_of_world w ++ rest)

  world_read : read_text Two (written ++ rest) ≡ AcceptedWorld w (next_number w + 1) (pieces 10 rest)
  world_read =
      let first = pieces_first 10 (text_of_world w ++ rest) in
      let e = at.Format Two in
      ap (read_lines 1 e) (lines_are ∙ ap (λ (ps : List (List ℕ)). line ∷ ps) first.2)
      ∙ step 1 e line first.0 first.1
      ∙ ap (λ (r : Parsed). after r 1 (first.0 ∷ first.1) (λ next. read_lines 2 next (first.0 ∷ first.1))) (after_comment e line comment)
      ∙ ap (read_lines 2 e) (sym first.2)
      ∙ later_lines (pieces 10 (text_of_world w ++ rest)) 1 e w (next_number w) (pieces 10 rest) (with_rest _ (text_of_world w) 1 e w (next_number w) rest refl (back short))

  input_read : length (written ++ rest) ≤ MAX_INPUT → input_of (written ++ rest) ≡ record { accepted = Some w; script = script_of (lines_from takes_all false w.policy (next_number w + 1) (pieces 10 rest)) }
  unfolding input_in begun_in
  input_read few =
      let out = written ++ rest in
      ap (λ b. input_from (begun_by b (read_text Two (take MAX_INPUT out)))) (le-ltb MAX_INPUT (length out) few)
      ∙ ap (λ (t : List ℕ). input_from (begun_by false (read_text Two t))) (take_all MAX_INPUT out few)
      ∙ ap (λ (r : Reading). input_from (begun_by false r)) world_read

-- ---- an input that is played whole

-- an input that has a world, and a script that is played to its end: what is behind the line `script` is the same script after any other world of its names
pub record PlayedWhole (text : List ℕ) : Type 0 where
  pub world : Accepted
  pub items : List ScriptItem
  pub number : ℕ
  pub head : List ℕ
  pub behind : List ℕ
  pub text_is : text ≡ head ++ behind
  pub reads : read_text Two text ≡ AcceptedWorld world number (pieces 10 behind)
  pub least_is : least_of text ≡ record { accepted = Some world; script = script items Whole }
  pub input_is : input_of text ≡ record { accepted = Some world; script = script items Whole }
  pub asks_none : script_asks items ≡ false
  pub again : (line : List ℕ) → IsComment line → (w : WorldText) → w.policy ≡ world.policy → ReadsBack w → HasShortLines w → length ((line ++ 10 ∷ text_of_world w) ++ behind) ≤ MAX_INPUT
      → input_of ((line ++ 10 ∷ text_of_world w) ++ behind) ≡ record { accepted = Some w; script = script items Whole }

module _ (text : List ℕ) (w : WorldText) (over : Bool) (n : ℕ) (lines : List (List ℕ)) (read : read_text Two (take MAX_INPUT text) ≡ AcceptedWorld w n lines) (limit : nat_lt MAX_INPUT (length text) ≡ over) (is : begun_in Two text ≡ HasWorld w over n lines) where
  behind_script : Behind (take MAX_INPUT text) lines
  behind_script = behind _ (take MAX_INPUT text) 1 (at.Format Two) w n lines refl read

  module _ (whole : (lines_from refuses_asked over w.policy n lines).ending ≡ Whole) where
    all_played : IsTaken refuses_asked w.policy over n lines
    all_played = some_pieces behind_script.rest lines behind_script.pieces_are (λ ps. (lines_from refuses_asked over w.policy n ps).ending ≡ Whole → IsTaken refuses_asked w.policy over n ps) (λ q qs. all_taken refuses_asked w.policy over n q qs) whole

    within_limit : take MAX_INPUT text ≡ text
    within_limit = take_all MAX_INPUT text (ltb-false MAX_INPUT (length text) (limit ∙ all_played.within))

    abbrev played_items : List ScriptItem
    played_items = items_of_lines (lines_from refuses_asked over w.policy n lines).lines

    world_played : PlayedWhole text
    unfolding input_in least_in
    world_played = record {
      world = w;
      items = played_items;
      number = n;
      head = behind_script.head;
      behind = behind_script.rest;
      text_is = sym within_limit ∙ behind_script.text_is;
      reads = ap (read_text Two) (sym within_limit) ∙ read ∙ ap (AcceptedWorld w n) behind_script.pieces_are;
      least_is = ap least_by is ∙ ap (λ (e : InputEnd). record { accepted = Some w; script = script played_items e }) whole;
      input_is = ap input_from is
          ∙ ap (λ v. record { accepted = Some w; script = script_of (lines_from takes_all v w.policy n lines) }) all_played.within
          ∙ ap (λ (s : ScriptLines). record { accepted = Some w; script = script_of s }) (all_played.again n);
      asks_none = lines_none _ all_played.all;
      again = λ line comment v same back short few.
          input_read line comment v back behind_script.rest short few
          ∙ ap (λ (ps : List (List ℕ)). record { accepted = Some v; script = script_of (lines_from takes_all false v.policy (next_number v + 1) ps) }) (sym behind_script.pieces_are)
          ∙ ap (λ (policy : PolicyNames). record { accepted = Some v; script = script_of (lines_from takes_all false policy (next_number v + 1) lines) }) same
          ∙ ap (λ (s : ScriptLines). record { accepted = Some v; script = script_of s }) (all_played.again (next_number v + 1));
    }

-- an input whose script is played to its end
pub played_whole : (text : List ℕ) → (least_of text).script.ending ≡ Whole → PlayedWhole text
unfolding least_in begun_in
played_whole text whole = by_begun (begun_in Two text) refl
  where
    by_begun : (b : Begun) → begun_in Two text ≡ b → PlayedWhole text
    by_begun (HasWorld w over n lines) is =
        let r = has_world _ _ w over n lines is in
        world_played text w over n lines r.0 r.1 is (sym (ap (λ (b : Begun). (least_by b).script.ending) is) ∙ whole)
    by_begun (NoWorld ending) is = absurd (no_world_whole _ _ ending is (sym (ap (λ (b : Begun). (least_by b).script.ending) is) ∙ whole))
