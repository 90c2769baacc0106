-- An accepted world is a world, and the arguments of the calls of its script are in their ranges.
use Rattle.std.proofs.Common.{◌≡◌, ℕ, ◌+◌, Bool, true, List, [], ◌∷◌, ◌++◌, length, take, refl, sym, subst, Some}
use Rattle.std.specs.Prelude.{nat_lt, Result, Ok, Err}
use Rattle.std.proofs.lemmas.Bool.{and_from, and_parts}
use Rattle.lab_lattice.specs.Label.{Label}
use Rattle.lab_text.specs.Policy.{PolicyNames, MakePolicy, top_of}
use Rattle.kern_model.specs.Arguments.{is_item, is_script}
use Rattle.kern_model.specs.World.{IsWorld}
use Rattle.kern_model.specs.declared.world.ScriptItem.{ScriptItem}
use Rattle.kern_model.specs.declared.limits.TheConstants.{MAX_INPUT}
use Rattle.script_text.specs.declared.line.Line.{Line}
use Rattle.script_text.specs.declared.line.Line.TheVariants as line
use Rattle.script_text.specs.declared.fault.LineError.{LineError}
use Rattle.script_text.specs.Line.{parse_line, MayBePlayed}
use Rattle.sec_utils.proofs.ItemLaws.{items_played}
use Rattle.script_text.proofs.LineLaws.{parsed_played}
use Rattle.world_text.specs.declared.format.Format.{Format}
use Rattle.world_text.specs.declared.format.Format.TheVariants.{Two}
use Rattle.world_text.specs.declared.world.WorldText.{WorldText}
use Rattle.world_text.proofs.Accepted.{accepted_world, accepted_top, accepted_policy}
use Rattle.world_text.specs.Reading.{Reading, Accepted, Refused as Stopped, Ended, read_text}
use Rattle.lab_engine.specs.Input.{Accepted as AcceptedWorld, Script, ScriptLines, after_line, begun_by, begun_in, input_from, input_in, input_of, items_in, items_of_lines, lines_from, script_of, takes_all}

-- ---- scripts

-- one script after another
both_scripts : (top : Label) (is more : List ScriptItem) → is_script top is ≡ true → is_script top more ≡ true → is_script top (is ++ more) ≡ true
both_scripts top [] more h rest = rest
both_scripts top (i ∷ is) more h rest = let parts = and_parts (is_item top i) (is_script top is) h in and_from _ _ parts.0 (both_scripts top is more parts.1 rest)

-- the calls of a line that may be played
line_played : (top : Label) (l : Line) → MayBePlayed top l → is_script top (items_in l) ≡ true
line_played top line.Blank fit = refl
line_played top (line.One who c) fit = and_from _ _ (and_from _ _ (and_from _ _ fit.0 fit.1) fit.2) refl
line_played top (line.Tool util) fit = items_played util top fit.0 fit.1

module _ (policy : PolicyNames) where
  after_played : (text : List ℕ) (parsed : Result Line LineError) → parse_line policy text ≡ parsed → (n : ℕ) (more : ScriptLines) → is_script (top_of policy) (items_of_lines more.lines) ≡ true
      → is_script (top_of policy) (items_of_lines (after_line takes_all parsed n text more).lines) ≡ true
  after_played text (Err e) is n more rest = refl
  after_played text (Ok l) is n more rest = both_scripts (top_of policy) (items_in l) (items_of_lines more.lines) (line_played (top_of policy) l (parsed_played policy text l is)) rest

  script_played : (over : Bool) (n : ℕ) (ls : List (List ℕ)) → is_script (top_of policy) (items_of_lines (lines_from takes_all over policy n ls).lines) ≡ true
  unfolding lines_from
  script_played over n [] = refl
  script_played over n (last ∷ []) = refl
  script_played over n (text ∷ next ∷ ls) = after_played text (parse_line policy text) refl n _ (script_played over (n + 1) (next ∷ ls))

-- ---- inputs

-- a world is one, its names make a policy with its highest label, and the arguments of the calls of its script are in their ranges
pub record IsPlayable (a : AcceptedWorld) (s : Script) : Type 0 where
  pub world : IsWorld a.world
  pub top : a.world.top ≡ top_of a.policy
  pub policy : MakePolicy a.policy
  pub script : is_script a.world.top s.items ≡ true

same_some : (w a : WorldText) → Some w ≡ Some a → w ≡ a
same_some w a e = cc

module _ (over : Bool) (due : Format) (a : WorldText) where
  by_reading : (text : List ℕ) (r : Reading) → read_text due text ≡ r → (input_from (begun_by over r)).accepted ≡ Some a → IsPlayable a (input_from (begun_by over r)).script
  by_reading text (Accepted w n ls) is e =
      let s = script_of (lines_from takes_all over w.policy n ls) in
      subst (λ (v : WorldText). IsPlayable v s) (same_some w a e) (record {
        world = accepted_world due text w n ls is;
        top = accepted_top due text w n ls is;
        policy = accepted_policy due text w n ls is;
        script = subst (λ (top : Label). is_script top s.items ≡ true) (sym (accepted_top due text w n ls is)) (script_played w.policy over n ls);
      })
  by_reading text (Stopped n why) is e = absurd (cc)
  by_reading text (Ended n last) is e = absurd (cc)

-- an accepted world and its script can be played
pub accepted_in : (due : Format) (text : List ℕ) (a : WorldText) → (input_in due text).accepted ≡ Some a → IsPlayable a (input_in due text).script
unfolding input_in begun_in
accepted_in due text a is = by_reading (nat_lt MAX_INPUT (length text)) due a (take MAX_INPUT text) (read_text due (take MAX_INPUT text)) refl is

pub accepted_input : (text : List ℕ) (a : WorldText) → (input_of text).accepted ≡ Some a → IsPlayable a (input_of text).script
accepted_input text a is = accepted_in Two text a is
