-- What was written of a script that is upgraded.
use Rattle.std.specs.Prelude.{◌≡◌, ◌≤◌, List, [], ◌∷◌, ◌++◌, ℕ, length, Result, IfOk}
use Rattle.std.specs.declared.option.Option.{Option}
use Rattle.std.specs.Io.KnownBytes.{IsAtEnd}
use Rattle.io_ends.specs.Ends.{SinkView}
use Rattle.io_ends.specs.LinesState.{LinesState}
use Rattle.fs_path.specs.Split.{pieces}
use Rattle.kern_model.specs.declared.limits.TheConstants.{MAX_INPUT}
use Rattle.lab_text.specs.Policy.{PolicyNames}
use Rattle.world_text.specs.declared.format.Format.TheVariants.{One, Two}
use Rattle.world_text.specs.declared.world.WorldText.{WorldText}
use Rattle.world_text.specs.CanBeRead.{HasShortLines}
use Rattle.world_text.specs.Reading.{Accepted as AcceptedWorld, read_text, reading_of}
use Rattle.world_text.specs.Written.{text_of_world}
use Rattle.lab_engine.specs.declared.ending.Fault.{Fault}
use Rattle.lab_engine.specs.declared.ending.InputEnd.{InputEnd}
use Rattle.lab_engine.specs.declared.ending.InputEnd.TheVariants.{Whole}
use Rattle.lab_engine.specs.Input.{Accepted, ScriptLine, input_of, old_input_of}
use Rattle.lab_engine.specs.UpgradeInput.{UpgradeScript}
use Rattle.lab_engine.specs.Order.{to_out}
use Rattle.lab_engine.specs.Playing.{Ends, SendsAll, StopsBy, Writes, ends}
use Rattle.lab_engine.specs.Reading.{Takes, left_of, upgrade_at}

-- a line was written as it came
abbrev pub CopiesLine : ScriptLine → (out out' : SinkView) → Type 0
CopiesLine line out out' = (source : ℕ) (trail : SinkView) → SendsAll (to_out (line.text ++ 10 ∷ [])) (ends source out trail) (ends source out' trail)

-- a fault stopped the line
abbrev pub StopsInLine : ScriptLine → Fault → (out out' : SinkView) → Type 0
StopsInLine line fault out out' = (source : ℕ) (trail : SinkView) → StopsBy fault (to_out (line.text ++ 10 ∷ [])) (ends source out trail) (ends source out' trail)

-- how a script ended
pub record EndsUpgrade (m : UpgradeScript) (left : Option (List ℕ)) (ending : InputEnd) : Type 0 where
  pub same : ending ≡ m.ending
  pub to_the_end : ending ≡ Whole → IsAtEnd left

-- a script was read from a reader of lines, and its lines were written
pub record UpgradesScript (result : Result InputEnd Fault) (policy : PolicyNames) (lines lines' : LinesState) (left left' : Option (List ℕ)) (before after : Ends) : Type 0 where
  pub taken : List ℕ
  pub takes : Takes lines lines' left left' taken
  pub writes : Writes result (to_out (upgrade_at policy lines (taken ++ left_of left')).text) before after
  pub ends : IfOk result (λ e. EndsUpgrade (upgrade_at policy lines (taken ++ left_of left')) left' e)

-- the text of a world is read as this world, where its lines are not too long
abbrev pub ReadsBack : WorldText → Type 0
ReadsBack w = HasShortLines w → read_text Two (text_of_world w) ≡ reading_of w

-- an input of the old format was upgraded: the output is the text of its world, and after it all that stands behind the line `script`; where neither a
-- line of that text nor the output is too long, the output is the same input
pub record UpgradedTo (text out : List ℕ) : Type 0 where
  pub world : Accepted
  pub number : ℕ
  pub head : List ℕ
  pub behind : List ℕ
  pub text_is : text ≡ head ++ behind
  pub reads : read_text One text ≡ AcceptedWorld world number (pieces 10 behind)
  pub out_is : out ≡ text_of_world world ++ behind
  pub whole : (old_input_of text).script.ending ≡ Whole
  pub same : HasShortLines world → length out ≤ MAX_INPUT → input_of out ≡ old_input_of text
