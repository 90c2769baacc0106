-- What an input is that was opened.
use Rattle.std.specs.Prelude.{◌≡◌, ℕ, ◌+◌, ◌≤◌, ◌^◌, true, List, [], ◌++◌, length, Some, None, Result, MatchResult}
use Rattle.std.specs.declared.option.Option.{Option}
use Rattle.std.specs.Io.KnownBytes.{Consumes, IsAtEnd}
use Rattle.io_ends.specs.LinesState.{may_take}
use Rattle.kern_model.specs.declared.limits.TheConstants.{MAX_INPUT}
use Rattle.world_text.specs.declared.format.Format.{Format}
use Rattle.lab_engine.specs.declared.ending.Fault.{Fault}
use Rattle.lab_engine.specs.declared.ending.Fault.TheVariants.{Read as ReadFault}
use Rattle.lab_engine.specs.declared.ending.InputEnd.{InputEnd}
use Rattle.lab_engine.specs.declared.ending.InputEnd.TheVariants.{Whole}
use Rattle.lab_engine.specs.declared.opening.Opened.{Opened}
use Rattle.lab_engine.specs.declared.opening.Opened.TheVariants as opened
use Rattle.lab_engine.specs.declared.opening.OpenedWorld.{OpenedWorld}
use Rattle.lab_engine.specs.Input.{begun_in, input_in, no_world}
use Rattle.lab_engine.specs.LeastInput.{least_in}
use Rattle.lab_engine.specs.UpgradeInput.{upgrade_in, kept_script}
use Rattle.lab_engine.specs.Reading.{least_at, left_of, script_at, script_left, upgrade_at}

-- a world was accepted: the bytes that were taken, with whatever more follows, are an input that has this world, and whose script is what is left at the reader,
-- which takes no more than the limit and one byte in all
pub record OpensWorld (due : Format) (taken : List ℕ) (o : OpenedWorld) : Type 0 where
  pub begun : (more : List ℕ) → begun_in due (taken ++ more) ≡ script_left o.read o.lines more
  pub says : (more : List ℕ) → input_in due (taken ++ more) ≡ record { accepted = Some o.read; script = script_at o.read.policy o.lines more }
  pub keeps : (more : List ℕ) → upgrade_in due (taken ++ more) ≡ record { accepted = Some o.read; script = upgrade_at o.read.policy o.lines more }
  pub least : (more : List ℕ) → least_in due (taken ++ more) ≡ record { accepted = Some o.read; script = least_at o.read.policy o.lines more }
  pub more : o.lines.more ≡ true
  pub small : o.lines.room ≤ 2 ^ 24
  pub within : length taken + may_take o.lines ≡ MAX_INPUT + 1

-- the input ends before its world does
pub record EndsInput (due : Format) (left : Option (List ℕ)) (taken : List ℕ) (ending : InputEnd) : Type 0 where
  pub says : input_in due (taken ++ left_of left) ≡ no_world ending
  pub keeps : upgrade_in due (taken ++ left_of left) ≡ record { accepted = None; script = kept_script [] ending }
  pub least : least_in due (taken ++ left_of left) ≡ no_world ending
  pub to_the_end : ending ≡ Whole → IsAtEnd left

-- what the input is
abbrev pub SaysInput : Format → Option (List ℕ) → List ℕ → Opened → Type 0
SaysInput due left taken (opened.World o) = OpensWorld due taken o
SaysInput due left taken (opened.Ended ending) = EndsInput due left taken ending

-- an input of the format that is due was opened; where a read failed, the bytes that were taken have no whole world
pub record OpensInput (due : Format) (result : Result Opened Fault) (left left' : Option (List ℕ)) : Type 0 where
  pub taken : List ℕ
  pub took : Consumes left left' taken
  pub few : length taken ≤ MAX_INPUT + 1
  pub shows : MatchResult result (λ o. SaysInput due left' taken o) (λ fault. fault ≡ ReadFault → (input_in due taken).accepted ≡ None)
