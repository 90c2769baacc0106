-- What a script is that was read and not played.
use Rattle.std.specs.Prelude.{◌≡◌, ℕ, List, ◌++◌, length, Result, MatchResult}
use Rattle.std.specs.declared.option.Option.{Option}
use Rattle.std.specs.Io.KnownBytes.{IsAtEnd}
use Rattle.io_ends.specs.LinesState.{LinesState}
use Rattle.lab_text.specs.Policy.{PolicyNames}
use Rattle.lab_engine.specs.declared.ending.Fault.{Fault}
use Rattle.lab_engine.specs.declared.ending.InputEnd.TheVariants.{Whole}
use Rattle.lab_engine.specs.declared.playing.Played.{Played}
use Rattle.lab_engine.specs.Input.{Script}
use Rattle.lab_engine.specs.Reading.{Takes, left_of, script_at}

-- all calls of a script were counted
pub record Counted (m : Script) (left : Option (List ℕ)) (p : Played) : Type 0 where
  pub ending : p.ending ≡ m.ending
  pub count : p.count ≡ length m.items
  pub to_the_end : p.ending ≡ Whole → IsAtEnd left

-- a script was read from a reader of lines, and its calls were counted
pub record ChecksScript (result : Result Played Fault) (policy : PolicyNames) (lines lines' : LinesState) (left left' : Option (List ℕ)) : Type 0 where
  pub taken : List ℕ
  pub takes : Takes lines lines' left left' taken
  pub did : MatchResult result (λ p. Counted (script_at policy lines (taken ++ left_of left')) left' p) (λ fault. Unit {0})
