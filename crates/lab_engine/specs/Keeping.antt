-- What is kept of a script that was played without a word.
use Rattle.std.specs.Prelude.{◌≡◌, ℕ, List, ◌++◌, Result, IfOk}
use Rattle.std.specs.declared.option.Option.{Option}
use Rattle.std.specs.Io.KnownBytes.{IsAtEnd}
use Rattle.io_ends.specs.LinesState.{LinesState}
use Rattle.kern_model.specs.Run.{run, state_after_run}
use Rattle.kern_model.specs.State.{State}
use Rattle.lab_text.specs.Policy.{PolicyNames}
use Rattle.lab_engine.specs.declared.ending.Fault.{Fault}
use Rattle.lab_engine.specs.declared.ending.InputEnd.TheVariants.{Whole}
use Rattle.lab_engine.specs.declared.keeping.Kept.{Kept}
use Rattle.lab_engine.specs.declared.reporting.Report.{Report}
use Rattle.lab_engine.specs.Input.{Judge, Script}
use Rattle.lab_engine.specs.Reading.{Takes, left_of, script_by}
use Rattle.lab_engine.specs.Report.{report_after}

-- all calls of a script were played from a state on, and this is what a report keeps of them
pub record KeepsCalls (r : Report) (s s' : State) (m : Script) (left : Option (List ℕ)) (k : Kept) : Type 0 where
  pub ending : k.ending ≡ m.ending
  pub report : k.report ≡ report_after r (run s m.items)
  pub state : s' ≡ state_after_run s m.items
  pub to_the_end : k.ending ≡ Whole → IsAtEnd left

-- the script of the lines that a judge takes was read from a reader of lines, and its calls were played
pub record KeepsScript (result : Result Kept Fault) (judge : Judge) (r : Report) (policy : PolicyNames) (s s' : State) (lines lines' : LinesState) (left left' : Option (List ℕ)) : Type 0 where
  pub taken : List ℕ
  pub takes : Takes lines lines' left left' taken
  pub did : IfOk result (λ k. KeepsCalls r s s' (script_by judge policy lines (taken ++ left_of left')) left' k)
