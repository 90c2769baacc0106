-- A run that is reported with the same names of labels at each step.
use Rattle.std.proofs.Common.{◌≡◌, ℕ, ◌+◌, List, ◌∷◌, ◌++◌, sym, ◌∙◌, ap, subst, Option}
use Rattle.std.specs.Prelude.{Result}
use Rattle.io_ends.specs.LinesState.{LinesState}
use Rattle.kern_model.specs.declared.world.ScriptItem.{ScriptItem}
use Rattle.kern_model.specs.Run.{item_record}
use Rattle.kern_model.specs.State.{State}
use Rattle.kern_model.specs.Step.{step}
use Rattle.lab_text.specs.Policy.{PolicyNames}
use Rattle.lab_engine.specs.declared.ending.Fault.{Fault}
use Rattle.lab_engine.specs.declared.playing.Played.{Played}
use Rattle.lab_engine.specs.declared.reporting.Report.{Report}
use Rattle.lab_engine.specs.Input.{Judge}
use Rattle.lab_engine.specs.Playing.{Ends, PlaysScript}
use Rattle.lab_engine.specs.Report.{call_sends, items_reported, report_after_call}
use Rattle.lab_engine.proofs.ReportLemmas.{items_left}

module _ (policy now : PolicyNames) (same : now ≡ policy) where
  -- a call, and those after it
  pub left_now : (r r' : Report) (count : ℕ) (s next : State) (i : ScriptItem) (is items : List ScriptItem) → items ≡ i ∷ is → r' ≡ report_after_call r (item_record s i) → next ≡ (step s i.who i.call).state
      → items_reported r policy count s items ≡ call_sends r now (count + 1) (item_record s i) ++ items_reported r' policy (count + 1) next is
  left_now r r' count s next i is items e kept state =
      items_left policy r r' count s next i is items e kept state ∙ ap (λ (p : PolicyNames). call_sends r p (count + 1) (item_record s i) ++ items_reported r' policy (count + 1) next is) (sym same)

  module _ (judge : Judge) (r0 r : Report) (s0 s : State) (lines0 lines : LinesState) (left0 left : Option (List ℕ)) (before after : Ends) where
    -- what is kept at the start is given too
    pub plays_from : (q : Report) → q ≡ r0 → (result : Result Played Fault) → PlaysScript result judge now q r s0 s lines0 lines left0 left before after → PlaysScript result judge policy r0 r s0 s lines0 lines left0 left before after
    plays_from q is result p = subst (λ (names : PolicyNames). PlaysScript result judge names r0 r s0 s lines0 lines left0 left before after) same (subst (λ (x : Report). PlaysScript result judge now x r s0 s lines0 lines left0 left before after) is p)
