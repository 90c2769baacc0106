-- A script that was played over ends that were lent.
use Rattle.std.proofs.Common.{◌≡◌, ℕ, List, subst, Option}
use Rattle.std.specs.Prelude.{Result}
use Rattle.io_ends.specs.Ends.{SinkView}
use Rattle.io_ends.specs.LinesState.{LinesState}
use Rattle.kern_model.specs.State.{State}
use Rattle.lab_text.specs.Policy.{PolicyNames}
use Rattle.lab_engine.specs.declared.ending.Fault.{Fault}
use Rattle.lab_engine.specs.declared.playing.Played.{Played}
use Rattle.lab_engine.specs.declared.reporting.Report.{Report}
use Rattle.lab_engine.specs.Input.{takes_all}
use Rattle.lab_engine.specs.Playing.{Ends, PlaysScript, ends}
use Rattle.lab_engine.proofs.ReporterLemmas.{plays_from}

-- the names of labels, what was kept, and the sinks are those that were lent
module _ (policy now : PolicyNames) (same : now ≡ policy) (r q : Report) (is : q ≡ r) (o o0 t t0 : SinkView) (out_is : o0 ≡ o) (trail_is : t0 ≡ t) (result : Result Played Fault) (r' : Report) (s s' : State) (lines lines' : LinesState) (left left' : Option (List ℕ)) (n : ℕ) (after : Ends) where
  pub plays_lent : PlaysScript result takes_all now q r' s s' lines lines' left left' (ends n o0 t0) after → PlaysScript result takes_all policy r r' s s' lines lines' left left' (ends n o t) after
  plays_lent x = plays_from policy now same takes_all r r' s s' lines lines' left left' (ends n o t) after q is result
      (subst (λ (u : SinkView). PlaysScript result takes_all now q r' s s' lines lines' left left' (ends n u t) after) out_is
      (subst (λ (u : SinkView). PlaysScript result takes_all now q r' s s' lines lines' left left' (ends n o0 u) after) trail_is x))
