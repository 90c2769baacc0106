-- A script that is played for what is kept of its calls.
use Rattle.std.proofs.Common.{◌≡◌, ℕ, refl, ap}
use Rattle.std.specs.Prelude.{Option, Result, Ok, Err, IsErrAnd, List}
use Rattle.io_ends.specs.LinesState.{LinesState}
use Rattle.kern_model.specs.State.{State}
use Rattle.lab_text.specs.Policy.{PolicyNames}
use Rattle.lab_engine.specs.declared.ending.Fault.{Fault}
use Rattle.lab_engine.specs.declared.keeping.Kept.{Kept}
use Rattle.lab_engine.specs.declared.playing.Played.{Played}
use Rattle.lab_engine.specs.declared.reporting.Report.{Report}
use Rattle.lab_engine.specs.Counts.{Counts, CountsOnce, counted_by, counts}
use Rattle.lab_engine.specs.Input.{Judge}
use Rattle.lab_engine.specs.Keeping.{KeepsScript}
use Rattle.lab_engine.specs.Playing.{Ends, PlaysScript}
use Rattle.lab_engine.proofs.CountLemmas.{any_sink_counts}
use Rattle.lab_engine.proofs.WorldProgress.{counts_once}

module _ (judge : Judge) (policy : PolicyNames) (r r' : Report) (s s' : State) (lines lines' : LinesState) (left left' : Option (List ℕ)) (before after : Ends) where
  -- the script was played to its end
  pub keeps_script : (p : Played) → PlaysScript (Ok p) judge policy r r' s s' lines lines' left left' before after → KeepsScript (Ok (record { ending = p.ending; report = r' })) judge r policy s s' lines lines' left left'
  keeps_script p did = record {
    taken = did.taken;
    takes = did.takes;
    did = record { ending = did.did.ending; report = did.did.report; state = did.did.state; to_the_end = did.did.to_the_end };
  }

  -- a fault stopped it
  pub keeps_part : (k : Result Kept Fault) (fault : Fault) → IsErrAnd k (λ q. q ≡ fault) → PlaysScript (Err fault) judge policy r r' s s' lines lines' left left' before after → KeepsScript k judge r policy s s' lines lines' left left'
  keeps_part (Ok x) fault is did = absurd is
  keeps_part (Err q) fault is did = record { taken = did.taken; takes = did.takes; did = tt }

-- ---- faults

pub counts_fault : {T : Type 0} (r : Result T Fault) (fault : Fault) → IsErrAnd r (λ q. q ≡ fault) → (n n' : ℕ) → counts n' 0 0 ≡ counted_by fault (counts n 0 0) → (o t : ℕ) → CountsOnce r (counts n o t) (counts n' o t)
counts_fault r fault is n n' once o t = counts_once r fault is (counts n o t) (counts n o t) (counts n' o t) refl (any_sink_counts fault n n' once o t)

pub counts_none : (n n' : ℕ) → counts n' 0 0 ≡ counts n 0 0 → (o t : ℕ) → counts n' o t ≡ counts n o t
counts_none n n' same o t = ap (λ (c : Counts). counts c.source o t) same
