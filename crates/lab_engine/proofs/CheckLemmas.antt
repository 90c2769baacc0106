-- A script that is read and not played.
use Rattle.std.proofs.Common.{ℕ, inl, inr, ap}
use Rattle.std.specs.Prelude.{Result, Ok, Err}
use Rattle.io_ends.specs.Ends.{SourceView}
use Rattle.io_ends.specs.LinesState.{LinesState}
use Rattle.lab_text.specs.Policy.{PolicyNames}
use Rattle.lab_engine.specs.declared.ending.Fault.{Fault}
use Rattle.lab_engine.specs.declared.playing.Played.{Played}
use Rattle.lab_engine.specs.Checking.{ChecksScript}
use Rattle.lab_engine.specs.Counts.{CountsOnce, counts}
use Rattle.lab_engine.specs.Handling.{HandlesScript}
use Rattle.lab_engine.specs.Input.{ScriptLine, takes_all}

module _ {H : Type 0} (handles : ℕ → ScriptLine → H → H → Type 0) (stops : ℕ → ScriptLine → Fault → H → H → Type 0) (policy : PolicyNames) (lines lines' : LinesState) (source source' : SourceView) (first now : H) where
  -- a script whose lines were handled
  pub checks_script : (result : Result Played Fault) → HandlesScript handles stops result takes_all policy lines lines' source source' first now → ChecksScript result policy lines lines' source.left source'.left
  checks_script (Ok p) h = record {
    taken = h.taken;
    takes = h.takes;
    did = record { ending = h.did.ending; count = h.did.count; to_the_end = h.did.to_the_end };
  }
  checks_script (Err fault) h = record { taken = h.taken; takes = h.takes; did = tt }

-- a handler that no fault stops leaves the faults to the source
pub checks_count : {H : Type 0} (handles : ℕ → ScriptLine → H → H → Type 0) (policy : PolicyNames) (lines lines' : LinesState) (source source' : SourceView) (first now : H)
    (result : Result Played Fault) → HandlesScript handles (λ count line fault a b. ⊥) result takes_all policy lines lines' source source' first now → (o t : ℕ) → CountsOnce result (counts source.faults o t) (counts source'.faults o t)
checks_count handles policy lines lines' source source' first now (Ok p) h o t = ap (λ n. counts n o t) h.did.no_fault
checks_count handles policy lines lines' source source' first now (Err fault) h o t = elim h.did [
  | inl between ↦ between.one_fault o t
  | inr within ↦ absurd within.stopped
]
