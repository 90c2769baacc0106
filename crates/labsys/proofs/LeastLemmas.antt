-- What is written of an input whose capabilities are narrowed to those that its script needs.
use Rattle.std.proofs.Common.{◌≡◌, ℕ, List, ◌++◌, sym, ◌∙◌, ap, subst}
use Rattle.std.specs.Prelude.{Option, Some, Result, Ok, Err, IsErrAnd, IfOk}
use Rattle.cap_bits.specs.CapSet.{CapSet, no_caps}
use Rattle.io_ends.specs.LinesState.{LinesState, may_take}
use Rattle.io_ends.specs.Ends.{SinkView}
use Rattle.kern_model.specs.Boot.{boot}
use Rattle.kern_model.specs.Run.{run}
use Rattle.kern_model.specs.State.{State}
use Rattle.lab_engine.specs.declared.ending.Fault.{Fault}
use Rattle.lab_engine.specs.declared.ending.Fault.TheVariants.{NoMemory}
use Rattle.lab_engine.specs.declared.ending.InputEnd.{InputEnd}
use Rattle.lab_engine.specs.declared.ending.InputEnd.TheVariants.{Whole}
use Rattle.lab_engine.specs.declared.keeping.Kept.{Kept}
use Rattle.lab_engine.specs.declared.reporting.Report.TheVariants.{Named}
use Rattle.lab_engine.specs.Counts.{counts, counted_by}
use Rattle.lab_engine.specs.Input.{Accepted, Script}
use Rattle.lab_engine.specs.Keeping.{KeepsScript}
use Rattle.lab_engine.specs.Least.{named_by}
use Rattle.lab_engine.specs.LeastInput.{refuses_asked}
use Rattle.lab_engine.specs.Order.{to_out}
use Rattle.lab_engine.specs.Playing.{SendsAll, StopsBy, ends}
use Rattle.lab_engine.specs.Reading.{least_at, left_of}
use Rattle.lab_engine.specs.Report.{caps_in, report_after}
use Rattle.lab_engine.specs.Upgrading.{ReadsBack}
use Rattle.lab_engine.proofs.RunReports.{named_after}
use Rattle.labsys.specs.declared.command.InputCommand.TheVariants.{Least}
use Rattle.labsys.specs.Commands.{CallsWithoutSets, ends_with, read_left}
use Rattle.labsys.specs.Least.{NarrowedReadsBack, least_world, needed_by, needs_text, text_of_least}
use Rattle.labsys.specs.Playing.{DoesWorld, NeedsWorld, due_left}
use Rattle.labsys.proofs.InputLemmas.{failed_ending, reads_nothing, reads_within}
use Rattle.labsys.proofs.WorldLemmas.{reading_stops, some_same, text_stops, text_written}

-- ---- a script of an accepted world

-- there is no memory for the first state
pub boot_fails : (a : Accepted) (r : Result Kept Fault) (lines : LinesState) (left : Option (List ℕ)) → IsErrAnd r (λ q. q ≡ NoMemory) → NeedsWorld r a lines left left
boot_fails a (Ok k) lines left is = absurd is
boot_fails a (Err q) lines left is = record { reads = reads_nothing (may_take lines) left; did = tt }

-- it was played from the first state on
pub script_played : (a : Accepted) (r : Result Kept Fault) (s s' : State) (none : CapSet) (lines lines' : LinesState) (left left' : Option (List ℕ)) → s ≡ boot a.world → none ≡ no_caps
    → KeepsScript r refuses_asked (Named none) a.policy s s' lines lines' left left' → NeedsWorld r a lines left left'
script_played a (Ok k) s s' none lines lines' left left' first is keeps =
    let m = least_at a.policy lines (keeps.taken ++ left_of left') in
    record {
      reads = reads_within lines lines' left left' keeps.taken keeps.takes;
      did = record {
        ending = keeps.did.ending;
        caps = ap caps_in (keeps.did.report) ∙ ap (λ (c : CapSet). caps_in (report_after (Named c) (run s m.items))) is ∙ ap caps_in (named_after (run s m.items)) ∙ ap (λ (x : State). named_by (run x m.items)) first;
        to_the_end = keeps.did.to_the_end;
      };
    }
script_played a (Err q) s s' none lines lines' left left' first is keeps = record { reads = reads_within lines lines' left left' keeps.taken keeps.takes; did = tt }

-- ---- what is written of it

module _ (a : Accepted) (r : Result InputEnd Fault) (lines : LinesState) (left left' : Option (List ℕ)) (n n' : ℕ) (o t : SinkView) where
  -- the script was not played to its end
  pub script_fails : (fault : Fault) → NeedsWorld (Err fault) a lines left left' → counts n' o.faults t.faults ≡ counted_by fault (counts n o.faults t.faults) → IsErrAnd r (λ q. q ≡ fault) → DoesWorld Least r a lines left left' (ends n o t) (ends n' o t)
  script_fails fault did once is = record {
    wrote = reading_stops (due_left Least a lines) r lines left left' did.reads n n' o t fault once is;
    by_line = λ play. absurd (cc);
    besides = failed_ending r fault is _;
  }

  -- it was
  module _ (kept : Kept) (did : NeedsWorld (Ok kept) a lines left left') (still : (u v : ℕ) → counts n' u v ≡ counts n u v) (o' : SinkView) where
    abbrev m : Script
    m = least_at a.policy lines (did.reads.taken ++ left_of left')

    -- what is written is what is due
    text_is : to_out (needs_text a (caps_in kept.report) kept.ending) ≡ to_out (text_of_least (Some a) m)
    text_is = ap to_out (ap (λ (caps : CapSet). needs_text a caps kept.ending) did.did.caps ∙ ap (λ e. needs_text a (needed_by a m) e) did.did.ending)

    -- it was not written
    pub least_fails : (fault : Fault) → StopsBy fault (to_out (needs_text a (caps_in kept.report) kept.ending)) (ends n' o t) (ends n' o' t) → IsErrAnd r (λ q. q ≡ fault) → DoesWorld Least r a lines left left' (ends n o t) (ends n' o' t)
    least_fails fault stop is = record {
      wrote = text_stops (due_left Least a lines) r lines left left' did.reads n n' o t still _ text_is o' fault stop is;
      by_line = λ play. absurd (cc);
      besides = failed_ending r fault is _;
    }

    -- it was written
    pub least_written : r ≡ Ok kept.ending → (kept.ending ≡ Whole → ReadsBack (least_world a (caps_in kept.report))) → SendsAll (to_out (needs_text a (caps_in kept.report) kept.ending)) (ends n' o t) (ends n' o' t) → DoesWorld Least r a lines left left' (ends n o t) (ends n' o' t)
    least_written is back sends = record {
      wrote = text_written (due_left Least a lines) r lines left left' did.reads n n' o t still _ text_is o' kept.ending is sends (ap ends_with did.did.ending) did.did.to_the_end;
      by_line = λ play. absurd (cc);
      besides = subst (λ (x : Result InputEnd Fault). IfOk x (NarrowedReadsBack (read_left CallsWithoutSets a lines (did.reads.taken ++ left_of left')))) (sym is)
          (λ whole b same. subst (λ (w : Accepted). ReadsBack (least_world w (needed_by w m))) (some_same a b same) (subst (λ (caps : CapSet). ReadsBack (least_world a caps)) did.did.caps (back whole)));
    }
