-- What is written of an input that is read and not played.
use Rattle.std.proofs.Common.{◌≡◌, ℕ, List, ◌++◌, length, ◌∙◌, ap}
use Rattle.std.specs.Prelude.{Option, Some, Result, Ok, IsErrAnd}
use Rattle.io_ends.specs.LinesState.{LinesState, may_take}
use Rattle.io_ends.specs.Ends.{SinkView}
use Rattle.lab_engine.specs.declared.ending.Fault.{Fault}
use Rattle.lab_engine.specs.declared.ending.InputEnd.{InputEnd}
use Rattle.lab_engine.specs.declared.playing.Played.{Played}
use Rattle.lab_engine.specs.Checking.{Counted}
use Rattle.lab_engine.specs.Counts.{counts, counted_by}
use Rattle.lab_engine.specs.Input.{Accepted, Script}
use Rattle.lab_engine.specs.Order.{to_out}
use Rattle.lab_engine.specs.Playing.{SendsAll, StopsBy, ends}
use Rattle.lab_engine.specs.Reading.{Takes, left_of, script_at}
use Rattle.labsys.specs.declared.command.InputCommand.TheVariants.{Check}
use Rattle.labsys.specs.Checking.{check_text, checked_text}
use Rattle.labsys.specs.Clauses.{TakesAtMost}
use Rattle.labsys.specs.Commands.{ends_with}
use Rattle.labsys.specs.Playing.{DoesWorld, WritesLeft, due_left}
use Rattle.labsys.proofs.InputLemmas.{reads_within}
use Rattle.labsys.proofs.WorldLemmas.{reading_stops, text_stops, text_written}

module _ (a : Accepted) (r : Result InputEnd Fault) (lines lines' : LinesState) (left left' : Option (List ℕ)) (taken : List ℕ) (takes : Takes lines lines' left left' taken) (n n' : ℕ) (o t : SinkView) where
  abbrev m : Script
  m = script_at a.policy lines (taken ++ left_of left')

  abbrev reads : TakesAtMost (may_take lines) left left'
  reads = reads_within lines lines' left left' taken takes

  check_did : (o' : SinkView) → WritesLeft (due_left Check a lines) r lines left left' (ends n o t) (ends n' o' t) → DoesWorld Check r a lines left left' (ends n o t) (ends n' o' t)
  check_did o' wrote = record { wrote = wrote; by_line = λ play. absurd (cc); besides = tt }

  -- the script was not read to its end
  pub check_fails : (fault : Fault) → counts n' o.faults t.faults ≡ counted_by fault (counts n o.faults t.faults) → IsErrAnd r (λ q. q ≡ fault) → DoesWorld Check r a lines left left' (ends n o t) (ends n' o t)
  check_fails fault once is = check_did o (reading_stops (due_left Check a lines) r lines left left' reads n n' o t fault once is)

  module _ (still : (u v : ℕ) → counts n' u v ≡ counts n u v) (p : Played) (all : Counted m left' p) (o' : SinkView) where
    -- what was found is what is due
    found_is : to_out (checked_text a.world p.count p.ending) ≡ to_out (check_text (Some a) m)
    found_is = ap to_out (ap (λ k. checked_text a.world k p.ending) all.count ∙ ap (λ e. checked_text a.world (length m.items) e) all.ending)

    -- it was not written
    pub found_fails : (fault : Fault) → StopsBy fault (to_out (checked_text a.world p.count p.ending)) (ends n' o t) (ends n' o' t) → IsErrAnd r (λ q. q ≡ fault) → DoesWorld Check r a lines left left' (ends n o t) (ends n' o' t)
    found_fails fault stop is = check_did o' (text_stops (due_left Check a lines) r lines left left' reads n n' o t still _ found_is o' fault stop is)

    -- it was written
    pub found_written : r ≡ Ok p.ending → SendsAll (to_out (checked_text a.world p.count p.ending)) (ends n' o t) (ends n' o' t) → DoesWorld Check r a lines left left' (ends n o t) (ends n' o' t)
    found_written is sends = check_did o' (text_written (due_left Check a lines) r lines left left' reads n n' o t still _ found_is o' p.ending is sends (ap ends_with all.ending) all.to_the_end)
