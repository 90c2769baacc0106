-- What is written of an input that is upgraded.
use Rattle.std.proofs.Common.{◌≡◌, ℕ, List, ◌++◌, sym, ◌∙◌, ap, subst}
use Rattle.std.proofs.lemmas.Result.{IfOk-weaker}
use Rattle.std.specs.Prelude.{Option, Some, Result, Ok, Err, IsErrAnd, IfOk}
use Rattle.io_ends.specs.LinesState.{LinesState, may_take}
use Rattle.world_text.specs.Written.{text_of_world}
use Rattle.lab_engine.specs.declared.ending.Fault.{Fault}
use Rattle.lab_engine.specs.declared.ending.InputEnd.{InputEnd}
use Rattle.lab_engine.specs.Input.{Accepted}
use Rattle.lab_engine.specs.Order.{Sent, to_out}
use Rattle.lab_engine.specs.Playing.{Ends, SendsAll, StopsBy, Writes}
use Rattle.lab_engine.specs.Reading.{left_of, upgrade_at}
use Rattle.lab_engine.specs.UpgradeInput.{UpgradeScript}
use Rattle.lab_engine.specs.Upgrading.{ReadsBack, UpgradesScript}
use Rattle.lab_engine.specs.Viewing.{unless_whole}
use Rattle.lab_engine.proofs.Sending.{goes_on, in_order, stops_longer, to_out-append}
use Rattle.labsys.specs.declared.command.InputCommand.TheVariants.{Upgrade}
use Rattle.labsys.specs.Clauses.{TakesAtMost}
use Rattle.labsys.specs.Commands.{ends_with}
use Rattle.labsys.specs.Playing.{DoesWorld, WritesLeft, due_left}
use Rattle.labsys.specs.Upgrading.{upgrade_text}
use Rattle.labsys.proofs.InputLemmas.{failed_ending, reads_nothing, reads_within}
use Rattle.labsys.proofs.WorldLemmas.{left_stops, left_written, some_same}

-- ---- an accepted world

module _ (a : Accepted) where
  -- the text of the world, the lines of the script, and the last line
  order_is : (m : UpgradeScript) → to_out (text_of_world a) ++ (to_out m.text ++ to_out (unless_whole m.ending)) ≡ to_out (upgrade_text (Some a) m)
  order_is m = sym (to_out-append (text_of_world a) (m.text ++ unless_whole m.ending) ∙ ap (λ (o : List Sent). to_out (text_of_world a) ++ o) (to_out-append m.text (unless_whole m.ending)))

  module _ (r : Result InputEnd Fault) (lines : LinesState) (left : Option (List ℕ)) (before : Ends) where
    upgrade_did : (left' : Option (List ℕ)) (after : Ends) → WritesLeft (due_left Upgrade a lines) r lines left left' before after → IfOk r (λ _. ReadsBack a) → DoesWorld Upgrade r a lines left left' before after
    upgrade_did left' after wrote back = record { wrote = wrote; by_line = λ play. absurd (cc); besides = IfOk-weaker r _ _ (λ e reads b same. subst ReadsBack (some_same a b same) reads) back }

    -- the world was not written
    pub world_fails : (fault : Fault) (after : Ends) → StopsBy fault (to_out (text_of_world a)) before after → IsErrAnd r (λ q. q ≡ fault) → DoesWorld Upgrade r a lines left left before after
    world_fails fault after stop is = upgrade_did left after
        (left_stops (due_left Upgrade a lines) r lines left left (reads_nothing (may_take lines) left) before after fault
        (subst (λ (o : List Sent). StopsBy fault o before after) (order_is _) (stops_longer fault _ _ before after stop)) is)
        (failed_ending r fault is _)

    -- it was written
    module _ (now : Ends) (headed : SendsAll (to_out (text_of_world a)) before now) (lines' : LinesState) (left' : Option (List ℕ)) (after : Ends) where
      all_by : (x : Result InputEnd Fault) (m : UpgradeScript) (end : Ends) → Writes x (to_out m.text ++ to_out (unless_whole m.ending)) now end → Writes x (to_out (upgrade_text (Some a) m)) before end
      all_by x m end w = in_order x _ _ before end (order_is m) (goes_on x _ _ before now end headed w)

      -- a fault stopped the script
      pub script_fails : (fault : Fault) → UpgradesScript (Err fault) a.policy lines lines' left left' now after → IsErrAnd r (λ q. q ≡ fault) → DoesWorld Upgrade r a lines left left' before after
      script_fails fault did is =
          let m = upgrade_at a.policy lines (did.taken ++ left_of left') in
          upgrade_did left' after
          (left_stops (due_left Upgrade a lines) r lines left left' (reads_within lines lines' left left' did.taken did.takes) before after fault
          (all_by (Err fault) m after (stops_longer fault (to_out m.text) (to_out (unless_whole m.ending)) now after did.writes)) is)
          (failed_ending r fault is _)

      -- the script was written
      module _ (e : InputEnd) (did : UpgradesScript (Ok e) a.policy lines lines' left left' now after) (end : Ends) where
        abbrev m : UpgradeScript
        m = upgrade_at a.policy lines (did.taken ++ left_of left')

        abbrev reads : TakesAtMost (may_take lines) left left'
        reads = reads_within lines lines' left left' did.taken did.takes

        -- the last line is written
        last : (x : Result InputEnd Fault) → Writes x (to_out (unless_whole e)) after end → Writes x (to_out (upgrade_text (Some a) m)) before end
        last x w = all_by x m end (goes_on x (to_out m.text) (to_out (unless_whole m.ending)) now after end did.writes (in_order x _ _ after end (ap (λ (q : InputEnd). to_out (unless_whole q)) did.ends.same) w))

        pub last_fails : (fault : Fault) → StopsBy fault (to_out (unless_whole e)) after end → IsErrAnd r (λ q. q ≡ fault) → DoesWorld Upgrade r a lines left left' before end
        last_fails fault stop is = upgrade_did left' end (left_stops (due_left Upgrade a lines) r lines left left' reads before end fault (last (Err fault) stop) is) (failed_ending r fault is _)

        pub all_written : r ≡ Ok e → ReadsBack a → SendsAll (to_out (unless_whole e)) after end → DoesWorld Upgrade r a lines left left' before end
        all_written is back sends = upgrade_did left' end
            (left_written (due_left Upgrade a lines) r lines left left' reads before end e is (last (Ok e) sends) (ap ends_with did.ends.same) did.ends.to_the_end)
            (subst (λ (x : Result InputEnd Fault). IfOk x (λ _. ReadsBack a)) (sym is) back)
