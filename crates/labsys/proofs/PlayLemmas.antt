-- What is left of a run of `play`: an accepted world that is played with its script.
use Rattle.std.proofs.Common.{◌≡◌, inl, inr, ℕ, List, [], ◌∷◌, ◌++◌, length, map, refl, sym, ◌∙◌, ap, subst, append_assoc, arith}
use Rattle.std.specs.Prelude.{Option, None, Some, Result, Ok, Err, IsErrAnd}
use Rattle.std.specs.List.{AllByRecursion, flat_map}
use Rattle.io_ends.specs.LinesState.{LinesState, may_take}
use Rattle.aud_record.specs.Written.{header_text, rec_text}
use Rattle.kern_model.specs.declared.records.Rec.{Rec}
use Rattle.kern_model.specs.declared.world.ScriptItem.{ScriptItem}
use Rattle.kern_model.specs.Boot.{boot, boot_recs}
use Rattle.kern_model.specs.Run.{run, state_after_run}
use Rattle.kern_model.specs.State.{State}
use Rattle.kern_model.specs.Step.{step}
use Rattle.iso_laws.proofs.AllLemmas.{all-append}
use Rattle.lab_engine.specs.declared.ending.Fault.{Fault}
use Rattle.lab_engine.specs.declared.ending.Fault.TheVariants.{Read, NoMemory}
use Rattle.lab_engine.specs.declared.ending.InputEnd.{InputEnd}
use Rattle.lab_engine.specs.declared.playing.Played.{Played}
use Rattle.lab_engine.specs.declared.reporting.Report.{Report}
use Rattle.lab_engine.specs.declared.reporting.Report.TheVariants.{All}
use Rattle.lab_engine.specs.Input.{Accepted, Script}
use Rattle.lab_engine.specs.Order.{Sent, calls_by, call_order, order_before_end, order_by, session_order, to_out, to_trail}
use Rattle.lab_engine.specs.Playing.{Ends, PlaysAll, Sends, SendsAll, SendsPrefix, StopsBy, StopsIn, Writes, items_order}
use Rattle.lab_engine.specs.Report.{items_reported}
use Rattle.lab_engine.specs.Readable.{AreReadable, IsReadable}
use Rattle.lab_engine.specs.Reading.{Takes, left_of, script_at}
use Rattle.lab_engine.specs.Session.{bytes_of, head_text, numbered_from, session_of, tail_text}
use Rattle.lab_engine.specs.Texts.{ends_text, last_text}
use Rattle.lab_engine.proofs.ReadableLemmas.{with_numbers}
use Rattle.lab_engine.proofs.ReportLemmas.{all_reported}
use Rattle.lab_engine.proofs.Sending.{goes_on, in_order, prefix_after, prefix_longer, prefix_nothing, sends_more, stops_after, stops_at_once, stops_longer}
use Rattle.labsys.specs.declared.command.InputCommand.TheVariants.{Play}
use Rattle.labsys.specs.Clauses.{TakesAtMost}
use Rattle.labsys.specs.Commands.{ends_with}
use Rattle.labsys.specs.Playing.{DoesWorld, due_left}
use Rattle.labsys.specs.Readable.{InputReadable, SessionReadable}
use Rattle.labsys.proofs.InputLemmas.{failed_read, reads_nothing, reads_within}
use Rattle.labsys.proofs.WorldLemmas.{left_stops, left_written, memory_not_read, some_same}

-- ---- an accepted world

run_length : (s : State) (is : List ScriptItem) → length (run s is) ≡ length is
run_length s [] = refl
run_length s (i ∷ is) = let more = run_length (step s i.who i.call).state is in omega (arith, more)

module _ (a : Accepted) (recs : List Rec) (recs_are : recs ≡ boot_recs a.world) (s : State) (s_is : s ≡ boot a.world) where
  played_readable : (m : Script) (before after : Ends) → SessionReadable a m before after → InputReadable (record { accepted = Some a; script = m }) before after
  played_readable m before after played = λ b same. subst (λ (w : Accepted). SessionReadable w m before after) (some_same a b same) played

  abbrev head : List Sent
  head = to_trail (header_text a.policy a.world.bound ++ flat_map (rec_text a.policy 0) recs)

  abbrev calls : Script → List Sent
  calls m = items_reported All a.policy 0 s m.items

  head_first : (m : Script) → head ++ calls m ≡ order_before_end (session_of a m)
  unfolding order_before_end head_text items_order
  head_first m =
      ap (λ (o : List Sent). head ++ o) (all_reported a.policy 0 s m.items)
      ∙ ap (λ (rs : List Rec). to_trail (header_text a.policy a.world.bound ++ flat_map (rec_text a.policy 0) rs) ++ items_order a.policy 0 s m.items) recs_are
      ∙ ap (λ (x : State). to_trail (head_text (session_of a m)) ++ items_order a.policy 0 x m.items) s_is

  calls_are : (m : Script) → head ++ calls m ≡ calls_by (Some a) m
  unfolding calls_by
  calls_are m = head_first m

  abbrev tail : Script → List Sent
  tail m = to_out (tail_text (session_of a m))

  order_is : (m : Script) → head ++ (calls m ++ tail m) ≡ order_by (Some a) m
  unfolding order_by session_order order_before_end
  order_is m =
      sym (append_assoc head (calls m) (tail m))
      ∙ ap (λ (o : List Sent). o ++ tail m) (head_first m)
      ∙ append_assoc (to_trail (head_text (session_of a m))) (flat_map call_order (bytes_of (session_of a m))) (tail m)

  -- the end of the output, after a script that was played
  end_is : (m : Script) (kept : Report) (s' : State) (left : Option (List ℕ)) (p : Played) (before after : Ends) → PlaysAll a.policy All kept s s' m left p before after → to_out (ends_text None a.policy s' ++ last_text p.count p.ending) ≡ tail m
  unfolding tail_text
  end_is m kept s' left p before after all =
      let same : p.count ≡ length (run (boot a.world) m.items) = all.count ∙ sym (run_length (boot a.world) m.items) in
      ap (λ (x : State). to_out (ends_text None a.policy x ++ last_text p.count p.ending)) (all.state ∙ ap (λ (x : State). state_after_run x m.items) s_is)
      ∙ ap (λ k. to_out (ends_text None a.policy (state_after_run (boot a.world) m.items) ++ last_text k p.ending)) same
      ∙ ap (λ e. to_out (ends_text None a.policy (state_after_run (boot a.world) m.items) ++ last_text (length (run (boot a.world) m.items)) e)) all.ending

  module _ (r : Result InputEnd Fault) (lines : LinesState) (left : Option (List ℕ)) (before : Ends) where
    abbrev none_read : TakesAtMost (may_take lines) left left
    none_read = reads_nothing (may_take lines) left

    -- there is no memory for the first state
    pub boot_fails : IsErrAnd r (λ q. q ≡ NoMemory) → DoesWorld Play r a lines left left before before
    boot_fails is = record {
      wrote = left_stops (due_left Play a lines) r lines left left none_read before before NoMemory (stops_at_once _ before) is;
      by_line = λ play read. absurd (memory_not_read r is read);
      besides = played_readable (script_at a.policy lines (left_of left)) before before (inr (prefix_nothing _ before.source before.source before.out before.trail));
    }

    -- a fault cut the head of the trail off
    pub head_fails : (fault : Fault) (after : Ends) → StopsBy fault head before after → (fault ≡ Read → ⊥) → IsErrAnd r (λ q. q ≡ fault) → DoesWorld Play r a lines left left before after
    head_fails fault after stop not_read is =
        let m = script_at a.policy lines (left_of left) in
        record {
          wrote = left_stops (due_left Play a lines) r lines left left none_read before after fault
              (subst (λ (o : List Sent). StopsBy fault o before after) (order_is m) (stops_longer fault head (calls m ++ tail m) before after stop)) is;
          by_line = λ play read. absurd (not_read (failed_read r fault is read));
          besides = played_readable m before after (inr (subst (λ (o : List Sent). SendsPrefix o before after) (head_first m) (prefix_longer head (calls m) before after stop.sends)));
        }

    -- the head was written
    module _ (now : Ends) (headed : SendsAll head before now) (lines' : LinesState) (left' : Option (List ℕ)) (taken : List ℕ) (takes : Takes lines lines' left left' taken) (after : Ends) where
      abbrev m : Script
      m = script_at a.policy lines (taken ++ left_of left')

      abbrev reads : TakesAtMost (may_take lines) left left'
      reads = reads_within lines lines' left left' taken takes

      -- a fault stopped the script
      pub script_fails : (fault : Fault) → StopsIn a.policy All s m (script_at a.policy lines taken) fault now after → IsErrAnd r (λ q. q ≡ fault) → DoesWorld Play r a lines left left' before after
      script_fails fault stop is = record {
        wrote = left_stops (due_left Play a lines) r lines left left' reads before after fault
            (subst (λ (o : List Sent). StopsBy fault o before after) (order_is m) (stops_after fault head (calls m ++ tail m) before now after headed (stops_longer fault (calls m) (tail m) now after stop.stops))) is;
        by_line = λ play read. subst (λ (o : List Sent). Sends o before after) (calls_are (script_at a.policy lines taken)) (sends_more head (calls (script_at a.policy lines taken)) before now after headed.sends (stop.by_line (failed_read r fault is read)));
        besides = played_readable m before after (inr (subst (λ (o : List Sent). SendsPrefix o before after) (head_first m) (prefix_after head (calls m) before now after headed.sends stop.stops.sends)));
      }

      -- the script was played
      module _ (own : AreReadable a.policy 0 recs) (kept : Report) (s' : State) (p : Played) (played : Ends) (all : PlaysAll a.policy All kept s s' m left' p now played) where
        all_readable : SessionReadable a m before after
        all_readable = inl (all-append (IsReadable a.policy) (map (λ (x : Rec). (0, x)) (boot_recs a.world)) _
            (with_numbers a.policy 0 (boot_recs a.world) (subst (AreReadable a.policy 0) recs_are own))
            (subst (λ (x : State). AllByRecursion (IsReadable a.policy) (numbered_from 1 (run x m.items))) s_is (all.readable refl)))

        abbrev last : List Sent
        last = to_out (ends_text None a.policy s' ++ last_text p.count p.ending)

        written : (x : Result InputEnd Fault) → Writes x last played after → Writes x (order_by (Some a) m) before after
        written x w = in_order x _ _ before after (order_is m)
            (goes_on x head (calls m ++ tail m) before now after headed
            (goes_on x (calls m) (tail m) now played after all.sends
            (in_order x _ _ played after (end_is m kept s' left' p now played all) w)))

        -- a fault cut the end of the output off
        pub end_fails : (fault : Fault) → StopsBy fault last played after → (fault ≡ Read → ⊥) → IsErrAnd r (λ q. q ≡ fault) → DoesWorld Play r a lines left left' before after
        end_fails fault stop not_read is = record {
          wrote = left_stops (due_left Play a lines) r lines left left' reads before after fault (written (Err fault) stop) is;
          by_line = λ play read. absurd (not_read (failed_read r fault is read));
          besides = played_readable m before after all_readable;
        }

        -- all is written
        pub world_played : r ≡ Ok p.ending → SendsAll last played after → DoesWorld Play r a lines left left' before after
        world_played is sends = record {
          wrote = left_written (due_left Play a lines) r lines left left' reads before after p.ending is (written (Ok p.ending) sends) (ap ends_with all.ending) all.to_the_end;
          by_line = λ play read. let no : Ok p.ending ≡ Err Read = sym is ∙ read in absurd (cc);
          besides = played_readable m before after all_readable;
        }
