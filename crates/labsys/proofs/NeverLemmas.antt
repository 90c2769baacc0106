-- What is written of what no script can do in a world, and that it holds whatever script follows the world.
use Rattle.std.proofs.Common.{◌≡◌, ℕ, not, Bool, true, false, List, ◌++◌, refl, sym, ◌∙◌, ap, subst}
use Rattle.std.specs.Prelude.{Option, Some, Result, Ok, IsErrAnd}
use Rattle.std.specs.FinMap as map
use Rattle.std.proofs.lemmas.Bool.{and_parts}
use Rattle.io_ends.specs.LinesState.{LinesState, may_take}
use Rattle.io_ends.specs.Ends.{SinkView}
use Rattle.cap_bits.specs.declared.cap.Cap.{Cap}
use Rattle.cap_bits.specs.CapSet.{all_of_caps, has}
use Rattle.cap_bits.proofs.CapSets.{has-minus_of}
use Rattle.kern_model.specs.declared.world.World.{World}
use Rattle.kern_model.specs.declared.numbers.Pid.{Pid}
use Rattle.kern_model.specs.Boot.{boot}
use Rattle.kern_model.specs.State.{State}
use Rattle.lab_lattice.specs.Label.{Label}
use Rattle.lab_text.specs.Policy.{PolicyNames}
use Rattle.iso_laws.specs.Unnamed.{IsUnnamed}
use Rattle.ever_caps.specs.Ever.{ever}
use Rattle.ever_caps.specs.Uncrossed.{is_uncrossed}
use Rattle.ever_caps.proofs.Crossings.{run_inside}
use Rattle.ever_caps.proofs.EverRuns.{never_exercised}
use Rattle.ever_caps.proofs.UncrossedRuns.{uncrossed_inside}
use Rattle.lab_engine.specs.declared.ending.Fault.{Fault}
use Rattle.lab_engine.specs.declared.ending.InputEnd.{InputEnd}
use Rattle.lab_engine.specs.declared.ending.InputEnd.TheVariants.{Whole}
use Rattle.lab_engine.specs.declared.playing.Played.{Played}
use Rattle.lab_engine.specs.Checking.{Counted}
use Rattle.lab_engine.specs.Counts.{counts, counted_by}
use Rattle.lab_engine.specs.Input.{Accepted, Script, input_of}
use Rattle.lab_engine.specs.Order.{Sent, order_by, out_of, to_out, trail_of}
use Rattle.lab_engine.specs.Playing.{Ends, SendsAll, StopsBy, ends}
use Rattle.lab_engine.specs.Reading.{Takes, left_of, script_at}
use Rattle.lab_engine.specs.Session.{numbered_recs, session_of}
use Rattle.lab_engine.specs.Texts.{last_text}
use Rattle.lab_engine.proofs.Sending.{out_of-to_out, to_out-append}
use Rattle.lab_engine.proofs.ViewLemmas.{view_alone}
use Rattle.labsys.specs.declared.command.Command.TheVariants.{OnInput}
use Rattle.labsys.specs.declared.command.InputCommand.TheVariants.{Never, Play}
use Rattle.labsys.specs.declared.status.Status.{Status}
use Rattle.labsys.specs.Clauses.{TakesAtMost, reports, status_of, trail_with}
use Rattle.labsys.specs.Commands.{due, ends_with}
use Rattle.labsys.specs.Never.{count_labels, givers_text, holders_text, labels_text, lines_by, never_text, said_text, text_of_never, unexercised, unexercised_text}
use Rattle.labsys.specs.Playing.{CommandDid, DoesWorld, WritesLeft, due_left}
use Rattle.labsys.specs.Promises.{HoldsOf, SaysNever}
use Rattle.labsys.proofs.AcceptedLemmas.{accepted_input}
use Rattle.labsys.proofs.ClauseLemmas.{done_wrote, ends_whole, reported_gives, viewed}
use Rattle.labsys.proofs.Coverage.{session_trail}
use Rattle.labsys.proofs.InputLemmas.{reads_within}
use Rattle.labsys.proofs.Printing.{all_numbered, trail_reported}
use Rattle.labsys.proofs.WorldLemmas.{reading_stops, text_stops, text_written}

-- ---- parts of the text

pub three_parts : (a b c : List ℕ) → to_out a ++ (to_out b ++ to_out c) ≡ to_out (a ++ (b ++ c))
three_parts a b c = ap (λ (order : List Sent). to_out a ++ order) (sym (to_out-append b c)) ∙ sym (to_out-append a (b ++ c))

-- what was written by another test, a state and numbers that are the same
pub lines_are : (policy : PolicyNames) (w : World) (test : Label → Bool) → ((l : Label) → test l ≡ is_uncrossed l w) → (s : State) → s ≡ boot w → (numbers : List Pid) → numbers ≡ map.keys s.procs
    → to_out (unexercised_text (unexercised w) ++ (holders_text policy s numbers ++ givers_text w))
    ++ to_out (labels_text test policy true numbers ++ (labels_text test policy false numbers ++ last_text (count_labels test true numbers) Whole))
    ≡ to_out (lines_by (λ l. is_uncrossed l w) policy w (map.keys (boot w).procs))
lines_are policy w test same s state numbers listed =
    let all : numbers ≡ map.keys (boot w).procs = listed ∙ ap (λ (x : State). map.keys x.procs) state in
    sym (to_out-append _ _)
    ∙ (λ i. to_out ((unexercised_text (unexercised w) ++ (holders_text policy (state i) (all i) ++ givers_text w))
    ++ (labels_text (λ l. same l i) policy true (all i) ++ (labels_text (λ l. same l i) policy false (all i) ++ last_text (count_labels (λ l. same l i) true (all i)) Whole))))

-- ---- an accepted world

module _ (a : Accepted) (r : Result InputEnd Fault) (lines lines' : LinesState) (left left' : Option (List ℕ)) (taken : List ℕ) (takes : Takes lines lines' left left' taken) (n n' : ℕ) (o t : SinkView) where
  abbrev m : Script
  m = script_at a.policy lines (taken ++ left_of left')

  abbrev reads : TakesAtMost (may_take lines) left left'
  reads = reads_within lines lines' left left' taken takes

  never_did : (o' : SinkView) → WritesLeft (due_left Never a lines) r lines left left' (ends n o t) (ends n' o' t) → DoesWorld Never r a lines left left' (ends n o t) (ends n' o' t)
  never_did o' wrote = record { wrote = wrote; by_line = λ play. absurd (cc); besides = tt }

  -- the script was not read to its end
  pub never_fails : (fault : Fault) → counts n' o.faults t.faults ≡ counted_by fault (counts n o.faults t.faults) → IsErrAnd r (λ q. q ≡ fault) → DoesWorld Never r a lines left left' (ends n o t) (ends n' o t)
  never_fails fault once is = never_did o (reading_stops (due_left Never a lines) r lines left left' reads n n' o t fault once is)

  module _ (still : (u v : ℕ) → counts n' u v ≡ counts n u v) (p : Played) (all : Counted m left' p) (o' : SinkView) where
    -- what is said is what is due
    said_is : to_out (said_text a p.ending) ≡ to_out (text_of_never (Some a) m)
    said_is = ap (λ e. to_out (said_text a e)) all.ending

    -- it was not written
    pub said_fails : (fault : Fault) → StopsBy fault (to_out (said_text a p.ending)) (ends n' o t) (ends n' o' t) → IsErrAnd r (λ q. q ≡ fault) → DoesWorld Never r a lines left left' (ends n o t) (ends n' o' t)
    said_fails fault stop is = never_did o' (text_stops (due_left Never a lines) r lines left left' reads n n' o t still _ said_is o' fault stop is)

    -- it was written
    pub said_written : r ≡ Ok p.ending → SendsAll (to_out (said_text a p.ending)) (ends n' o t) (ends n' o' t) → DoesWorld Never r a lines left left' (ends n o t) (ends n' o' t)
    said_written is sends = never_did o' (text_written (due_left Never a lines) r lines left left' reads n n' o t still _ said_is o' p.ending is sends (ap ends_with all.ending) all.to_the_end)

-- ---- whatever script follows it

only_false : (b : Bool) → not b ≡ true → b ≡ false
only_false true is = absurd (cc)
only_false false is = refl

not_ever : (w : World) (c : Cap) → has (unexercised w) c ≡ true → has (ever w) c ≡ false
not_ever w c is = only_false (has (ever w) c) (and_parts (has all_of_caps c) (not (has (ever w) c)) (sym (has-minus_of all_of_caps (ever w) c) ∙ is)).1

-- the trail that is due of `play`
trail_due : (text : List ℕ) (a : Accepted) → (input_of text).accepted ≡ Some a
    → trail_of (due (OnInput Play) text).order ≡ trail_with (session_of a (input_of text).script) (numbered_recs (session_of a (input_of text).script))
unfolding order_by
trail_due text a is =
    ap (λ (w : Option Accepted). trail_of (order_by w (input_of text).script)) is
    ∙ session_trail (session_of a (input_of text).script)
    ∙ trail_reported (session_of a (input_of text).script)

holds_of : (a : Accepted) (other : List ℕ) → (input_of other).accepted ≡ Some a → HoldsOf a other (input_of other).script
holds_of a other same =
    let m : Script = (input_of other).script in
    let fits = accepted_input other a same in
    record {
      trail = trail_due other a same;
      unexercised = λ c is. subst (IsUnnamed c) (sym (all_numbered a m)) (never_exercised c a.world m.items (not_ever a.world c is));
      uncrossed = λ l is. run_inside l a.world m.items (uncrossed_inside l a.world m.items is);
      viewed = λ l word is named. viewed word other l a same named
          ∙ view_alone l a m fits.world fits.script (run_inside l a.world m.items (uncrossed_inside l a.world m.items is));
    }

-- what was written of an accepted world whose script is whole
said : (text : List ℕ) (a : Accepted) → (input_of text).accepted ≡ Some a → (input_of text).script.ending ≡ Whole → out_of (due (OnInput Never) text).order ≡ never_text a
said text a is whole =
    ap (λ (w : Option Accepted). out_of (to_out (text_of_never w (input_of text).script))) is
    ∙ ap (λ e. out_of (to_out (said_text a e))) whole
    ∙ out_of-to_out (never_text a)

-- all that `never` promises
pub run_never : (r : Result InputEnd Fault) (l l' : Option (List ℕ)) (entry exit : Ends) → CommandDid (OnInput Never) r l l' entry exit → (s : Status) → s ≡ status_of r
    → SaysNever s (reports l entry.out.held entry.trail.held) (reports l' exit.out.held exit.trail.held)
run_never r l l' entry exit x s is = record {
  for_all = λ done. reported_gives _ _ _ _ (λ text out trail w a accepted.
      (w.0 ∙ said text a accepted (ends_whole (input_of text).script.ending w.1.0), holds_of a)) (done_wrote (OnInput Never) r l l' entry exit x s is done);
}
