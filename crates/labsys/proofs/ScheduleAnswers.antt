-- The clause of `sched`, from what a run did.
use Rattle.std.proofs.Common.{◌≡◌, ℕ, ◌≤◌, List, ◌++◌, length, refl, sym, ◌∙◌, ap, subst}
use Rattle.std.specs.Prelude.{Option, Some, Result}
use Rattle.lab_lattice.specs.Label.{Label}
use Rattle.kern_model.specs.declared.limits.TheConstants.{MAX_INPUT}
use Rattle.kern_model.specs.Prefixes.{IsPrefix}
use Rattle.lab_engine.specs.declared.ending.Fault.{Fault}
use Rattle.lab_engine.specs.declared.ending.InputEnd.{InputEnd}
use Rattle.lab_engine.specs.Input.{Accepted}
use Rattle.lab_engine.specs.Order.{IsInOrder, Sent, out_of, session_order, trail_of}
use Rattle.lab_engine.specs.Playing.{Ends}
use Rattle.lab_engine.specs.Reading.{left_of}
use Rattle.lab_engine.specs.Session.{Session, bytes_of, numbered_recs, replies_of, session_of, tail_text}
use Rattle.sched_engine.specs.declared.schedule.Schedule.{Schedule}
use Rattle.labsys.specs.declared.command.Command.TheVariants.{OnInput}
use Rattle.labsys.specs.declared.command.InputCommand.TheVariants.{Sched}
use Rattle.labsys.specs.declared.status.Status.{Status}
use Rattle.labsys.specs.Clauses.{OnWhole, Reports, WhereReported, Covered, RepliesFirst, Printed, Dropped, reports, status_of}
use Rattle.labsys.specs.Commands.{due}
use Rattle.labsys.specs.Lineage.{AnsweredYes, IsTrailOf, PrintedByAny}
use Rattle.labsys.specs.Playing.{CommandDid}
use Rattle.labsys.specs.Readable.{ProgramsReadable, RunReadable}
use Rattle.labsys.specs.Scheduling.{HasSchedule, ProgramInput, chosen, order_of_programs, programs_of, session_by}
use Rattle.labsys.specs.ScheduleClauses.{LoopIsolated, LoopIsolatedWhole, OnScheduled, OnTwoScheduled, SameProgramsBelow, Schedules, TwoLoops, TwoLoopsWhole, WhereScheduled}
use Rattle.lab_engine.proofs.Sending.{prefix_of}
use Rattle.labsys.proofs.AnsweredLemmas.{answered_yes, goes_on}
use Rattle.labsys.proofs.ChosenLemmas.{session_is}
use Rattle.labsys.proofs.ClauseLemmas.{moved, reported_both, reported_gives, run_all, session_dropped, session_printed, session_written, where_sent, whole_gives}
use Rattle.labsys.proofs.Coverage.{covered, replies_first, session_out}
use Rattle.labsys.proofs.InputLemmas.{text_left}
use Rattle.labsys.proofs.LineageLemmas.{printed_by_any}
use Rattle.labsys.proofs.LoopIsolating.{loop_isolated, loop_isolated_whole, two_loops, two_loops_whole}
use Rattle.labsys.proofs.ProgramInputs.{accepted_programs}
use Rattle.labsys.proofs.ReadableLemmas.{readable_by_then}

-- ---- what was played of a schedule

module _ (a : Accepted) (s : Schedule) where
  -- what holds of the script that the programs choose holds of what was played of them
  of_chosen : (P : Session → Type 0) → P (session_of a (chosen a s)) → P (session_by a s)
  of_chosen P p = subst P (session_is a s) p

  module _ (sent rest : List Sent) (e : session_order (session_by a s) ≡ sent ++ rest) where
    chosen_order : session_order (session_of a (chosen a s)) ≡ sent ++ rest
    chosen_order = ap session_order (session_is a s) ∙ e

    schedule_printed : Printed (session_by a s) (out_of sent) (trail_of sent)
    schedule_printed = of_chosen (λ x. Printed x (out_of sent) (trail_of sent)) (session_printed a (chosen a s) sent rest chosen_order)

    schedule_dropped : Dropped (session_by a s) (trail_of sent)
    schedule_dropped = of_chosen (λ x. Dropped x (trail_of sent)) (session_dropped a (chosen a s) sent rest chosen_order)

-- the order of an input of programs
by_schedule : (text : List ℕ) (a : Accepted) (s : Schedule) (sent rest : List Sent) → programs_of text ≡ HasSchedule a s → order_of_programs (programs_of text) ≡ sent ++ rest → session_order (session_by a s) ≡ sent ++ rest
by_schedule text a s sent rest is e = sym (ap order_of_programs is) ∙ e

-- a whole output is all replies and the end
out_of_all : (text : List ℕ) (a : Accepted) (s : Schedule) (out : List ℕ) → programs_of text ≡ HasSchedule a s → out ≡ out_of (order_of_programs (programs_of text)) → out ≡ replies_of (bytes_of (session_by a s)) ++ tail_text (session_by a s)
out_of_all text a s out is all = all ∙ ap (λ (i : ProgramInput). out_of (order_of_programs i)) is ∙ session_out (session_by a s)

-- it begins with all replies
all_replies : (text : List ℕ) (a : Accepted) (s : Schedule) (out : List ℕ) → programs_of text ≡ HasSchedule a s → out ≡ out_of (order_of_programs (programs_of text)) → IsPrefix (replies_of (bytes_of (session_by a s))) out
all_replies text a s out is all = record { rest = tail_text (session_by a s); whole_is = out_of_all text a s out is all }

-- ---- a run

module _ (r : Result InputEnd Fault) (l l' : Option (List ℕ)) (entry exit : Ends) (x : CommandDid (OnInput Sched) r l l' entry exit) where
  abbrev before_run : Reports
  before_run = reports l entry.out.held entry.trail.held

  abbrev after_run : Reports
  after_run = reports l' exit.out.held exit.trail.held

  -- what holds of each prefix of the order of a schedule holds of what was sent
  where_run : (P : List ℕ → Accepted → Schedule → List ℕ → List ℕ → Type 0)
      → ((text : List ℕ) (a : Accepted) (s : Schedule) (sent rest : List Sent) → programs_of text ≡ HasSchedule a s → session_order (session_by a s) ≡ sent ++ rest → P text a s (out_of sent) (trail_of sent))
      → WhereReported before_run after_run (λ text out trail. WhereScheduled text (λ a s. P text a s out trail))
  where_run P f = where_sent (OnInput Sched) r l l' entry exit x _ (λ text sent rest e a s is. f text a s sent rest is (by_schedule text a s sent rest is e))

  -- what was played is readable
  readable : (text : List ℕ) → l ≡ Some text → ProgramsReadable (programs_of text) entry exit
  readable text el = subst (λ (z : List ℕ). ProgramsReadable (programs_of z) entry exit) (sym (text_left l l' x.taken text el x.took)) x.besides

  schedules_printed_by_any : OnScheduled before_run after_run (λ a s out trail. PrintedByAny (session_by a s) out trail)
  schedules_printed_by_any text before above el eo et =
      let p = prefix_of r (order_of_programs (programs_of (x.taken ++ left_of l'))) entry exit x.writes in
      moved l l' entry exit x.taken x.took p.sent p.sends (λ text out trail. WhereScheduled text (λ a s. PrintedByAny (session_by a s) out trail)) text before above el eo et
      (λ a s is.
      let order : session_order (session_by a s) ≡ p.sent ++ p.rest = by_schedule text a s p.sent p.rest is (ap (λ (z : List ℕ). order_of_programs (programs_of z)) (text_left l l' x.taken text el x.took) ∙ p.prefix) in
      let chosen_is : session_order (session_of a (chosen a s)) ≡ p.sent ++ p.rest = chosen_order a s p.sent p.rest order in
      of_chosen a s (λ y. PrintedByAny y (out_of p.sent) (trail_of p.sent))
      (printed_by_any a (chosen a s) (accepted_programs text a s is).playable (out_of p.sent) (trail_of p.sent)
      (readable_by_then (session_of a (chosen a s)) entry exit p.sent before (subst (λ y. RunReadable y entry exit) (sym (session_is a s)) (readable text el a s is)) eo p.sends)
      (session_printed a (chosen a s) p.sent p.rest chosen_is) (session_dropped a (chosen a s) p.sent p.rest chosen_is)))

  schedules_two_inputs : (k : Label) (other : List ℕ) → OnTwoScheduled k other before_run after_run (λ a s b t out. TwoLoops k a s b t out)
  schedules_two_inputs k other = where_run (λ text a s out trail. WhereScheduled other (λ b t. SameProgramsBelow k a s b t → TwoLoops k a s b t out)) (λ text a s sent rest is e b t is' same.
      two_loops k a s (accepted_programs text a s is) b t (accepted_programs other b t is') same (out_of sent) (session_written (session_by a s) sent rest e))

  -- both sinks got all that is due of `sched`
  abbrev WholeSent : Type 0
  WholeSent = WhereReported before_run after_run (λ text out trail. (out ≡ out_of (due (OnInput Sched) text).order) × (trail ≡ trail_of (due (OnInput Sched) text).order))

  module _ (status : Status) (is : status ≡ status_of r) where
    schedules_isolated_whole : (k : Label) → OnWhole status (OnScheduled before_run after_run (λ a s out trail. LoopIsolatedWhole k a s out))
    schedules_isolated_whole k = whole_gives status _ _ (reported_gives before_run after_run _ _ (λ text out trail w a s found.
        loop_isolated_whole k a s (accepted_programs text a s found) out (all_replies text a s out found w.0))) (run_all (OnInput Sched) r l l' entry exit x status is)

    schedules_two_whole : (k : Label) (other : List ℕ) → OnWhole status (OnTwoScheduled k other before_run after_run (λ a s b t out. TwoLoopsWhole k a s b t out))
    schedules_two_whole k other = whole_gives status _ _ (reported_gives before_run after_run _ _ (λ text out trail w a s found b t found' same.
        two_loops_whole k a s (accepted_programs text a s found) b t (accepted_programs other b t found') same out (all_replies text a s out found w.0))) (run_all (OnInput Sched) r l l' entry exit x status is)

    -- what `lineage` has to write of the trail
    schedules_answered_yes : OnWhole status (OnScheduled before_run after_run (λ a s out trail. length trail ≤ MAX_INPUT → AnsweredYes (session_by a s) trail))
    schedules_answered_yes =
        whole_gives status WholeSent _ (λ all. reported_gives before_run after_run _ _ answered (reported_both before_run after_run _ _ all schedules_printed_by_any)) (run_all (OnInput Sched) r l l' entry exit x status is)
      where
        answered : (text out trail : List ℕ) → ((out ≡ out_of (due (OnInput Sched) text).order) × (trail ≡ trail_of (due (OnInput Sched) text).order)) × WhereScheduled text (λ a s. PrintedByAny (session_by a s) out trail)
            → WhereScheduled text (λ a s. length trail ≤ MAX_INPUT → AnsweredYes (session_by a s) trail)
        answered text out trail both a s found =
            let own : IsTrailOf (session_by a s) (numbered_recs (session_by a s)) trail = (both.1 a s found).own (goes_on (session_by a s) out (out_of_all text a s out found both.0.0)) in
            of_chosen a s (λ (y : Session). length trail ≤ MAX_INPUT → AnsweredYes y trail)
            (answered_yes a (chosen a s) (accepted_programs text a s found).playable trail (subst (λ (y : Session). IsTrailOf y (numbered_recs y) trail) (sym (session_is a s)) own))

    -- all that `sched` promises
    pub run_schedules : Schedules status before_run after_run
    run_schedules = record {
      covered = where_run (λ text a s out trail. Covered (session_by a s) out trail) (λ text a s sent rest found e. covered (session_by a s) sent rest e);
      replies_first = where_run (λ text a s out trail. RepliesFirst (session_by a s) out trail) (λ text a s sent rest found e. replies_first (session_by a s) sent rest e);
      as_played = where_run (λ text a s out trail. IsInOrder (session_order (session_of a (chosen a s))) out trail)
          (λ text a s sent rest found e. record { sent = sent; rest = rest; order_is = chosen_order a s sent rest e; out_is = refl; trail_is = refl });
      isolated = λ k. where_run (λ text a s out trail. LoopIsolated k a s out) (λ text a s sent rest found e. loop_isolated k a s (accepted_programs text a s found) (out_of sent) (session_written (session_by a s) sent rest e));
      isolated_whole = schedules_isolated_whole;
      two_inputs = schedules_two_inputs;
      two_whole = schedules_two_whole;
      printed = where_run (λ text a s out trail. Printed (session_by a s) out trail) (λ text a s sent rest found e. schedule_printed a s sent rest e);
      printed_by_any = schedules_printed_by_any;
      dropped = where_run (λ text a s out trail. Dropped (session_by a s) trail) (λ text a s sent rest found e. schedule_dropped a s sent rest e);
      answered_yes = schedules_answered_yes;
    }
