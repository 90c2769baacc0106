-- What a run of programs leaves: a schedule that is run on an accepted world, and an input without one.
use Rattle.std.proofs.Common.{◌≡◌, inl, inr, ℕ, ◌+◌, List, [], ◌∷◌, ◌++◌, length, map, refl, sym, ◌∙◌, ap, subst}
use Rattle.std.proofs.lemmas.List.{length-map}
use Rattle.std.proofs.lemmas.Result.{IfOk-weaker}
use Rattle.std.specs.Prelude.{Option, None, Result, Ok, Err, IsErrAnd, IfOk}
use Rattle.std.specs.List.{AllByRecursion, flat_map}
use Rattle.std.specs.Io.KnownBytes.{IsAtEnd}
use Rattle.io_ends.specs.LinesState.{LinesState}
use Rattle.io_ends.specs.Ends.{SinkView}
use Rattle.aud_record.specs.Written.{header_text, rec_text}
use Rattle.kern_model.specs.declared.records.Rec.{Rec}
use Rattle.kern_model.specs.Boot.{boot, boot_recs}
use Rattle.kern_model.specs.Run.{CallRecord}
use Rattle.kern_model.specs.State.{State}
use Rattle.lab_text.specs.Policy.{PolicyNames}
use Rattle.iso_laws.proofs.AllLemmas.{all-append}
use Rattle.lab_engine.specs.declared.ending.Fault.{Fault}
use Rattle.lab_engine.specs.declared.ending.Fault.TheVariants.{NoMemory}
use Rattle.lab_engine.specs.declared.ending.InputEnd.{InputEnd}
use Rattle.lab_engine.specs.declared.ending.InputEnd.TheVariants.{Whole}
use Rattle.lab_engine.specs.declared.reporting.Report.TheVariants.{All}
use Rattle.lab_engine.specs.Counts.{Counts, counts, counted_by}
use Rattle.lab_engine.specs.Input.{Accepted}
use Rattle.lab_engine.specs.Order.{Sent, call_order, order_before_end, session_order, to_out, to_trail}
use Rattle.lab_engine.specs.Playing.{Ends, ends, SendsAll, SendsPrefix, StopsBy, Writes}
use Rattle.lab_engine.specs.Readable.{AreReadable, IsReadable}
use Rattle.lab_engine.specs.Reading.{left_of}
use Rattle.lab_engine.specs.Report.{call_sends, sends_from}
use Rattle.lab_engine.specs.Session.{bytes_from, bytes_of, head_text, numbered_from, tail_text}
use Rattle.lab_engine.specs.Texts.{ends_text, last_text}
use Rattle.lab_engine.proofs.ReadableLemmas.{with_numbers}
use Rattle.lab_engine.proofs.Sending.{goes_on, in_order, passes_on, prefix_after, prefix_longer, prefix_nothing, stops_longer, out_of_memory}
use Rattle.sched_engine.specs.declared.reading.ReadSchedule.{ReadSchedule}
use Rattle.sched_engine.specs.declared.reading.ReadSchedule.TheVariants as read_is
use Rattle.sched_engine.specs.declared.schedule.Schedule.{Schedule}
use Rattle.sched_engine.specs.Reading.{IfSchedule, ReadsSchedule}
use Rattle.sched_engine.specs.Reporting.{AreItemsReadable, items_sends}
use Rattle.sched_progs.specs.Loop.{loop, loop_end}
use Rattle.sched_progs.specs.Turns.{LoopItem}
use Rattle.sched_progs.specs.Chosen.{record_of_item}
use Rattle.labsys.specs.declared.command.InputCommand.TheVariants.{Sched}
use Rattle.labsys.specs.Commands.{ends_with}
use Rattle.labsys.specs.Playing.{DoesWorld, due_left}
use Rattle.labsys.specs.Readable.{ProgramsReadable, RunReadable}
use Rattle.labsys.specs.Scheduling.{HasSchedule, NoSchedule, ProgramInput, ending_of_programs, loop_of, order_of_programs, session_by, with_schedule}
use Rattle.labsys.proofs.InputLemmas.{reads_within}
use Rattle.labsys.proofs.WorldLemmas.{reading_stops}
use Rattle.labsys.proofs.ProgramInputs.{left_not_whole}

-- ---- a schedule that is run on an accepted world

-- what is written of calls is the order of their bytes
all_sent : (policy : PolicyNames) (n : ℕ) (ps : List CallRecord) → sends_from All policy n ps ≡ flat_map call_order (bytes_from policy n ps)
unfolding sends_from call_sends bytes_from
all_sent policy n [] = refl
all_sent policy n (p ∷ ps) = ap (λ (o : List Sent). call_sends All policy n p ++ o) (all_sent policy (n + 1) ps)

module _ (a : Accepted) (s : Schedule) (recs : List Rec) (recs_are : recs ≡ boot_recs a.world) (k : State) (k_is : k ≡ boot a.world) where
  abbrev head : List Sent
  head = to_trail (header_text a.policy a.world.bound ++ flat_map (rec_text a.policy 0) recs)

  abbrev items : List LoopItem
  items = loop k s.programs s.slices s.rounds

  abbrev calls : List Sent
  calls = items_sends a.policy items

  abbrev tail : List Sent
  tail = to_out (tail_text (session_by a s))

  abbrev order : List Sent
  order = session_order (session_by a s)

  head_is : head ≡ to_trail (head_text (session_by a s))
  unfolding head_text
  head_is = ap (λ (rs : List Rec). to_trail (header_text a.policy a.world.bound ++ flat_map (rec_text a.policy 0) rs)) recs_are

  calls_are : calls ≡ flat_map call_order (bytes_of (session_by a s))
  calls_are = all_sent a.policy 1 (map record_of_item items) ∙ ap (λ (x : State). flat_map call_order (bytes_from a.policy 1 (map record_of_item (loop x s.programs s.slices s.rounds)))) k_is

  head_first : head ++ calls ≡ order_before_end (session_by a s)
  unfolding order_before_end
  head_first = λ i. head_is i ++ calls_are i

  order_is : head ++ (calls ++ tail) ≡ order
  unfolding session_order
  order_is = λ i. head_is i ++ (calls_are i ++ tail)

  -- the end of the output, after the last call
  end_is : (k' : State) (count : ℕ) → k' ≡ loop_end k s.programs s.slices s.rounds → count ≡ length items → to_out (ends_text None a.policy k' ++ last_text count Whole) ≡ tail
  unfolding tail_text
  end_is k' count state counted =
      let last : k' ≡ loop_end (boot a.world) s.programs s.slices s.rounds = state ∙ ap (λ (x : State). loop_end x s.programs s.slices s.rounds) k_is in
      let all : count ≡ length (map record_of_item (loop_of a s)) =
      counted ∙ ap (λ (x : State). length (loop x s.programs s.slices s.rounds)) k_is ∙ sym (length-map (loop_of a s) record_of_item) in
      λ i. to_out (ends_text None a.policy (last i) ++ last_text (all i) Whole)

  module _ {T : Type 0} (r : Result T Fault) (before : Ends) where
    -- a fault cut the head of the trail off
    pub head_cut : (fault : Fault) (after : Ends) → StopsBy fault head before after → IsErrAnd r (λ q. q ≡ fault) → Writes r order before after
    head_cut fault after stop is = passes_on r fault order before after (subst (λ (o : List Sent). StopsBy fault o before after) order_is (stops_longer fault head (calls ++ tail) before after stop)) is

    -- the head was written
    module _ (now : Ends) (headed : SendsAll head before now) where
      headed_by : (after : Ends) → Writes r (calls ++ tail) now after → Writes r order before after
      headed_by after w = in_order r _ _ before after order_is (goes_on r head (calls ++ tail) before now after headed w)

      pub memory_out : IsErrAnd r (λ q. q ≡ NoMemory) → Writes r order before now
      memory_out is = headed_by now (out_of_memory r (calls ++ tail) now is)

      pub calls_cut : (fault : Fault) (after : Ends) → StopsBy fault calls now after → IsErrAnd r (λ q. q ≡ fault) → Writes r order before after
      calls_cut fault after stop is = headed_by after (passes_on r fault (calls ++ tail) now after (stops_longer fault calls tail now after stop) is)

      -- the calls were reported
      pub calls_written : (played after : Ends) → SendsAll calls now played → (k' : State) (count : ℕ) → k' ≡ loop_end k s.programs s.slices s.rounds → count ≡ length items
          → Writes r (to_out (ends_text None a.policy k' ++ last_text count Whole)) played after → Writes r order before after
      calls_written played after all k' count state counted w =
          headed_by after (goes_on r calls tail now played after all (in_order r _ _ played after (end_is k' count state counted) w))

  -- ---- what is readable by then

  pub cut_in_head : (fault : Fault) (before after : Ends) → StopsBy fault head before after → RunReadable (session_by a s) before after
  cut_in_head fault before after stop = inr (subst (λ (o : List Sent). SendsPrefix o before after) head_first (prefix_longer head calls before after stop.sends))

  pub cut_in_calls : (before now after : Ends) → SendsAll head before now → SendsPrefix calls now after → RunReadable (session_by a s) before after
  cut_in_calls before now after headed some = inr (subst (λ (o : List Sent). SendsPrefix o before after) head_first (prefix_after head calls before now after headed.sends some))

  pub all_readable : (before after : Ends) → AreReadable a.policy 0 recs → AreItemsReadable a.policy items → RunReadable (session_by a s) before after
  all_readable before after own each = inl (all-append (IsReadable a.policy) (map (λ (x : Rec). (0, x)) (boot_recs a.world)) _
      (with_numbers a.policy 0 (boot_recs a.world) (subst (AreReadable a.policy 0) recs_are own))
      (subst (λ (x : State). AllByRecursion (IsReadable a.policy) (numbered_from 1 (map record_of_item (loop x s.programs s.slices s.rounds)))) k_is each))

-- ---- a world, and what was read of its schedule

-- the records of what was played of an input are readable, if it was played
abbrev ReadableBy : ProgramInput → Ends → Ends → Type 0
ReadableBy (HasSchedule a s) before after = RunReadable (session_by a s) before after
ReadableBy (NoSchedule ending) before after = Unit {0}

module _ (a : Accepted) (lines lines' : LinesState) (left left' : Option (List ℕ)) (r : Result InputEnd Fault) (n n' : ℕ) (o t : SinkView) where
  -- a fault stopped the reading
  pub reading_failed : (fault : Fault) → ReadsSchedule (Err fault) a.policy lines lines' left left' → counts n' o.faults t.faults ≡ counted_by fault (counts n o.faults t.faults) → IsErrAnd r (λ q. q ≡ fault)
      → DoesWorld Sched r a lines left left' (ends n o t) (ends n' o t)
  reading_failed fault read once is = record {
    wrote = reading_stops (due_left Sched a lines) r lines left left' (reads_within lines lines' left left' read.taken read.takes) n n' o t fault once is;
    by_line = λ play. absurd (cc);
    besides = λ b s same. inr (prefix_nothing _ n n' o t);
  }

  module _ (still : (u v : ℕ) → counts n' u v ≡ counts n u v) (found : ReadSchedule) (read : ReadsSchedule (Ok found) a.policy lines lines' left left') (after : Ends) where
    source_is : n' ≡ n
    source_is = ap (λ (c : Counts). c.source) (still 0 0)

    -- what was found is the schedule at the reader
    by_found : (x : ReadSchedule) → found ≡ x → Writes r (order_of_programs (with_schedule a x)) (ends n' o t) after → IfOk r (λ e. e ≡ ending_of_programs (with_schedule a x)) → IfOk r (λ e. e ≡ Whole → IsAtEnd left')
        → ProgramsReadable (with_schedule a x) (ends n' o t) after → DoesWorld Sched r a lines left left' (ends n o t) after
    by_found x is writes ending to_the_end readable =
        let same = sym is ∙ read.shows in
        record {
          wrote = record {
            reads = reads_within lines lines' left left' read.taken read.takes;
            writes = subst (λ (y : ReadSchedule). Writes r (order_of_programs (with_schedule a y)) (ends n o t) after) same
                (subst (λ m. Writes r (order_of_programs (with_schedule a x)) (ends m o t) after) source_is writes);
            status = subst (λ (y : ReadSchedule). IfOk r (λ e. ends_with e ≡ ends_with (ending_of_programs (with_schedule a y)))) same (IfOk-weaker r _ _ (λ e k. ap ends_with k) ending);
            to_the_end = to_the_end;
          };
          by_line = λ play. absurd (cc);
          besides = subst (λ (y : ReadSchedule). ProgramsReadable (with_schedule a y) (ends n o t) after) same
              (subst (λ m. ProgramsReadable (with_schedule a x) (ends m o t) after) source_is readable);
        }

    -- a schedule, which was run
    pub schedule_run : (s : Schedule) → found ≡ read_is.Schedule s → Writes r (session_order (session_by a s)) (ends n' o t) after → IfOk r (λ e. e ≡ Whole) → RunReadable (session_by a s) (ends n' o t) after
        → DoesWorld Sched r a lines left left' (ends n o t) after
    schedule_run s is writes whole readable =
        let scheduled_readable : (b : Accepted) (q : Schedule) → HasSchedule a s ≡ HasSchedule b q → RunReadable (session_by b q) (ends n' o t) after =
        λ b q same. subst (λ (i : ProgramInput). ReadableBy i (ends n' o t) after) same readable in
        let whole_read = subst (λ (x : ReadSchedule). IfSchedule x (λ _. IsAtEnd left')) is read.to_the_end in
        by_found (read_is.Schedule s) is writes whole (IfOk-weaker r _ _ (λ e same all. whole_read) whole) scheduled_readable

    -- none: the input ends without one
    pub without_schedule : (ending : InputEnd) → found ≡ read_is.Ended ending → Writes r (to_out (last_text 0 ending)) (ends n' o t) after → IfOk r (λ e. e ≡ ending) → DoesWorld Sched r a lines left left' (ends n o t) after
    without_schedule ending is writes ended =
        let none : ending ≡ Whole → ⊥ = λ all. left_not_whole a.policy lines (read.taken ++ left_of left') ending (sym is ∙ read.shows) all in
        by_found (read_is.Ended ending) is writes ended (IfOk-weaker r _ _ (λ e same whole. absurd (none (sym same ∙ whole))) ended) (λ b q same. absurd (cc))
