-- What a command did with an accepted world, and that it is what is due of the whole input.
use Rattle.std.proofs.Common.{◌≡◌, ℕ, List, [], ◌++◌, sym, ◌∙◌, ap, subst, append_assoc, arith}
use Rattle.std.proofs.KnownBytes.{Appends-nil, Consumes-trans}
use Rattle.std.proofs.lemmas.List.{length-append}
use Rattle.std.proofs.lemmas.Result.{IfOk-weaker}
use Rattle.std.specs.Prelude.{Option, None, Some, Result, Ok, Err, IsErrAnd, IfOk}
use Rattle.std.specs.Io.KnownBytes.{IsAtEnd}
use Rattle.io_ends.specs.LinesState.{LinesState, may_take}
use Rattle.io_ends.specs.Ends.{SinkView}
use Rattle.lab_engine.specs.declared.ending.Fault.{Fault}
use Rattle.lab_engine.specs.declared.ending.Fault.TheVariants.{Read, NoMemory}
use Rattle.lab_engine.specs.declared.ending.InputEnd.{InputEnd}
use Rattle.lab_engine.specs.declared.ending.InputEnd.TheVariants.{Whole as AllRead}
use Rattle.lab_engine.specs.declared.opening.Opened.{Opened}
use Rattle.lab_engine.specs.declared.opening.Opened.TheVariants as opened
use Rattle.lab_engine.specs.declared.opening.OpenedWorld.{OpenedWorld}
use Rattle.lab_engine.specs.Counts.{Counts, counts, counted_by}
use Rattle.lab_engine.specs.Input.{Accepted, Input, input_in, input_of}
use Rattle.lab_engine.specs.Opening.{OpensInput}
use Rattle.lab_engine.specs.Order.{Sent, calls_by, order_of_calls, out_of, to_out, trail_of}
use Rattle.lab_engine.specs.Playing.{Ends, ends, Sends, SendsAll, StopsBy, Writes}
use Rattle.lab_engine.specs.Reading.{left_of, script_at}
use Rattle.lab_engine.specs.Texts.{last_text}
use Rattle.lab_engine.proofs.Sending.{in_order, not_a_read, passes_on, prefix_nothing}
use Rattle.world_text.specs.declared.format.Format.{Format}
use Rattle.labsys.specs.declared.command.Command.TheVariants.{OnInput}
use Rattle.labsys.specs.declared.command.InputCommand.{InputCommand}
use Rattle.labsys.specs.declared.command.InputCommand.TheVariants.{Play}
use Rattle.labsys.specs.Clauses.{TakesAtMost}
use Rattle.labsys.specs.Commands.{due, Calls, Due, due_of, due_with, ends_with, kind_of, read_left}
use Rattle.labsys.specs.Playing.{Besides, BesidesOf, CommandDid, DoesWorld, IsOpened, WritesLeft, due_left, format_of}
use Rattle.labsys.proofs.AcceptedLemmas.{accepted_in}
use Rattle.labsys.proofs.InputLemmas.{ended_input, failed_ending, failed_read, no_calls, opened_input}
use Rattle.labsys.proofs.CommandRows.{besides_failed, besides_none, due_without_world}

-- memory is no read
pub memory_not_read : (r : Result InputEnd Fault) → IsErrAnd r (λ q. q ≡ NoMemory) → r ≡ Err Read → ⊥
memory_not_read r is read = let same : NoMemory ≡ Read = failed_read r NoMemory is read in absurd (cc)

nothing_sent : (n n' : ℕ) (o t : SinkView) → Sends [] (ends n o t) (ends n' o t)
unfolding out_of trail_of
nothing_sent n n' o t = record { to_out = Appends-nil o.held; to_trail = Appends-nil t.held }

-- ---- what is due of what is left at a reader
module _ (due_of : List ℕ → Due) (r : Result InputEnd Fault) (lines : LinesState) (left left' : Option (List ℕ)) (reads : TakesAtMost (may_take lines) left left') where
  abbrev pub all_left : Due
  all_left = due_of (reads.taken ++ left_of left')

  -- a fault stopped it
  abbrev pub left_stops : (before after : Ends) (fault : Fault) → StopsBy fault all_left.order before after → IsErrAnd r (λ q. q ≡ fault) → WritesLeft due_of r lines left left' before after
  left_stops before after fault stop is = record {
    reads = reads;
    writes = passes_on r fault all_left.order before after stop is;
    status = failed_ending r fault is _;
    to_the_end = failed_ending r fault is _;
  }

  -- all of it was written
  abbrev pub left_written : (before after : Ends) (e : InputEnd) → r ≡ Ok e → SendsAll all_left.order before after → ends_with e ≡ all_left.status → (e ≡ AllRead → IsAtEnd left') → WritesLeft due_of r lines left left' before after
  left_written before after e is sends status end = record {
    reads = reads;
    writes = subst (λ (x : Result InputEnd Fault). Writes x all_left.order before after) (sym is) sends;
    status = subst (λ (x : Result InputEnd Fault). IfOk x (λ q. ends_with q ≡ all_left.status)) (sym is) status;
    to_the_end = subst (λ (x : Result InputEnd Fault). IfOk x (λ q. q ≡ AllRead → IsAtEnd left')) (sym is) end;
  }

  -- ---- nothing is written before all of it was read
  module _ (n n' : ℕ) (o t : SinkView) where
    -- it was not read to its end
    abbrev pub reading_stops : (fault : Fault) → counts n' o.faults t.faults ≡ counted_by fault (counts n o.faults t.faults) → IsErrAnd r (λ q. q ≡ fault) → WritesLeft due_of r lines left left' (ends n o t) (ends n' o t)
    reading_stops fault once is = left_stops (ends n o t) (ends n' o t) fault (record { sends = prefix_nothing _ n n' o t; one_fault = once }) is

    module _ (still : (u v : ℕ) → counts n' u v ≡ counts n u v) where
      -- what was written after that
      pub read_before : (P : Ends → Type 0) → P (ends n' o t) → P (ends n o t)
      read_before P p = subst (λ k. P (ends k o t)) (ap (λ (c : Counts). c.source) (still 0 0)) p

      module _ (bytes : List ℕ) (is_due : to_out bytes ≡ all_left.order) (o' : SinkView) where
        abbrev pub text_stops : (fault : Fault) → StopsBy fault (to_out bytes) (ends n' o t) (ends n' o' t) → IsErrAnd r (λ q. q ≡ fault) → WritesLeft due_of r lines left left' (ends n o t) (ends n' o' t)
        text_stops fault stop is = left_stops (ends n o t) (ends n' o' t) fault
            (subst (λ (x : List Sent). StopsBy fault x (ends n o t) (ends n' o' t)) is_due (read_before (λ (e : Ends). StopsBy fault (to_out bytes) e (ends n' o' t)) stop)) is

        abbrev pub text_written : (e : InputEnd) → r ≡ Ok e → SendsAll (to_out bytes) (ends n' o t) (ends n' o' t) → ends_with e ≡ all_left.status → (e ≡ AllRead → IsAtEnd left') → WritesLeft due_of r lines left left' (ends n o t) (ends n' o' t)
        text_written e is sends = left_written (ends n o t) (ends n' o' t) e is
            (subst (λ (x : List Sent). SendsAll x (ends n o t) (ends n' o' t)) is_due (read_before (λ (e : Ends). SendsAll (to_out bytes) e (ends n' o' t)) sends))

-- ---- an input that was opened

module _ {format : Format} (x : Opened) (left between : Option (List ℕ)) (opens : OpensInput format (Ok x) left between) (w : OpenedWorld) (is : x ≡ opened.World w) where
  abbrev begun : OpensInput format (Ok (opened.World w)) left between
  begun = subst (λ k. OpensInput format (Ok k) left between) is opens

  -- its world is one, and its reader may go on
  pub is_opened : IsOpened w
  is_opened =
      let fits = accepted_in format (begun.taken ++ []) w.read (ap (λ (i : Input). i.accepted) (begun.shows.says [])) in
      record { world = fits.world; top = fits.top; more = begun.shows.more; small = begun.shows.small }

pub some_same : (v a : Accepted) → Some v ≡ Some a → v ≡ a
some_same v a e = cc

-- ---- what a command did with an input

own_command : (c d : InputCommand) → OnInput c ≡ OnInput d → c ≡ d
own_command c d same = cc

module _ (c : InputCommand) (format : Format) (same : format ≡ format_of c) where
  -- memory ran out, or a read failed, before a world was read
  pub open_fails : (r : Result InputEnd Fault) (fault : Fault) (left left' : Option (List ℕ)) → OpensInput format (Err fault) left left' → (n n' : ℕ) (o t : SinkView)
      → counts n' o.faults t.faults ≡ counted_by fault (counts n o.faults t.faults) → IsErrAnd r (λ q. q ≡ fault) → CommandDid (OnInput c) r left left' (ends n o t) (ends n' o t)
  open_fails r fault left left' opens n n' o t once is = record {
    taken = opens.taken;
    took = opens.took;
    few = opens.few;
    writes = passes_on r fault _ (ends n o t) (ends n' o t) (record { sends = prefix_nothing _ n n' o t; one_fault = once }) is;
    status = failed_ending r fault is _;
    to_the_end = λ _. failed_ending r fault is _;
    by_line = λ play read.
        let none = subst (λ (f : Format). (input_in f opens.taken).accepted ≡ None) (same ∙ ap format_of (own_command c Play play)) (opens.shows (failed_read r fault is read)) in
        subst (λ (o' : List Sent). Sends o' (ends n o t) (ends n' o t)) (sym (no_calls (input_of opens.taken) none)) (nothing_sent n n' o t);
    besides = besides_failed r fault is n n' o t (OnInput c) _;
  }

  module _ (x : Opened) (left between : Option (List ℕ)) (opens : OpensInput format (Ok x) left between) (n n' : ℕ) (o t : SinkView) (still : (u v : ℕ) → counts n' u v ≡ counts n u v) where
    own : OpensInput (format_of c) (Ok x) left between
    own = subst (λ (f : Format). OpensInput f (Ok x) left between) same opens

    source_is : n' ≡ n
    source_is = ap (λ (k : Counts). k.source) (still 0 0)

    -- it did what is due of the world and of what follows it
    module _ (w : OpenedWorld) (is : x ≡ opened.World w) (r : Result InputEnd Fault) (left' : Option (List ℕ)) (after : Ends) where
      abbrev world : OpensInput (format_of c) (Ok (opened.World w)) left between
      world = subst (λ k. OpensInput (format_of c) (Ok k) left between) is own

      module _ (did : DoesWorld c r w.read w.lines between left' (ends n' o t) after) where
        abbrev taken : List ℕ
        taken = did.wrote.reads.taken

        abbrev text : List ℕ
        text = (world.taken ++ taken) ++ left_of left'

        text_is : text ≡ world.taken ++ (taken ++ left_of left')
        text_is = append_assoc world.taken taken (left_of left')

        is_due : due (OnInput c) text ≡ due_left c w.read w.lines (taken ++ left_of left')
        is_due = ap (λ (z : List ℕ). due (OnInput c) z) text_is ∙ ap (due_of c) (opened_input (kind_of c) world.taken w world.shows (taken ++ left_of left'))

        -- where a read of `play` failed, the calls in the bytes that were taken
        line_by_line : OnInput c ≡ OnInput Play → r ≡ Err Read → Sends (order_of_calls (input_of (world.taken ++ taken))) (ends n o t) after
        line_by_line named read =
            let play = own_command c Play named in
            let says = subst (λ (f : Format). input_in f (world.taken ++ taken) ≡ read_left Calls w.read w.lines taken) (ap format_of play) (world.shows.says taken) in
            subst (λ (order : List Sent). Sends order (ends n o t) after) (sym (ap order_of_calls says))
            (subst (λ k. Sends (calls_by (Some w.read) (script_at w.read.policy w.lines taken)) (ends k o t) after) source_is (did.by_line play read))

        pub did_world : CommandDid (OnInput c) r left left' (ends n o t) after
        did_world = record {
          taken = world.taken ++ taken;
          took = Consumes-trans left between left' world.taken taken world.took did.wrote.reads.took;
          few = omega (arith, world.shows.within, did.wrote.reads.few, length-append world.taken taken);
          writes = subst (λ k. Writes r (due (OnInput c) text).order (ends k o t) after) source_is
              (in_order r _ _ (ends n' o t) after (sym (ap (λ (d : Due). d.order) is_due)) did.wrote.writes);
          status = IfOk-weaker r _ _ (λ e is. is ∙ sym (ap (λ (d : Due). d.status) is_due)) did.wrote.status;
          to_the_end = λ _. did.wrote.to_the_end;
          by_line = line_by_line;
          besides = subst (λ k. Besides (OnInput c) text r (ends k o t) after) source_is (subst (λ (z : List ℕ). Besides (OnInput c) z r (ends n' o t) after) (sym text_is)
              (subst (λ i. BesidesOf c i r (ends n' o t) after) (sym (opened_input (kind_of c) world.taken w world.shows (taken ++ left_of left'))) did.besides));
        }

      -- the same of a command that is the one which did it
      pub did_as : (d : InputCommand) → c ≡ d → DoesWorld d r w.read w.lines between left' (ends n' o t) after → CommandDid (OnInput c) r left left' (ends n o t) after
      did_as d same did = did_world (subst (λ (k : InputCommand). DoesWorld k r w.read w.lines between left' (ends n' o t) after) (sym same) did)

    -- it wrote the last line, where the input ended before its world did
    module _ (ending : InputEnd) (is : x ≡ opened.Ended ending) where
      abbrev ended : OpensInput (format_of c) (Ok (opened.Ended ending)) left between
      ended = subst (λ k. OpensInput (format_of c) (Ok k) left between) is own

      pub did_without_world : (r : Result InputEnd Fault) (o' : SinkView) → ((source : ℕ) (trail : SinkView) → Writes r (to_out (last_text 0 ending)) (ends source o trail) (ends source o' trail)) → IfOk r (λ e. e ≡ ending)
          → CommandDid (OnInput c) r left between (ends n o t) (ends n' o' t)
      did_without_world r o' writes is =
          let text = ended.taken ++ left_of between in
          let is_due : due (OnInput c) text ≡ due_with (to_out (last_text 0 ending)) ending = ap (due_of c) (ended_input (kind_of c) between ended.taken ending ended.shows) ∙ due_without_world c ending in
          record {
            taken = ended.taken;
            took = ended.took;
            few = ended.few;
            writes = subst (λ k. Writes r (due (OnInput c) text).order (ends k o t) (ends n' o' t)) source_is
                (in_order r _ _ (ends n' o t) (ends n' o' t) (sym (ap (λ (d : Due). d.order) is_due)) (writes n' t));
            status = IfOk-weaker r _ _ (λ e same. ap ends_with same ∙ sym (ap (λ (d : Due). d.status) is_due)) is;
            to_the_end = λ _. IfOk-weaker r _ _ (λ e same whole. ended.shows.to_the_end (sym same ∙ whole)) is;
            by_line = λ _ read. absurd (no_read r (to_out (last_text 0 ending)) o o' (writes 0 t) read);
            besides = subst (λ i. BesidesOf c i r (ends n o t) (ends n' o' t)) (sym (ended_input (kind_of c) between ended.taken ending ended.shows)) (besides_none c ending r (ends n o t) (ends n' o' t) is);
          }
        where
          no_read : (y : Result InputEnd Fault) (order : List Sent) (o o' : SinkView) → Writes y order (ends 0 o t) (ends 0 o' t) → y ≡ Err Read → ⊥
          no_read (Ok e) order o o' w read = absurd (cc)
          no_read (Err fault) order o o' w read = let same : fault ≡ Read = cc in not_a_read fault order o o' t t w same
