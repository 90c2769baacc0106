-- What the ends of a reporter of programs hold, as it sees more calls, and at the end.
use Rattle.std.proofs.Common.{◌≡◌, ℕ, ◌+◌, ◌<◌, true, List, [], ◌∷◌, ◌++◌, length, refl, sym, ◌∙◌, ap, subst, append_assoc, arith, rules}
use Rattle.std.proofs.lemmas.List.{length-append, length-map, map-append}
use Rattle.io_ends.specs.Ends.{SinkView}
use Rattle.kern_model.specs.declared.calls.Call.{Call}
use Rattle.kern_model.specs.declared.numbers.Pid.{Pid}
use Rattle.kern_model.specs.declared.records.Outcome.{Outcome}
use Rattle.kern_model.specs.Run.{CallRecord}
use Rattle.lab_text.specs.Policy.{PolicyNames}
use Rattle.lab_engine.specs.declared.ending.Fault.{Fault}
use Rattle.lab_engine.specs.declared.ending.Fault.TheVariants.{Read, Write, Trail, NoMemory}
use Rattle.lab_engine.specs.declared.reporting.Report.{Report}
use Rattle.lab_engine.specs.declared.reporting.Report.TheVariants.{All, Below, Crossed, Counted, Named}
use Rattle.lab_engine.specs.Counts.{Counts, counted_by}
use Rattle.lab_engine.specs.Order.{Sent}
use Rattle.lab_engine.specs.Playing.{Ends, SendsAll, SendsPrefix, StopsBy, ends}
use Rattle.lab_engine.specs.Readable.{AreReadable}
use Rattle.lab_engine.specs.Report.{report_after, sends_from}
use Rattle.lab_engine.specs.Reporter.{HoldReports}
use Rattle.lab_engine.proofs.HeldReports.{held_at_start, held_more, held_stop, reported_calls, sent}
use Rattle.sched_progs.specs.declared.watch.SchedFault.TheVariants.{Stopped}
use Rattle.sched_progs.specs.Turns.{LoopItem}
use Rattle.sched_progs.specs.Watching.{SawPart, item_of}
use Rattle.sched_progs.specs.Chosen.{record_of_item}
use Rattle.sched_engine.specs.Reporting.{AreItemsReadable, HoldItems, end_faults, is_all, item_sends, items_in, items_sends, records_of_items, sched_fault_of}

-- ---- what is known of a reporter

pub all_known : (r : Report) → is_all r ≡ true → r ≡ All
all_known All is = refl
all_known (Below l k) is = absurd (cc)
all_known Crossed is = absurd (cc)
all_known (Counted t) is = absurd (cc)
all_known (Named caps) is = absurd (cc)

pub none_known : (calls : List CallRecord) → length calls ≡ 0 → calls ≡ []
none_known [] is = refl
none_known (p ∷ ps) is = absurd (omega (arith, is))

-- a fault that no end has is not counted
none_counted : (fault : Fault) (c : Counts) → end_faults fault ≡ 0 → counted_by fault c ≡ c
unfolding counted_by
none_counted Read c is = absurd (omega (arith, is))
none_counted Write c is = absurd (omega (arith, is))
none_counted Trail c is = absurd (omega (arith, is))
none_counted NoMemory c is = refl

-- a fault that stops the programs is one of an end
pub stop_counts : (stop : Fault) → sched_fault_of stop ≡ Stopped → 0 < end_faults stop
stop_counts Read is = omega arith
stop_counts Write is = omega arith
stop_counts Trail is = omega arith
stop_counts NoMemory is = grind rules

-- ---- one call

module _ (seen seen' : List (Pid × (Call × Outcome))) (who : Pid) (call : Call) (o : Outcome) (is : seen' ≡ seen ++ (who, (call, o)) ∷ []) where
  -- a list with one more call
  pub one_more : items_in seen' ≡ items_in seen ++ item_of who call o ∷ []
  one_more = ap items_in is ∙ map-append (λ (c : Pid × (Call × Outcome)). item_of c.0 c.1.0 c.1.1) seen ((who, (call, o)) ∷ [])

  -- the same where no call was there
  pub only_one : items_in seen ≡ [] → items_in seen' ≡ item_of who call o ∷ []
  only_one none = one_more ∙ ap (λ (is : List LoopItem). is ++ item_of who call o ∷ []) none

pub no_item : (i : LoopItem) → i ∷ [] ≡ [] → ⊥
no_item i is = grind rules

-- nothing was seen
pub hold_at_start : (policy : PolicyNames) (seen refused : List LoopItem) (out out' trail trail' : SinkView) → seen ≡ [] → refused ≡ [] → out' ≡ out → trail' ≡ trail → HoldItems policy 0 NoMemory seen refused out out' trail trail'
unfolding counted_by
hold_at_start policy seen refused out out' trail trail' new no_stop same_out same_trail =
    rw (new, no_stop, same_out, same_trail) (record { reports = held_at_start policy All (ends 0 out trail); count_is = refl; once = λ _. refl })

module _ (policy policy' : PolicyNames) (same : policy' ≡ policy) (count : ℕ) (fault : Fault) (seen refused : List LoopItem) (out0 out out' trail0 trail trail' : SinkView) (none : refused ≡ []) (i : LoopItem) (k : HoldItems policy count fault seen refused out0 out trail0 trail) where
  next : count + 1 ≡ length (records_of_items seen) + 1
  next = ap (λ n. n + 1) (k.count_is ∙ sym (length-map seen record_of_item))

  -- a call was reported
  pub hold_more : (number : ℕ) (items : List LoopItem) → number ≡ count + 1 → items ≡ seen ++ i ∷ [] → AreReadable policy (count + 1) i.recs
      → ((source : ℕ) → SendsAll (item_sends policy (count + 1) i) (ends source out trail) (ends source out' trail')) → HoldItems policy' number fault items refused out0 out' trail0 trail'
  hold_more number items is are own sends = subst (λ (p : PolicyNames). HoldItems p number fault items refused out0 out' trail0 trail') (sym same) (record {
    reports = subst (λ (ps : List CallRecord). HoldReports policy All All ps (records_of_items refused) (ends 0 out0 trail0) (ends 0 out' trail')) (sym (ap records_of_items are ∙ map-append record_of_item seen (i ∷ [])))
        (held_more policy All All (records_of_items seen) (records_of_items refused) _ _ k.reports (ap records_of_items none) (count + 1) next (record_of_item i) All _ refl (λ _. own) (sends 0));
    count_is = let c = k.count_is in let l = ap length are ∙ length-append seen (i ∷ []) in omega (arith, is, c, l);
    once = λ source. (sends source).no_fault ∙ k.once source;
  })

  -- a fault stopped it
  pub hold_stop : (stop : Fault) (items : List LoopItem) → end_faults fault ≡ 0 → items ≡ i ∷ []
      → ((source : ℕ) → StopsBy stop (item_sends policy (count + 1) i) (ends source out trail) (ends source out' trail')) → HoldItems policy' count stop seen items out0 out' trail0 trail'
  hold_stop stop items no_fault are stops = subst (λ (p : PolicyNames). HoldItems p count stop seen items out0 out' trail0 trail') (sym same) (record {
    reports = subst (λ (ps : List CallRecord). HoldReports policy All All (records_of_items seen) ps (ends 0 out0 trail0) (ends 0 out' trail')) (sym (ap records_of_items are))
        (held_stop policy All All (records_of_items seen) (records_of_items refused) _ _ k.reports (ap records_of_items none) (count + 1) next (record_of_item i) All _ stop (stops 0));
    count_is = k.count_is;
    once = λ source. (stops source).one_fault ∙ ap (counted_by stop) (k.once source ∙ none_counted fault _ no_fault);
  })

-- ---- at the end

-- what was written of calls is a prefix of what is written of these and of more
in_front : (policy : PolicyNames) (first now : Report) (calls seen stopped rest : List CallRecord) (before after : Ends) → calls ≡ seen ++ (stopped ++ rest) → HoldReports policy first now seen stopped before after → SendsPrefix (sends_from first policy 1 calls) before after
in_front policy first now calls seen stopped rest before after is k =
    let later : Report = report_after first seen in
    let n : ℕ = 1 + length seen in
    let written : List Sent = sends_from first policy 1 seen in
    let more : List Sent = sends_from (report_after later stopped) policy (n + length stopped) rest in
    let place : n ≡ length seen + 1 = omega arith in
    record {
      sent = written ++ k.front;
      rest = k.rest ++ more;
      prefix =
          ap (sends_from first policy 1) is
          ∙ reported_calls policy first 1 seen (stopped ++ rest)
          ∙ ap (λ (o : List Sent). written ++ o) (
          reported_calls policy later n stopped rest
          ∙ ap (λ (o : List Sent). o ++ more) (ap (λ m. sends_from later policy m stopped) place ∙ k.next)
          ∙ append_assoc k.front k.rest more)
          ∙ sym (append_assoc written k.front (k.rest ++ more));
      sends = k.sends;
    }

-- the calls seen, the refused one, and those after it
by_parts : (items before seen refused : List LoopItem) (p : SawPart items before seen refused) → before ≡ [] → records_of_items items ≡ records_of_items seen ++ (records_of_items refused ++ records_of_items p.rest)
by_parts items before seen refused p none =
    let seen_is : seen ≡ p.added = p.seen_is ∙ ap (λ (is : List LoopItem). is ++ p.added) none in
    ap records_of_items (p.items_are ∙ ap (λ (is : List LoopItem). is ++ (refused ++ p.rest)) (sym seen_is))
    ∙ map-append record_of_item seen (refused ++ p.rest)
    ∙ ap (λ (ps : List CallRecord). records_of_items seen ++ ps) (map-append record_of_item refused p.rest)

module _ (policy policy' : PolicyNames) (same : policy' ≡ policy) (count : ℕ) (fault : Fault) (items before seen refused : List LoopItem) (new : before ≡ []) (out out' trail trail' : SinkView) (k : HoldItems policy' count fault seen refused out out' trail trail') where
  held : HoldItems policy count fault seen refused out out' trail trail'
  held = subst (λ (p : PolicyNames). HoldItems p count fault seen refused out out' trail trail') same k

  module _ (saw : (seen ≡ before ++ items) × (refused ≡ [])) where
    seen_is : seen ≡ items
    seen_is = saw.0 ∙ ap (λ (is : List LoopItem). is ++ items) new

    pub all_written : end_faults fault ≡ 0 → (source : ℕ) → SendsAll (items_sends policy items) (ends source out trail) (ends source out' trail')
    all_written no_fault source =
        let s = sent policy All All (records_of_items seen) (records_of_items refused) _ _ held.reports (ap records_of_items saw.1) in
        subst (λ (is : List LoopItem). SendsAll (items_sends policy is) (ends source out trail) (ends source out' trail')) seen_is
        (record { sends = record { to_out = s.to_out; to_trail = s.to_trail }; no_fault = held.once source ∙ none_counted fault _ no_fault })

    pub all_readable : AreItemsReadable policy items
    all_readable = subst (AreItemsReadable policy) seen_is (held.reports.readable refl)

    pub all_counted : count ≡ length items
    all_counted = k.count_is ∙ ap (λ (is : List LoopItem). length is) seen_is

  pub part_written : SawPart items before seen refused → (source : ℕ) → StopsBy fault (items_sends policy items) (ends source out trail) (ends source out' trail')
  part_written p source =
      let s = in_front policy All All (records_of_items items) (records_of_items seen) (records_of_items refused) (records_of_items p.rest) _ _ (by_parts items before seen refused p new) held.reports in
      record {
        sends = record { sent = s.sent; rest = s.rest; prefix = s.prefix; sends = record { to_out = s.sends.to_out; to_trail = s.sends.to_trail } };
        one_fault = held.once source;
      }
