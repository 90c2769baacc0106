-- What the ends of a reporter hold, as it sees more calls.
use Rattle.std.proofs.Common.{◌≡◌, ℕ, ◌+◌, List, [], ◌∷◌, ◌++◌, length, refl, sym, ◌∙◌, ap, subst, append_assoc, arith, rules, map}
use Rattle.std.proofs.lemmas.List.{append-nil}
use Rattle.std.proofs.Math.Logic.{∥∥₁_map}
use Rattle.io_ends.specs.Ends.{SinkView}
use Rattle.std.specs.List.{AllByRecursion}
use Rattle.iso_laws.proofs.AllLemmas.{all-append}
use Rattle.kern_model.specs.declared.records.Rec.{Rec}
use Rattle.kern_model.specs.Run.{CallRecord}
use Rattle.lab_text.specs.Policy.{PolicyNames}
use Rattle.lab_engine.specs.declared.ending.Fault.{Fault}
use Rattle.lab_engine.specs.declared.reporting.Report.{Report}
use Rattle.lab_engine.specs.declared.reporting.Report.TheVariants.{All}
use Rattle.lab_engine.specs.Order.{Sent}
use Rattle.lab_engine.specs.Playing.{Ends, Sends, SendsAll, StopsBy, ends}
use Rattle.lab_engine.specs.Readable.{AreReadable, IsReadable}
use Rattle.lab_engine.specs.Report.{call_sends, report_after, report_after_call, sends_from}
use Rattle.lab_engine.specs.Reporter.{HoldReports, HoldReportsSince}
use Rattle.lab_engine.specs.Session.{numbered_from}
use Rattle.lab_engine.proofs.ReadableLemmas.{with_numbers}
use Rattle.lab_engine.proofs.ReportLemmas.{all_stays}
use Rattle.lab_engine.proofs.Sending.{all_nothing, sends_more}

-- ---- calls, and those after them

after_calls : (r : Report) (ps more : List CallRecord) → report_after r (ps ++ more) ≡ report_after (report_after r ps) more
unfolding report_after
after_calls r [] more = refl
after_calls r (p ∷ ps) more = after_calls (report_after_call r p) ps more

pub reported_calls : (policy : PolicyNames) (r : Report) (n : ℕ) (ps more : List CallRecord) → sends_from r policy n (ps ++ more) ≡ sends_from r policy n ps ++ sends_from (report_after r ps) policy (n + length ps) more
unfolding sends_from report_after
reported_calls policy r n [] more = let none : n ≡ n + 0 = omega arith in ap (λ k. sends_from r policy k more) none
reported_calls policy r n (p ∷ ps) more =
    let q = report_after_call r p in
    let later : (n + 1) + length ps ≡ n + length (p ∷ ps) = omega arith in
    ap (λ (o : List Sent). call_sends r policy n p ++ o) (reported_calls policy q (n + 1) ps more)
    ∙ sym (append_assoc (call_sends r policy n p) (sends_from q policy (n + 1) ps) (sends_from (report_after q ps) policy ((n + 1) + length ps) more))
    ∙ ap (λ k. (call_sends r policy n p ++ sends_from q policy (n + 1) ps) ++ sends_from (report_after q ps) policy k more) later

numbered_calls : (n : ℕ) (ps : List CallRecord) (p : CallRecord) → numbered_from n (ps ++ p ∷ []) ≡ numbered_from n ps ++ map (λ (r : Rec). (n + length ps, r)) p.recs
numbered_calls n [] p =
    let none : n ≡ n + 0 = omega arith in
    append-nil (map (λ (r : Rec). (n, r)) p.recs) ∙ ap (λ k. map (λ (r : Rec). (k, r)) p.recs) none
numbered_calls n (q ∷ qs) p =
    let later : (n + 1) + length qs ≡ n + length (q ∷ qs) = omega arith in
    let first = map (λ (r : Rec). (n, r)) q.recs in
    ap (λ (rs : List (ℕ × Rec)). first ++ rs) (numbered_calls (n + 1) qs p)
    ∙ sym (append_assoc first (numbered_from (n + 1) qs) (map (λ (r : Rec). ((n + 1) + length qs, r)) p.recs))
    ∙ ap (λ k. (first ++ numbered_from (n + 1) qs) ++ map (λ (r : Rec). (k, r)) p.recs) later

-- ---- one more call

-- no call was seen
pub held_at_start : (policy : PolicyNames) (r : Report) (e : Ends) → HoldReports policy r r [] [] e e
unfolding sends_from report_after
held_at_start policy r e = record { front = []; rest = []; next = refl; sends = (all_nothing e).sends; report = λ _. refl; readable = λ _. tt; one = omega arith }

-- a prefix of nothing
pub none_before : (front rest : List Sent) → [] ≡ front ++ rest → front ≡ []
none_before [] rest is = refl
none_before (x ∷ front) rest is = grind rules

no_call : (p : CallRecord) → p ∷ [] ≡ [] → ⊥
no_call p is = grind rules

module _ (policy : PolicyNames) (first now : Report) (seen stopped : List CallRecord) (before after : Ends) (k : HoldReports policy first now seen stopped before after) (none : stopped ≡ []) where
  -- no call was stopped so far
  whole : sends_from first policy 1 seen ++ k.front ≡ sends_from first policy 1 seen
  unfolding sends_from
  whole =
      ap (λ (o : List Sent). sends_from first policy 1 seen ++ o) (none_before k.front k.rest (sym (ap (sends_from (report_after first seen) policy (length seen + 1)) none) ∙ k.next))
      ∙ append-nil (sends_from first policy 1 seen)

  pub sent : Sends (sends_from first policy 1 seen) before after
  sent = subst (λ (o : List Sent). Sends o before after) whole k.sends

  module _ (n : ℕ) (is : n ≡ length seen + 1) (p : CallRecord) where
    -- what is reported of the next call
    next_call : call_sends now policy n p ≡ sends_from (report_after first seen) policy (length seen + 1) (p ∷ [])
    unfolding sends_from
    next_call =
        ap (λ (r : Report). call_sends r policy n p) (k.report none)
        ∙ ap (λ m. call_sends (report_after first seen) policy m p) is
        ∙ sym (append-nil (call_sends (report_after first seen) policy (length seen + 1) p))

    with_call : sends_from first policy 1 seen ++ call_sends now policy n p ≡ sends_from first policy 1 (seen ++ p ∷ []) ++ []
    with_call =
        let later : length seen + 1 ≡ 1 + length seen = omega arith in
        ap (λ (o : List Sent). sends_from first policy 1 seen ++ o) (next_call ∙ ap (λ m. sends_from (report_after first seen) policy m (p ∷ [])) later)
        ∙ sym (reported_calls policy first 1 seen (p ∷ []))
        ∙ sym (append-nil (sends_from first policy 1 (seen ++ p ∷ [])))

    -- its records are readable, as those before it
    records_more : (first ≡ All) → (now ≡ All → AreReadable policy n p.recs) → AllByRecursion (IsReadable policy) (numbered_from 1 (seen ++ p ∷ []))
    records_more all own =
        let place : n ≡ 1 + length seen = omega (arith, is) in
        let recs = subst (λ m. AllByRecursion (IsReadable policy) (map (λ (r : Rec). (m, r)) p.recs)) place (with_numbers policy n p.recs (own (k.report none ∙ all_stays first seen all))) in
        subst (AllByRecursion (IsReadable policy)) (sym (numbered_calls 1 seen p)) (all-append (IsReadable policy) (numbered_from 1 seen) _ (k.readable all) recs)

    -- the call was reported
    pub held_more : (now' : Report) (later : Ends) → now' ≡ report_after_call now p → (now ≡ All → AreReadable policy n p.recs) → SendsAll (call_sends now policy n p) after later → HoldReports policy first now' (seen ++ p ∷ []) stopped before later
    unfolding sends_from report_after
    held_more now' later taken own sends = record {
      front = [];
      rest = [];
      next = ap (sends_from (report_after first (seen ++ p ∷ [])) policy (length (seen ++ p ∷ []) + 1)) none;
      sends = subst (λ (o : List Sent). Sends o before later) with_call (sends_more (sends_from first policy 1 seen) (call_sends now policy n p) before after later sent sends.sends);
      report = λ _. taken ∙ ap (λ (r : Report). report_after_call r p) (k.report none) ∙ sym (after_calls first seen (p ∷ []));
      readable = λ all. records_more all own;
      one = k.one;
    }

    -- a fault stopped it
    pub held_stop : (now' : Report) (later : Ends) (fault : Fault) → StopsBy fault (call_sends now policy n p) after later → HoldReports policy first now' seen (p ∷ []) before later
    held_stop now' later fault stop = record {
      front = stop.sends.sent;
      rest = stop.sends.rest;
      next = sym next_call ∙ stop.sends.prefix;
      sends = sends_more (sends_from first policy 1 seen) stop.sends.sent before after later sent stop.sends.sends;
      report = λ e. absurd (no_call p e);
      readable = k.readable;
      one = omega arith;
    }

-- ---- from the start on

-- nothing was seen yet
pub held_new : {K T : Type 0} (f : K → SinkView) (g : T → SinkView) (out : K) (trail : T) (policy : PolicyNames) (r : Report) (none start : List (K × (T × Report))) (seen stopped : List CallRecord)
    → start ≡ none ++ (out, (trail, r)) ∷ [] → none ≡ [] → seen ≡ [] → stopped ≡ [] → ∥ HoldReportsSince f g start policy r seen stopped (f out) (g trail) ∥₁
held_new f g out trail policy r none start seen stopped is new no_call no_stop = rw (is, new, no_call, no_stop) (∣ held_at_start policy r (ends 0 (f out) (g trail)) ∣₁)

module _ {K T : Type 0} (f : K → SinkView) (g : T → SinkView) (start : List (K × (T × Report))) (policy : PolicyNames) (now now' : Report) (seen stopped : List CallRecord) (out out' trail trail' : SinkView) (none : stopped ≡ []) (n : ℕ) (is : n ≡ length seen + 1) (p : CallRecord)
    (kept : ∥ HoldReportsSince f g start policy now seen stopped out trail ∥₁) where
  more_since : (starts : List (K × (T × Report))) (seen' : List CallRecord) → seen' ≡ seen ++ p ∷ [] → now' ≡ report_after_call now p
      → (now ≡ All → AreReadable policy n p.recs) → SendsAll (call_sends now policy n p) (ends 0 out trail) (ends 0 out' trail') → HoldReportsSince f g starts policy now seen stopped out trail → HoldReportsSince f g starts policy now' seen' stopped out' trail'
  more_since [] seen' added taken own sends k = k
  more_since (s ∷ _) seen' added taken own sends k =
      subst (λ (cs : List CallRecord). HoldReports policy s.1.1 now' cs stopped (ends 0 (f s.0) (g s.1.0)) (ends 0 out' trail')) (sym added)
      (held_more policy s.1.1 now seen stopped _ _ k none n is p now' _ taken own sends)

  -- a call was reported
  pub held_seen : (seen' : List CallRecord) → seen' ≡ seen ++ p ∷ [] → now' ≡ report_after_call now p
      → (now ≡ All → AreReadable policy n p.recs) → SendsAll (call_sends now policy n p) (ends 0 out trail) (ends 0 out' trail') → ∥ HoldReportsSince f g start policy now' seen' stopped out' trail' ∥₁
  held_seen seen' added taken own sends = ∥∥₁_map kept (more_since start seen' added taken own sends)

  stop_since : (starts : List (K × (T × Report))) (stopped' : List CallRecord) (fault : Fault) → stopped' ≡ p ∷ []
      → StopsBy fault (call_sends now policy n p) (ends 0 out trail) (ends 0 out' trail') → HoldReportsSince f g starts policy now seen stopped out trail → HoldReportsSince f g starts policy now' seen stopped' out' trail'
  stop_since [] stopped' fault added stop k = k
  stop_since (s ∷ _) stopped' fault added stop k =
      subst (λ (cs : List CallRecord). HoldReports policy s.1.1 now' seen cs (ends 0 (f s.0) (g s.1.0)) (ends 0 out' trail')) (sym added)
      (held_stop policy s.1.1 now seen stopped _ _ k none n is p now' _ fault stop)

  -- a fault stopped a call
  pub held_stopped : (stopped' : List CallRecord) (fault : Fault) → stopped' ≡ p ∷ []
      → StopsBy fault (call_sends now policy n p) (ends 0 out trail) (ends 0 out' trail') → ∥ HoldReportsSince f g start policy now' seen stopped' out' trail' ∥₁
  held_stopped stopped' fault added stop = ∥∥₁_map kept (stop_since start stopped' fault added stop)

-- what was written holds of equal names of labels and of equal ends
pub from_equal : {K T : Type 0} (f : K → SinkView) (g : T → SinkView) (P : PolicyNames → SinkView → SinkView → Type 0) (policy policy' : PolicyNames) (k k' : K) (t t' : T) → policy' ≡ policy → k' ≡ k → t' ≡ t → P policy' (f k') (g t') → P policy (f k) (g t)
from_equal f g P policy policy' k k' t t' is out trail p =
    subst (λ (q : PolicyNames). P q (f k) (g t)) is (subst (λ x. P policy' (f x) (g t)) out (subst (λ x. P policy' (f k') (g x)) trail p))
