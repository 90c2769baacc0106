-- What is reported of calls: of some of them and of those after them, and what is kept.
use Rattle.std.proofs.Common.{◌≡◌, ℕ, ◌+◌, ◌≤◌, Bool, true, false, cond, List, [], ◌∷◌, ◌++◌, length, refl, sym, ◌∙◌, ap, append_assoc, arith}
use Rattle.std.proofs.lemmas.List.{append-nil}
use Rattle.kern_model.specs.declared.world.ScriptItem.{ScriptItem}
use Rattle.kern_model.specs.Isolation.{any_crosses, low}
use Rattle.kern_model.specs.Run.{CallRecord, item_record, run, state_after_run}
use Rattle.kern_model.specs.State.{State}
use Rattle.kern_model.specs.Step.{step}
use Rattle.lab_lattice.specs.Label.{Label}
use Rattle.lab_text.specs.Policy.{PolicyNames}
use Rattle.lab_engine.specs.declared.reporting.Report.{Report}
use Rattle.lab_engine.specs.declared.reporting.Report.TheVariants.{All, Below, Crossed, Counted, Named}
use Rattle.lab_engine.specs.Order.{Sent, call_order}
use Rattle.lab_engine.specs.Playing.{items_order}
use Rattle.lab_engine.specs.Report.{CountsAtMost, call_sends, is_denied, is_done, is_refused, items_reported, report_after, report_after_call, sends_from}
use Rattle.lab_engine.specs.Session.{bytes_from, call_bytes}

-- ---- what is kept

-- calls whose records and replies are all reported
pub all_stays : (r : Report) (ps : List CallRecord) → r ≡ All → report_after r ps ≡ All
unfolding report_after
all_stays r [] is = is
all_stays r (p ∷ ps) is = all_stays (report_after_call r p) ps (ap (λ (q : Report). report_after_call q p) is)

-- the same of one call
pub call_stays : (r r' : Report) (p : CallRecord) → r' ≡ report_after_call r p → r ≡ All → r' ≡ All
call_stays r r' p kept is = kept ∙ ap (λ (q : Report). report_after_call q p) is

-- some calls, and those after them
pub after_append : (r : Report) (s : State) (is more : List ScriptItem) → report_after r (run s (is ++ more)) ≡ report_after (report_after r (run s is)) (run (state_after_run s is) more)
unfolding report_after
after_append r s [] more = refl
after_append r s (i ∷ is) more = after_append (report_after_call r (item_record s i)) (step s i.who i.call).state is more

-- no call
pub after_none : (r : Report) (s : State) → report_after r (run s []) ≡ r
unfolding report_after
after_none r s = refl

-- one call
pub after_one : (r : Report) (s : State) (i : ScriptItem) → report_after r (run s (i ∷ [])) ≡ report_after_call r (item_record s i)
unfolding report_after
after_one r s i = refl

-- a call, and those after it
pub after_first : (r r' : Report) (s next : State) (i : ScriptItem) (is items : List ScriptItem) → items ≡ i ∷ is → r' ≡ report_after_call r (item_record s i) → next ≡ (step s i.who i.call).state
    → report_after r (run s items) ≡ report_after r' (run next is)
unfolding report_after
after_first r r' s next i is items e kept state =
    ap (λ (xs : List ScriptItem). report_after r (run s xs)) e
    ∙ sym (ap (λ (q : Report). report_after q (run (step s i.who i.call).state is)) kept)
    ∙ sym (ap (λ (x : State). report_after r' (run x is)) state)

-- ---- how many calls are counted

pub counts_longer : (n m : ℕ) (r : Report) → n ≤ m → CountsAtMost n r → CountsAtMost m r
counts_longer n m All le few = tt
counts_longer n m (Below l k) le few = omega (arith, le, few)
counts_longer n m Crossed le few = tt
counts_longer n m (Counted t) le few = (omega (arith, le, few.0), omega (arith, le, few.1), omega (arith, le, few.2))
counts_longer n m (Named caps) le few = tt

one_more : (b : Bool) (k n : ℕ) → k ≤ n → k + (0 + cond b 1 0) ≤ n + 1
one_more true k n le = omega (arith, le)
one_more false k n le = omega (arith, le)

one_below : (b c : Bool) (l : Label) (k n : ℕ) → k ≤ n → CountsAtMost (n + 1) (cond b Crossed (cond c (Below l (k + 1)) (Below l k)))
one_below true c l k n le = tt
one_below false true l k n le = omega (arith, le)
one_below false false l k n le = omega (arith, le)

-- a call is counted once at most
pub counts_call : (n : ℕ) (r : Report) (p : CallRecord) → CountsAtMost n r → CountsAtMost (n + 1) (report_after_call r p)
counts_call n All p few = tt
counts_call n (Below l k) p few = one_below (any_crosses l p.recs) (low l p.who.label) l k n few
counts_call n Crossed p few = tt
counts_call n (Counted t) p few = (one_more (is_done p.reply) t.ok n few.0, one_more (is_denied p.reply) t.denied n few.1, one_more (is_refused p.reply) t.refused n few.2)
counts_call n (Named caps) p few = tt

pub counts_items : (n : ℕ) (r : Report) (s : State) (is : List ScriptItem) → CountsAtMost n r → CountsAtMost (n + length is) (report_after r (run s is))
unfolding report_after
counts_items n r s [] few = counts_longer n (n + 0) r (omega arith) few
counts_items n r s (i ∷ is) few =
    counts_longer ((n + 1) + length is) (n + length (i ∷ is)) _ (omega arith) (counts_items (n + 1) (report_after_call r (item_record s i)) (step s i.who i.call).state is (counts_call n r (item_record s i) few))

-- ---- what is written

module _ (policy : PolicyNames) where
  -- a call is reported before those after it
  pub items_first : (r : Report) (count : ℕ) (s : State) (i : ScriptItem) (is : List ScriptItem)
      → items_reported r policy count s (i ∷ is) ≡ call_sends r policy (count + 1) (item_record s i) ++ items_reported (report_after_call r (item_record s i)) policy (count + 1) (step s i.who i.call).state is
  unfolding sends_from
  items_first r count s i is = refl

  -- the same of calls that begin with this one
  pub items_left : (r r' : Report) (count : ℕ) (s next : State) (i : ScriptItem) (is items : List ScriptItem) → items ≡ i ∷ is → r' ≡ report_after_call r (item_record s i) → next ≡ (step s i.who i.call).state
      → items_reported r policy count s items ≡ call_sends r policy (count + 1) (item_record s i) ++ items_reported r' policy (count + 1) next is
  items_left r r' count s next i is items e kept state =
      ap (items_reported r policy count s) e ∙ items_first r count s i is
      ∙ sym (ap (λ (q : Report). call_sends r policy (count + 1) (item_record s i) ++ items_reported q policy (count + 1) (step s i.who i.call).state is) kept)
      ∙ sym (ap (λ (x : State). call_sends r policy (count + 1) (item_record s i) ++ items_reported r' policy (count + 1) x is) state)

  -- one call
  pub items_one : (r : Report) (count : ℕ) (s : State) (i : ScriptItem) → call_sends r policy (count + 1) (item_record s i) ≡ items_reported r policy count s (i ∷ [])
  unfolding sends_from
  items_one r count s i = sym (append-nil (call_sends r policy (count + 1) (item_record s i)))

  -- no call
  pub items_none : (r : Report) (count : ℕ) (s : State) → items_reported r policy count s [] ≡ []
  unfolding sends_from
  items_none r count s = refl

  -- some calls, and those after them
  pub items_append : (r : Report) (count : ℕ) (s : State) (is more : List ScriptItem)
      → items_reported r policy count s (is ++ more) ≡ items_reported r policy count s is ++ items_reported (report_after r (run s is)) policy (count + length is) (state_after_run s is) more
  unfolding sends_from report_after
  items_append r count s [] more =
      let none : count ≡ count + 0 = omega arith in
      ap (λ k. items_reported r policy k s more) none
  items_append r count s (i ∷ is) more =
      let next = (step s i.who i.call).state in
      let q = report_after_call r (item_record s i) in
      let later : (count + 1) + length is ≡ count + length (i ∷ is) = omega arith in
      let first = call_sends r policy (count + 1) (item_record s i) in
      ap (λ (o : List Sent). first ++ o) (items_append q (count + 1) next is more)
      ∙ sym (append_assoc first (items_reported q policy (count + 1) next is) (items_reported (report_after q (run next is)) policy ((count + 1) + length is) (state_after_run next is) more))
      ∙ ap (λ k. (first ++ items_reported q policy (count + 1) next is) ++ items_reported (report_after q (run next is)) policy k (state_after_run next is) more) later

  -- where all is reported, it is the order of the calls
  pub all_reported : (count : ℕ) (s : State) (items : List ScriptItem) → sends_from All policy (count + 1) (run s items) ≡ items_order policy count s items
  unfolding sends_from call_sends items_order bytes_from
  all_reported count s [] = refl
  all_reported count s (i ∷ is) = ap (λ (o : List Sent). call_order (call_bytes policy (count + 1) (item_record s i)) ++ o) (all_reported (count + 1) (step s i.who i.call).state is)
