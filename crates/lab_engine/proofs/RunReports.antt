-- What is reported of a whole run.
use Rattle.std.proofs.Common.{◌≡◌, ℕ, ◌+◌, Bool, true, false, ◌||◌, cond, List, [], ◌∷◌, ◌++◌, length, refl, sym, ◌∙◌, ap, append_assoc, arith}
use Rattle.std.proofs.lemmas.List.{append-nil}
use Rattle.std.proofs.lemmas.List.Sums.{sum_by-cons}
use Rattle.std.specs.List.{flat_map, sum_by}
use Rattle.cap_bits.specs.CapSet.{CapSet, has, no_caps, union_of}
use Rattle.kern_model.specs.Isolation.{any_crosses, low, up_to}
use Rattle.kern_model.specs.Run.{CallRecord}
use Rattle.lab_lattice.specs.Label.{Label}
use Rattle.lab_text.specs.Policy.{PolicyNames}
use Rattle.least_caps.specs.Named.{named}
use Rattle.least_caps.proofs.Unions.{named-append}
use Rattle.cap_bits.specs.Laws.{same_caps}
use Rattle.cap_bits.proofs.CapSets.{has-no_caps, has-union_of}
use Rattle.std.proofs.Math.Bool.{or_assoc, or-false}
use Rattle.lab_engine.specs.declared.reporting.Report.TheVariants.{Below, Crossed, Counted, Named}
use Rattle.lab_engine.specs.declared.reporting.Tally.{Tally}
use Rattle.lab_engine.specs.Least.{named_by, recs_of}
use Rattle.lab_engine.specs.Order.{Sent, to_out}
use Rattle.lab_engine.specs.Report.{call_sends, crossed_line, exercises, is_denied, is_done, is_refused, report_after, sends_from, tally_of}
use Rattle.lab_engine.specs.Viewing.{low_calls, some_crosses}
use Rattle.lab_engine.specs.Texts.{reply_text}
use Rattle.lab_engine.proofs.Sending.{to_out-append}

-- ---- after a crossing

module _ (policy : PolicyNames) where
  pub crossed_reported : (n : ℕ) (calls : List CallRecord) → sends_from Crossed policy n calls ≡ []
  unfolding sends_from call_sends
  crossed_reported n [] = refl
  crossed_reported n (p ∷ ps) = crossed_reported (n + 1) ps

pub crossed_after : (calls : List CallRecord) → report_after Crossed calls ≡ Crossed
unfolding report_after
crossed_after [] = refl
crossed_after (p ∷ ps) = crossed_after ps

-- ---- below a label

-- where no call crosses, all calls are before the first that does
pub up_to_all : (l : Label) (calls : List CallRecord) → some_crosses l calls ≡ false → up_to l calls ≡ calls
up_to_all l [] none = refl
up_to_all l (p ∷ ps) none = by_first (up_to_all l ps) (any_crosses l p.recs) none
  where
    by_first : (some_crosses l ps ≡ false → up_to l ps ≡ ps) → (b : Bool) → (b || some_crosses l ps) ≡ false → cond b [] (p ∷ up_to l ps) ≡ p ∷ ps
    by_first again true none = absurd (cc)
    by_first again false none = ap (λ (cs : List CallRecord). p ∷ cs) (again none)

module _ (policy : PolicyNames) (l : Label) where
  -- the replies to the calls below the label up to the first call that crosses it, and then that one has crossed it
  abbrev pub below_text : List CallRecord → List ℕ
  below_text calls = flat_map (reply_text policy) (low_calls l (up_to l calls)) ++ cond (some_crosses l calls) crossed_line []

  module _ (k n : ℕ) (p : CallRecord) (ps : List CallRecord) (again : (j m : ℕ) → sends_from (Below l j) policy m ps ≡ to_out (below_text ps)) where
    abbrev text : List ℕ
    text = reply_text policy p

    by_low : (c : Bool) → cond c (to_out text) [] ++ sends_from (cond c (Below l (k + 1)) (Below l k)) policy (n + 1) ps
        ≡ to_out (flat_map (reply_text policy) (cond c (p ∷ low_calls l (up_to l ps)) (low_calls l (up_to l ps))) ++ cond (some_crosses l ps) crossed_line [])
    by_low true =
        ap (λ (o : List Sent). to_out text ++ o) (again (k + 1) (n + 1))
        ∙ sym (to_out-append text (below_text ps))
        ∙ ap to_out (sym (append_assoc text (flat_map (reply_text policy) (low_calls l (up_to l ps))) (cond (some_crosses l ps) crossed_line [])))
    by_low false = again k (n + 1)

    by_crossing : (b : Bool) → cond b (to_out crossed_line) (cond (low l p.who.label) (to_out text) []) ++ sends_from (cond b Crossed (cond (low l p.who.label) (Below l (k + 1)) (Below l k))) policy (n + 1) ps
        ≡ to_out (flat_map (reply_text policy) (low_calls l (cond b [] (p ∷ up_to l ps))) ++ cond (b || some_crosses l ps) crossed_line [])
    by_crossing true = ap (λ (o : List Sent). to_out crossed_line ++ o) (crossed_reported policy (n + 1) ps) ∙ append-nil (to_out crossed_line)
    by_crossing false = by_low (low l p.who.label)

  pub below_reported : (k n : ℕ) (calls : List CallRecord) → sends_from (Below l k) policy n calls ≡ to_out (below_text calls)
  unfolding sends_from call_sends to_out
  below_reported k n [] = refl
  below_reported k n (p ∷ ps) = by_crossing k n p ps (λ j m. below_reported j m ps) (any_crosses l p.recs)

module _ (l : Label) (k : ℕ) (p : CallRecord) (ps : List CallRecord) (again : (j : ℕ) → report_after (Below l j) ps ≡ cond (some_crosses l ps) Crossed (Below l (j + length (low_calls l ps)))) where
  after_low : (c : Bool) → report_after (cond c (Below l (k + 1)) (Below l k)) ps ≡ cond (some_crosses l ps) Crossed (Below l (k + length (cond c (p ∷ low_calls l ps) (low_calls l ps))))
  after_low true =
      let more : (k + 1) + length (low_calls l ps) ≡ k + length (p ∷ low_calls l ps) = omega arith in
      again (k + 1) ∙ ap (λ n. cond (some_crosses l ps) Crossed (Below l n)) more
  after_low false = again k

  after_crossing : (b : Bool) → report_after (cond b Crossed (cond (low l p.who.label) (Below l (k + 1)) (Below l k))) ps ≡ cond (b || some_crosses l ps) Crossed (Below l (k + length (low_calls l (p ∷ ps))))
  after_crossing true = crossed_after ps
  after_crossing false = after_low (low l p.who.label)

-- what is kept in the end: that a call has crossed, or how many replies were written
pub below_after : (l : Label) (k : ℕ) (calls : List CallRecord) → report_after (Below l k) calls ≡ cond (some_crosses l calls) Crossed (Below l (k + length (low_calls l calls)))
unfolding report_after
below_after l k [] = let none : k ≡ k + 0 = omega arith in ap (λ n. Below l n) none
below_after l k (p ∷ ps) = after_crossing l k p ps (λ j. below_after l j ps) (any_crosses l p.recs)

-- ---- a tally

pub counted_reported : (policy : PolicyNames) (t : Tally) (n : ℕ) (calls : List CallRecord) → sends_from (Counted t) policy n calls ≡ []
unfolding sends_from call_sends
counted_reported policy t n [] = refl
counted_reported policy t n (p ∷ ps) = counted_reported policy (tally_of t (p ∷ [])) (n + 1) ps

-- a sum over a first call and the others
sum_more : (f : CallRecord → ℕ) (k : ℕ) (p : CallRecord) (ps : List CallRecord) → (k + sum_by f (p ∷ [])) + sum_by f ps ≡ k + sum_by f (p ∷ ps)
sum_more f k p ps = let one = sum_by-cons f p [] in let all = sum_by-cons f p ps in omega (arith, one, all)

-- a tally of a first call, and then of the others
tally_more : (t : Tally) (p : CallRecord) (ps : List CallRecord) → tally_of (tally_of t (p ∷ [])) ps ≡ tally_of t (p ∷ ps)
tally_more t p ps = λ i. record {
  ok = sum_more (λ (q : CallRecord). cond (is_done q.reply) 1 0) t.ok p ps i;
  denied = sum_more (λ (q : CallRecord). cond (is_denied q.reply) 1 0) t.denied p ps i;
  refused = sum_more (λ (q : CallRecord). cond (is_refused q.reply) 1 0) t.refused p ps i;
  exercised = sum_more (λ (q : CallRecord). exercises q.recs) t.exercised p ps i;
}

tally_none : (t : Tally) → t ≡ tally_of t []
tally_none t = λ i. record {
  ok = none t.ok i;
  denied = none t.denied i;
  refused = none t.refused i;
  exercised = none t.exercised i;
}
  where
    none : (k : ℕ) → k ≡ k + 0
    none k = omega arith

pub counted_after : (t : Tally) (calls : List CallRecord) → report_after (Counted t) calls ≡ Counted (tally_of t calls)
unfolding report_after
counted_after t [] = ap (λ (u : Tally). Counted u) (tally_none t)
counted_after t (p ∷ ps) = counted_after (tally_of t (p ∷ [])) ps ∙ ap (λ (u : Tally). Counted u) (tally_more t p ps)

-- ---- capabilities

-- no capability besides
union_none : (a : CapSet) → a ≡ union_of a no_caps
union_none a = same_caps _ _ (λ c. sym (has-union_of a no_caps c ∙ ap (λ b. has a c || b) (has-no_caps c) ∙ or-false (has a c)))

union_more : (a b c : CapSet) → union_of (union_of a b) c ≡ union_of a (union_of b c)
union_more a b c = same_caps _ _ (λ q.
    has-union_of (union_of a b) c q ∙ ap (λ v. v || has c q) (has-union_of a b q) ∙ or_assoc (has a q) (has b q) (has c q)
    ∙ sym (has-union_of a (union_of b c) q ∙ ap (λ v. has a q || v) (has-union_of b c q)))

named_besides : (caps : CapSet) (calls : List CallRecord) → report_after (Named caps) calls ≡ Named (union_of caps (named_by calls))
unfolding report_after
named_besides caps [] = ap (λ (s : CapSet). Named s) (union_none caps)
named_besides caps (p ∷ ps) =
    named_besides (union_of caps (named p.recs)) ps
    ∙ ap (λ (s : CapSet). Named s) (union_more caps (named p.recs) (named_by ps) ∙ ap (union_of caps) (sym (named-append p.recs (recs_of ps))))

-- the capabilities that calls name, where none was named before
pub named_after : (calls : List CallRecord) → report_after (Named no_caps) calls ≡ Named (named_by calls)
named_after calls = named_besides no_caps calls ∙ ap (λ (s : CapSet). Named s) (same_caps _ _ (λ c. has-union_of no_caps (named_by calls) c ∙ ap (λ b. b || has (named_by calls) c) (has-no_caps c)))
