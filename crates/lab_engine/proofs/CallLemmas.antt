-- The bytes of one call: what comes before its reply, and then the reply where it is written.
use Rattle.std.proofs.Common.{◌≡◌, ℕ, Bool, true, false, cond, List, [], ◌++◌, refl, sym, ◌∙◌, ap}
use Rattle.std.proofs.lemmas.List.{append-nil}
use Rattle.std.specs.Prelude.{Result}
use Rattle.kern_model.specs.declared.records.Outcome.{Outcome}
use Rattle.kern_model.specs.declared.records.Rec.{Rec}
use Rattle.kern_model.specs.declared.world.ScriptItem.{ScriptItem}
use Rattle.kern_model.specs.Isolation.{any_crosses, low}
use Rattle.kern_model.specs.Run.{CallRecord, item_record}
use Rattle.kern_model.specs.State.{State}
use Rattle.kern_model.specs.Step.{IsPlayed, StepResult}
use Rattle.lab_text.specs.Policy.{PolicyNames}
use Rattle.line_text.specs.Reply.{reply_line}
use Rattle.lab_engine.specs.declared.ending.Fault.{Fault}
use Rattle.lab_engine.specs.declared.reporting.Report.{Report}
use Rattle.lab_engine.specs.declared.reporting.Report.TheVariants.{All, Below, Crossed, Counted, Named}
use Rattle.lab_engine.specs.declared.reporting.Shown.{Shown}
use Rattle.lab_engine.specs.declared.reporting.Shown.TheVariants as shown
use Rattle.lab_engine.specs.Order.{Sent, call_order, to_out}
use Rattle.lab_engine.specs.Playing.{Ends, Writes}
use Rattle.lab_engine.specs.Report.{before_reply, call_record, call_sends, crossed_line, has_reply, shown_of}
use Rattle.lab_engine.specs.Texts.{reply_text}
use Rattle.lab_engine.proofs.Sending.{in_order}

-- what is written before a reply, of equal parts
pub shown_writes : {T : Type 0} (result : Result T Fault) (policy : PolicyNames) (n : ℕ) (recs : List Rec) (x y : Shown) (e f : Ends) → y ≡ x → Writes result (before_reply x policy n recs) e f → Writes result (before_reply y policy n recs) e f
shown_writes result policy n recs x y e f is w = in_order result _ _ e f (ap (λ (q : Shown). before_reply q policy n recs) (sym is)) w

-- what was played of an item, by its outcome
pub by_outcome : (s t : State) (i : ScriptItem) (o : Outcome) → IsPlayed s i.who i.call o t → call_record i.who i.head o ≡ item_record s i
by_outcome s t i o is = ap {A = StepResult} {B = CallRecord} (λ x. record { who = i.who; head = i.head; reply = x.reply; recs = x.recs }) (sym is)

module _ (policy : PolicyNames) (n : ℕ) (p : CallRecord) where
  -- what is written of a call is what comes before its reply, and then the reply where it is written
  abbrev by_parts : List Sent → Shown → Type 0
  by_parts sends shown = before_reply shown policy n p.recs ++ cond (has_reply shown) (to_out (reply_text policy p)) [] ≡ sends

  below_by_parts : (b c : Bool) → by_parts (cond b (to_out crossed_line) (cond c (to_out (reply_text policy p)) [])) (cond b shown.Crossing (cond c shown.Reply shown.Nothing))
  below_by_parts true c = append-nil (to_out crossed_line)
  below_by_parts false true = refl
  below_by_parts false false = refl

  pub call_by_parts : (r : Report) → by_parts (call_sends r policy n p) (shown_of r p.who p.recs)
  unfolding call_sends call_order
  call_by_parts All = refl
  call_by_parts (Below l k) = below_by_parts (any_crosses l p.recs) (low l p.who.label)
  call_by_parts Crossed = refl
  call_by_parts (Counted t) = refl
  call_by_parts (Named caps) = refl

  module _ (r : Report) (shown : Shown) (is : shown ≡ shown_of r p.who p.recs) (recs : List Rec) (are : recs ≡ p.recs) where
    abbrev before : List Sent
    before = before_reply shown policy n recs

    pub by_shown : before ++ cond (has_reply shown) (to_out (reply_text policy p)) [] ≡ call_sends r policy n p
    by_shown =
        ap (λ (rs : List Rec). before_reply shown policy n rs ++ cond (has_reply shown) (to_out (reply_text policy p)) []) are
        ∙ ap (λ (x : Shown). before_reply x policy n p.recs ++ cond (has_reply x) (to_out (reply_text policy p)) []) is
        ∙ call_by_parts r

    -- the reply is written
    pub reply_written : has_reply shown ≡ true → (text : List ℕ) → text ≡ reply_line policy p.who p.head p.reply → before ++ to_out text ≡ call_sends r policy n p
    unfolding reply_text
    reply_written there text same =
        ap (λ (t : List ℕ). before ++ to_out t) same
        ∙ ap (λ b. before ++ cond b (to_out (reply_text policy p)) []) (sym there)
        ∙ by_shown

    -- the reply is not written
    pub reply_left_out : has_reply shown ≡ false → before ≡ call_sends r policy n p
    reply_left_out none =
        sym (append-nil before)
        ∙ ap (λ b. before ++ cond b (to_out (reply_text policy p)) []) (sym none)
        ∙ by_shown
