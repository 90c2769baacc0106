-- What a run reports of its calls: what is written of each, and what is kept of them.
use Rattle.std.specs.Prelude.{ℕ, ◌+◌, ◌≤◌, Bool, true, false, cond, List, [], ◌∷◌, ◌++◌, codes}
use Rattle.std.specs.List.{count_by, flat_map, sum_by}
use Rattle.kern_model.specs.declared.calls.Reply.{Reply}
use Rattle.kern_model.specs.declared.calls.Reply.TheVariants as reply
use Rattle.kern_model.specs.declared.numbers.Pid.{Pid}
use Rattle.kern_model.specs.declared.records.Outcome as declared
use Rattle.kern_model.specs.declared.records.Rec.{Rec}
use Rattle.kern_model.specs.declared.records.Rec.TheVariants as rec
use Rattle.kern_model.specs.declared.world.ScriptItem.{ScriptItem}
use Rattle.kern_model.specs.Isolation.{any_crosses, low}
use Rattle.kern_model.specs.Run.{CallRecord, run}
use Rattle.kern_model.specs.State.{State}
use Rattle.lab_text.specs.Policy.{PolicyNames}
use Rattle.cap_bits.specs.CapSet.{CapSet, no_caps, union_of}
use Rattle.least_caps.specs.Named.{named}
use Rattle.aud_record.specs.Written.{rec_text}
use Rattle.lab_engine.specs.declared.reporting.Report.{Report}
use Rattle.lab_engine.specs.declared.reporting.Report.TheVariants.{All, Below, Crossed, Counted, Named}
use Rattle.lab_engine.specs.declared.reporting.Shown.{Shown}
use Rattle.lab_engine.specs.declared.reporting.Shown.TheVariants as shown
use Rattle.lab_engine.specs.declared.reporting.Tally.{Tally}
use Rattle.lab_engine.specs.Order.{Sent, call_order, to_out, to_trail}
use Rattle.lab_engine.specs.Session.{call_bytes}
use Rattle.lab_engine.specs.Texts.{reply_text}

-- ---- what is kept

-- whether a call was done
abbrev pub is_done : Reply → Bool
is_done (reply.Done answer) = true
is_done _ = false

-- whether a check denied it
abbrev pub is_denied : Reply → Bool
is_denied (reply.Denied errno check place) = true
is_denied _ = false

-- whether another cause stopped it
abbrev pub is_refused : Reply → Bool
is_refused (reply.Refused errno) = true
is_refused _ = false

-- whether a record is an exercise of a capability
unfoldable pub is_exercise : Rec → Bool
is_exercise (rec.Exercise e) = true
is_exercise _ = false

-- how many exercises are among records
abbrev pub exercises : List Rec → ℕ
exercises recs = count_by is_exercise recs

-- a tally after calls
abbrev pub tally_of : Tally → List CallRecord → Tally
tally_of t calls = record {
  ok = t.ok + count_by (λ (p : CallRecord). is_done p.reply) calls;
  denied = t.denied + count_by (λ (p : CallRecord). is_denied p.reply) calls;
  refused = t.refused + count_by (λ (p : CallRecord). is_refused p.reply) calls;
  exercised = t.exercised + sum_by (λ (p : CallRecord). exercises p.recs) calls;
}

-- what is kept after a call
abbrev pub report_after_call : Report → CallRecord → Report
report_after_call All p = All
report_after_call (Below l k) p = cond (any_crosses l p.recs) Crossed (cond (low l p.who.label) (Below l (k + 1)) (Below l k))
report_after_call Crossed p = Crossed
report_after_call (Counted t) p = Counted (tally_of t (p ∷ []))
report_after_call (Named caps) p = Named (union_of caps (named p.recs))

-- what is kept after calls
unfoldable pub report_after : Report → List CallRecord → Report
report_after r [] = r
report_after r (p ∷ ps) = report_after (report_after_call r p) ps

-- none of the numbers of calls that are kept is greater
abbrev pub CountsAtMost : ℕ → Report → Type 0
CountsAtMost n All = Unit {0}
CountsAtMost n (Below l k) = k ≤ n
CountsAtMost n Crossed = Unit {0}
CountsAtMost n (Counted t) = (t.ok ≤ n) × (t.denied ≤ n) × (t.refused ≤ n)
CountsAtMost n (Named caps) = Unit {0}

-- ---- what is written

-- the line that is written in place of the reply of the first call that crosses a label
abbrev pub crossed_line : List ℕ
crossed_line = codes "crossed" ++ 10 ∷ []

-- what is written of the n-th call
unfoldable pub call_sends : Report → PolicyNames → ℕ → CallRecord → List Sent
call_sends All policy n p = call_order (call_bytes policy n p)
call_sends (Below l k) policy n p = cond (any_crosses l p.recs) (to_out crossed_line) (cond (low l p.who.label) (to_out (reply_text policy p)) [])
call_sends Crossed policy n p = []
call_sends (Counted t) policy n p = []
call_sends (Named caps) policy n p = []

-- what is written of calls from the n-th on
unfoldable pub sends_from : Report → PolicyNames → ℕ → List CallRecord → List Sent
sends_from r policy n [] = []
sends_from r policy n (p ∷ ps) = call_sends r policy n p ++ sends_from (report_after_call r p) policy (n + 1) ps

-- what is written of items that are played from a state on, after so many calls
abbrev pub items_reported : Report → PolicyNames → ℕ → State → List ScriptItem → List Sent
items_reported r policy count s items = sends_from r policy (count + 1) (run s items)

-- ---- by parts

-- a call that was played
abbrev pub call_record : Pid → List ℕ → declared.Outcome → CallRecord
call_record who head o = record { who = who; head = head; reply = o.reply; recs = o.recs }

-- what is written of a call of this process with these records
abbrev pub shown_of : Report → Pid → List Rec → Shown
shown_of All who recs = shown.Call
shown_of (Below l k) who recs = cond (any_crosses l recs) shown.Crossing (cond (low l who.label) shown.Reply shown.Nothing)
shown_of Crossed who recs = shown.Nothing
shown_of (Counted t) who recs = shown.Nothing
shown_of (Named caps) who recs = shown.Nothing

-- what is written before the reply
abbrev pub before_reply : Shown → PolicyNames → ℕ → List Rec → List Sent
before_reply shown.Call policy n recs = to_trail (flat_map (rec_text policy n) recs)
before_reply shown.Reply policy n recs = []
before_reply shown.Crossing policy n recs = to_out crossed_line
before_reply shown.Nothing policy n recs = []

-- whether the reply is written
abbrev pub has_reply : Shown → Bool
has_reply shown.Call = true
has_reply shown.Reply = true
has_reply shown.Crossing = false
has_reply shown.Nothing = false

-- ---- whole runs

-- the tally of no call
abbrev pub empty_tally : Tally
empty_tally = record { ok = 0; denied = 0; refused = 0; exercised = 0 }

-- the tally that is kept
abbrev pub tally_in : Report → Tally
tally_in (Counted t) = t
tally_in _ = empty_tally

-- the capabilities that are kept
abbrev pub caps_in : Report → CapSet
caps_in (Named caps) = caps
caps_in _ = no_caps
