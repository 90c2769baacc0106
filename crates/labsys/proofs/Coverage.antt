-- A reply that was written has its records before it.
use Rattle.std.proofs.Common.{◌≡◌, ℕ, ◌+◌, ◌≤◌, ◌<◌, List, [], ◌∷◌, ◌++◌, length, take, suc, zero, refl, sym, ◌∙◌, ap, subst, append_assoc, arith}
use Rattle.std.proofs.lemmas.List.{append-nil, append_cancel_left, length-append}
use Rattle.std.specs.List.{flat_map, AllByRecursion}
use Rattle.kern_model.specs.Prefixes.{IsPrefix}
use Rattle.fs_path.specs.Words.{line_text}
use Rattle.kern_model.specs.Run.{CallRecord}
use Rattle.lab_text.specs.Policy.{PolicyNames}
use Rattle.line_text.specs.Words.{pid_text}
use Rattle.line_text.specs.Reply.{outcome_words, reply_line}
use Rattle.lab_engine.specs.Texts.{reply_text}
use Rattle.lab_engine.specs.Session.{Session, CallBytes, bytes_from, bytes_of, replies_of, records_of, head_text, tail_text}
use Rattle.lab_engine.specs.Order.{Sent, out_of, trail_of, to_out, to_trail, call_order, order_before_end, session_order}
use Rattle.lab_engine.proofs.Sending.{out_of-append, trail_of-append, out_of-to_out, out_of-to_trail, trail_of-to_out, trail_of-to_trail}

-- a prefix of `a ++ b` is a proper prefix of a, or a and then a prefix of b
pub data Split {X : Type 0} (a b prefix rest : List X) : Type 0 where
  Within : (more : List X) (a_is : a ≡ prefix ++ more) (some : 0 < length more) → Split a b prefix rest
  Past : (more : List X) (prefix_is : prefix ≡ a ++ more) (b_is : b ≡ more ++ rest) → Split a b prefix rest

pub split : {X : Type 0} (a b prefix rest : List X) → a ++ b ≡ prefix ++ rest → Split a b prefix rest
split [] b prefix rest e = Past prefix refl e
split (x ∷ a) b [] rest e = Within (x ∷ a) refl (omega arith)
split {X = X} (x ∷ a) b (y ∷ prefix) rest e =
    let h : x ≡ y = cc in
    let t : a ++ b ≡ prefix ++ rest = cc in
    elim (split a b prefix rest t) [
      | Within more a_is some ↦ Within more (ap (λ (z : List X). x ∷ z) a_is ∙ ap (λ q. q ∷ (prefix ++ more)) h) some
      | Past more prefix_is b_is ↦ Past more (ap (λ (z : List X). y ∷ z) prefix_is ∙ ap (λ q. q ∷ (a ++ more)) (sym h)) b_is
    ]

-- what each sink gets of records and what follows, and of a reply and what follows
pub out_after : (r : List ℕ) (x : List Sent) → out_of (to_trail r ++ x) ≡ out_of x
out_after r x = out_of-append (to_trail r) x ∙ ap (λ (z : List ℕ). z ++ out_of x) (out_of-to_trail r)

trail_after : (r : List ℕ) (x : List Sent) → trail_of (to_trail r ++ x) ≡ r ++ trail_of x
trail_after r x = trail_of-append (to_trail r) x ∙ ap (λ (z : List ℕ). z ++ trail_of x) (trail_of-to_trail r)

out_reply : (p : List ℕ) (x : List Sent) → out_of (to_out p ++ x) ≡ p ++ out_of x
out_reply p x = out_of-append (to_out p) x ∙ ap (λ (z : List ℕ). z ++ out_of x) (out_of-to_out p)

trail_reply : (p : List ℕ) (x : List Sent) → trail_of (to_out p ++ x) ≡ trail_of x
trail_reply p x = trail_of-append (to_out p) x ∙ ap (λ (z : List ℕ). z ++ trail_of x) (trail_of-to_out p)

-- ---- each sink alone

call_out : (t : CallBytes) (x : List Sent) → out_of (call_order t ++ x) ≡ t.reply ++ out_of x
unfolding call_order
call_out t x = ap out_of (append_assoc (to_trail t.recs) (to_out t.reply) x) ∙ out_after t.recs (to_out t.reply ++ x) ∙ out_reply t.reply x

call_trail : (t : CallBytes) (x : List Sent) → trail_of (call_order t ++ x) ≡ t.recs ++ trail_of x
unfolding call_order
call_trail t x = ap trail_of (append_assoc (to_trail t.recs) (to_out t.reply) x) ∙ trail_after t.recs (to_out t.reply ++ x) ∙ ap (λ (z : List ℕ). t.recs ++ z) (trail_reply t.reply x)

pub calls_out : (ts : List CallBytes) (tail : List ℕ) → out_of (flat_map call_order ts ++ to_out tail) ≡ replies_of ts ++ tail
calls_out [] tail = out_of-to_out tail
calls_out (t ∷ ts) tail =
    ap out_of (append_assoc (call_order t) (flat_map call_order ts) (to_out tail)) ∙ call_out t (flat_map call_order ts ++ to_out tail) ∙ ap (λ (z : List ℕ). t.reply ++ z) (calls_out ts tail) ∙ sym (append_assoc t.reply (replies_of ts) tail)

calls_trail : (ts : List CallBytes) (tail : List ℕ) → trail_of (flat_map call_order ts ++ to_out tail) ≡ records_of ts
calls_trail [] tail = trail_of-to_out tail
calls_trail (t ∷ ts) tail =
    ap trail_of (append_assoc (call_order t) (flat_map call_order ts) (to_out tail)) ∙ call_trail t (flat_map call_order ts ++ to_out tail) ∙ ap (λ (z : List ℕ). t.recs ++ z) (calls_trail ts tail)

pub session_out : (s : Session) → out_of (session_order s) ≡ replies_of (bytes_of s) ++ tail_text s
unfolding session_order
session_out s = out_after (head_text s) (flat_map call_order (bytes_of s) ++ to_out (tail_text s)) ∙ calls_out (bytes_of s) (tail_text s)

pub session_trail : (s : Session) → trail_of (session_order s) ≡ head_text s ++ records_of (bytes_of s)
unfolding session_order
session_trail s = trail_after (head_text s) (flat_map call_order (bytes_of s) ++ to_out (tail_text s)) ∙ ap (λ (z : List ℕ). head_text s ++ z) (calls_trail (bytes_of s) (tail_text s))

-- ---- each sink alone, up to the end of the output

pub replies_alone : (s : Session) → out_of (order_before_end s) ≡ replies_of (bytes_of s)
unfolding order_before_end to_out
replies_alone s =
    out_after (head_text s) (flat_map call_order (bytes_of s))
    ∙ ap out_of (sym (append-nil (flat_map call_order (bytes_of s))))
    ∙ calls_out (bytes_of s) []
    ∙ append-nil (replies_of (bytes_of s))

pub records_alone : (s : Session) → trail_of (order_before_end s) ≡ head_text s ++ records_of (bytes_of s)
unfolding order_before_end to_out
records_alone s =
    trail_after (head_text s) (flat_map call_order (bytes_of s))
    ∙ ap (λ (z : List ℕ). head_text s ++ z) (ap trail_of (sym (append-nil (flat_map call_order (bytes_of s)))) ∙ calls_trail (bytes_of s) [])

-- ---- no reply line is empty

reply_pos : (policy : PolicyNames) (p : CallRecord) → 0 < length (reply_text policy p)
unfolding reply_text reply_line
reply_pos policy p = omega (arith, length-append (line_text (pid_text policy p.who ∷ p.head ∷ outcome_words policy p.reply)) (10 ∷ []))

-- each call has a reply
abbrev AllReply : List CallBytes → Type 0
AllReply ts = AllByRecursion (λ (t : CallBytes). 0 < length t.reply) ts

all_reply : (policy : PolicyNames) (n : ℕ) (ps : List CallRecord) → AllReply (bytes_from policy n ps)
unfolding bytes_from
all_reply policy n [] = tt
all_reply policy n (p ∷ ps) = (reply_pos policy p, all_reply policy (n + 1) ps)

replies_pos : (ts : List CallBytes) (m : ℕ) → AllReply ts → suc m ≤ length ts → 0 < length (replies_of (take (suc m) ts))
replies_pos [] m all le = absurd (omega arith)
replies_pos (t ∷ ts) m all le = let p = all.0 in omega (arith, length-append t.reply (replies_of (take m ts)))

-- ---- prefixes

empty_back : (xs ys : List ℕ) → xs ++ ys ≡ [] → ys ≡ []
empty_back [] ys e = e
empty_back (x ∷ xs) ys e = absurd (cc)

only_prefix : (xs ys zs : List ℕ) → ys ≡ [] → xs ++ ys ≡ zs → xs ≡ zs
only_prefix xs ys zs none e = sym (append-nil xs) ∙ ap (λ (z : List ℕ). xs ++ z) (sym none) ∙ e

-- records add nothing to the output
none_out : (r : List ℕ) (x y : List Sent) → to_trail r ≡ x ++ y → length (out_of x) ≡ 0
none_out r x y e = let h = ap length (sym (out_of-to_trail r) ∙ ap out_of e ∙ out_of-append x y) in omega (arith, h, length-append (out_of x) (out_of y))

some_out : (p : List ℕ) (x y : List Sent) → to_out p ≡ x ++ y → length (out_of x) ≤ length p
some_out p x y e = let h = ap length (sym (out_of-to_out p) ∙ ap out_of e ∙ out_of-append x y) in omega (arith, h, length-append (out_of x) (out_of y))

none_trail : (p : List ℕ) (x y : List Sent) → to_out p ≡ x ++ y → length (trail_of x) ≡ 0
none_trail p x y e = let h = ap length (sym (trail_of-to_out p) ∙ ap trail_of e ∙ trail_of-append x y) in omega (arith, h, length-append (trail_of x) (trail_of y))

-- the rest of a reply adds nothing to the trail
none_after : (p : List ℕ) (x y : List Sent) → to_out p ≡ x ++ y → trail_of y ≡ []
none_after p x y e = empty_back (trail_of x) (trail_of y) (sym (sym (trail_of-to_out p) ∙ ap trail_of e ∙ trail_of-append x y))

some_trail : (r : List ℕ) (x y : List Sent) → to_trail r ≡ x ++ y → length (trail_of x) ≤ length r
some_trail r x y e = let h = ap length (sym (trail_of-to_trail r) ∙ ap trail_of e ∙ trail_of-append x y) in omega (arith, h, length-append (trail_of x) (trail_of y))

-- the first call's records, its reply, and what is after them
call_parts : (t : CallBytes) (ts : List CallBytes) (tail : List ℕ) → flat_map call_order (t ∷ ts) ++ to_out tail ≡ to_trail t.recs ++ (to_out t.reply ++ (flat_map call_order ts ++ to_out tail))
unfolding call_order
call_parts t ts tail =
    append_assoc (to_trail t.recs ++ to_out t.reply) (flat_map call_order ts) (to_out tail) ∙ append_assoc (to_trail t.recs) (to_out t.reply) (flat_map call_order ts ++ to_out tail)

after_records : (t : CallBytes) (ts : List CallBytes) (after x rest : List Sent) → AllReply ts
    → (covers : (z rest : List Sent) → after ≡ z ++ rest → (m : ℕ) → suc m ≤ length ts → IsPrefix (replies_of (take (suc m) ts)) (out_of z) → IsPrefix (records_of (take (suc m) ts)) (trail_of z))
    → to_out t.reply ++ after ≡ x ++ rest
    → (sent : List Sent) → sent ≡ to_trail t.recs ++ x
    → (m : ℕ) → suc m ≤ length (t ∷ ts) → IsPrefix (replies_of (take (suc m) (t ∷ ts))) (out_of sent) → IsPrefix (records_of (take (suc m) (t ∷ ts))) (trail_of sent)
after_records t ts after x rest all covers eq sent is zero le f = record {
  rest = trail_of x;
  whole_is = ap trail_of is ∙ trail_after t.recs x ∙ ap (λ (z : List ℕ). z ++ trail_of x) (sym (append-nil t.recs));
}
after_records t ts after x rest all covers eq sent is (suc m) le f =
    let r = t.recs in
    let p = t.reply in
    let reps = replies_of (take (suc m) ts) in
    let out_x : out_of x ≡ (p ++ reps) ++ f.rest = sym (out_after r x) ∙ ap out_of (sym is) ∙ f.whole_is in
    let fewer : suc m ≤ length ts = omega arith in
    let more = replies_pos ts m all fewer in
    elim (split (to_out p) after x rest eq) [
      | Within y a_is _ ↦ absurd (omega (arith, some_out p x y a_is, ap length out_x, length-append (p ++ reps) f.rest, length-append p reps))
      | Past z prefix_is b_is ↦
          let out_z : out_of z ≡ reps ++ f.rest = append_cancel_left p (out_of z) (reps ++ f.rest) (sym (out_reply p z) ∙ ap out_of (sym prefix_is) ∙ out_x ∙ append_assoc p reps f.rest) in
          let next : IsPrefix (records_of (take (suc m) ts)) (trail_of z) = covers z rest b_is m fewer (record { rest = f.rest; whole_is = out_z }) in
          record {
            rest = next.rest;
            whole_is = ap trail_of is ∙ trail_after r x ∙ ap (λ (q : List ℕ). r ++ q) (ap trail_of prefix_is ∙ trail_reply p z ∙ next.whole_is) ∙ sym (append_assoc r _ next.rest);
          }
    ]

covered_from : (ts : List CallBytes) (tail : List ℕ) (sent rest : List Sent) → AllReply ts → flat_map call_order ts ++ to_out tail ≡ sent ++ rest
    → (m : ℕ) → suc m ≤ length ts → IsPrefix (replies_of (take (suc m) ts)) (out_of sent) → IsPrefix (records_of (take (suc m) ts)) (trail_of sent)
covered_from [] tail sent rest all eq m le f = absurd (omega arith)
covered_from (t ∷ ts) tail sent rest all eq m le f =
    let after = flat_map call_order ts ++ to_out tail in
    let pos = all.0 in
    elim (split (to_trail t.recs) (to_out t.reply ++ after) sent rest (sym (call_parts t ts tail) ∙ eq)) [
      | Within y a_is _ ↦ absurd (omega (arith, none_out t.recs sent y a_is, ap length f.whole_is, length-append (t.reply ++ replies_of (take m ts)) f.rest, length-append t.reply (replies_of (take m ts))))
      | Past x prefix_is b_is ↦ after_records t ts after x rest all.1 (λ z rest h m le f. covered_from ts tail z rest all.1 h m le f) b_is sent prefix_is m le f
    ]

-- the same after the head of the trail
covered_after : (head : List ℕ) (ts : List CallBytes) (tail : List ℕ) (sent rest : List Sent) → AllReply ts → to_trail head ++ (flat_map call_order ts ++ to_out tail) ≡ sent ++ rest
    → (m : ℕ) → suc m ≤ length ts → IsPrefix (replies_of (take (suc m) ts)) (out_of sent) → IsPrefix (head ++ records_of (take (suc m) ts)) (trail_of sent)
covered_after head ts tail sent rest all e m le f =
    let pos = replies_pos ts m all le in
    elim (split (to_trail head) (flat_map call_order ts ++ to_out tail) sent rest e) [
      | Within y a_is _ ↦ absurd (omega (arith, none_out head sent y a_is, ap length f.whole_is, length-append (replies_of (take (suc m) ts)) f.rest))
      | Past x prefix_is b_is ↦
          let h : IsPrefix (replies_of (take (suc m) ts)) (out_of x) = record { rest = f.rest; whole_is = sym (out_after head x) ∙ ap out_of (sym prefix_is) ∙ f.whole_is } in
          let r = covered_from ts tail x rest all b_is m le h in
          record { rest = r.rest; whole_is = ap trail_of prefix_is ∙ trail_after head x ∙ ap (λ (q : List ℕ). head ++ q) r.whole_is ∙ sym (append_assoc head _ r.rest) }
    ]

-- a reply that was written has its call's records before it
pub covered : (s : Session) (sent rest : List Sent) → session_order s ≡ sent ++ rest → (k : ℕ) → k + 1 ≤ length (bytes_of s)
    → IsPrefix (replies_of (take (k + 1) (bytes_of s))) (out_of sent) → IsPrefix (head_text s ++ records_of (take (k + 1) (bytes_of s))) (trail_of sent)
unfolding session_order
covered s sent rest e k le f =
    let next : k + 1 ≡ suc k = omega arith in
    let less : suc k ≤ length (bytes_of s) = omega arith in
    let g : IsPrefix (replies_of (take (suc k) (bytes_of s))) (out_of sent) = subst (λ j. IsPrefix (replies_of (take j (bytes_of s))) (out_of sent)) next f in
    subst (λ j. IsPrefix (head_text s ++ records_of (take j (bytes_of s))) (trail_of sent)) (sym next)
    (covered_after (head_text s) (bytes_of s) (tail_text s) sent rest (all_reply s.policy 1 s.calls) e k less g)

replies_from : (ts : List CallBytes) (tail : List ℕ) (sent rest : List Sent) → flat_map call_order ts ++ to_out tail ≡ sent ++ rest
    → (m : ℕ) → m ≤ length ts → length (records_of (take m ts)) < length (trail_of sent) → IsPrefix (replies_of (take m ts)) (out_of sent)
replies_from ts tail sent rest eq zero le h = record { rest = out_of sent; whole_is = refl }
replies_from [] tail sent rest eq (suc m) le h = absurd (omega arith)
replies_from (t ∷ ts) tail sent rest eq (suc m) le h =
    let r = t.recs in
    let p = t.reply in
    let after = flat_map call_order ts ++ to_out tail in
    let recs = records_of (take m ts) in
    let all = length-append r recs in
    let fewer : m ≤ length ts = omega arith in
    elim (split (to_trail r) (to_out p ++ after) sent rest (sym (call_parts t ts tail) ∙ eq)) [
      | Within y a_is _ ↦ absurd (omega (arith, some_trail r sent y a_is))
      | Past x prefix_is b_is ↦
          elim (split (to_out p) after x rest b_is) [
            | Within y a_is _ ↦ absurd (omega (arith, none_trail p x y a_is, ap length (ap trail_of prefix_is ∙ trail_after r x), length-append r (trail_of x)))
            | Past z x_is z_is ↦
                let trail_is = ap length (ap trail_of prefix_is ∙ trail_after r x ∙ ap (λ (q : List ℕ). r ++ q) (ap trail_of x_is ∙ trail_reply p z)) in
                let more : length recs < length (trail_of z) = omega (arith, length-append r (trail_of z)) in
                let next = replies_from ts tail z rest z_is m fewer more in
                record {
                  rest = next.rest;
                  whole_is = ap out_of prefix_is ∙ out_after r x ∙ ap out_of x_is ∙ out_reply p z ∙ ap (λ (q : List ℕ). p ++ q) next.whole_is ∙ sym (append_assoc p (replies_of (take m ts)) next.rest);
                }
          ]
    ]

first_after : (head : List ℕ) (ts : List CallBytes) (tail : List ℕ) (sent rest : List Sent) → to_trail head ++ (flat_map call_order ts ++ to_out tail) ≡ sent ++ rest
    → (m : ℕ) → m ≤ length ts → length (head ++ records_of (take m ts)) < length (trail_of sent) → IsPrefix (replies_of (take m ts)) (out_of sent)
first_after head ts tail sent rest e m le h =
    let all = length-append head (records_of (take m ts)) in
    elim (split (to_trail head) (flat_map call_order ts ++ to_out tail) sent rest e) [
      | Within y a_is _ ↦ absurd (omega (arith, some_trail head sent y a_is))
      | Past x prefix_is b_is ↦
          let trail_is = ap length (ap trail_of prefix_is ∙ trail_after head x) in
          let more : length (records_of (take m ts)) < length (trail_of x) = omega (arith, length-append head (trail_of x)) in
          let r = replies_from ts tail x rest b_is m le more in
          record { rest = r.rest; whole_is = ap out_of prefix_is ∙ out_after head x ∙ r.whole_is }
    ]

-- a record is written only after the replies to the calls before it
pub replies_first : (s : Session) (sent rest : List Sent) → session_order s ≡ sent ++ rest → (k : ℕ) → k ≤ length (bytes_of s)
    → length (head_text s ++ records_of (take k (bytes_of s))) < length (trail_of sent) → IsPrefix (replies_of (take k (bytes_of s))) (out_of sent)
unfolding session_order
replies_first s sent rest e k le h = first_after (head_text s) (bytes_of s) (tail_text s) sent rest e k le h

-- ---- after the replies

-- an output that goes on after the replies has all records before it
pub recorded : (s : Session) (sent rest : List Sent) → session_order s ≡ sent ++ rest
    → length (replies_of (bytes_of s)) < length (out_of sent) → trail_of sent ≡ head_text s ++ records_of (bytes_of s)
unfolding session_order
recorded s sent rest e more =
    let cs = bytes_of s in
    let tail = tail_text s in
    let calls = to_trail (head_text s) ++ flat_map call_order cs in
    let parts : calls ++ to_out tail ≡ sent ++ rest = append_assoc (to_trail (head_text s)) (flat_map call_order cs) (to_out tail) ∙ e in
    let out_calls = ap length (sym (out_of-append calls (to_out tail)) ∙ ap out_of (append_assoc (to_trail (head_text s)) (flat_map call_order cs) (to_out tail)) ∙ out_after (head_text s) (flat_map call_order cs ++ to_out tail) ∙ calls_out cs tail) in
    elim (split calls (to_out tail) sent rest parts) [
      | Within y a_is _ ↦ absurd (omega (
        arith,
        out_calls,
        more,
        ap length (ap out_of a_is ∙ out_of-append sent y),
        length-append (out_of sent) (out_of y),
        length-append (out_of calls) (out_of (to_out tail)),
        ap length (out_of-to_out tail),
        length-append (replies_of cs) tail,
      ))
      | Past z prefix_is b_is ↦ only_prefix (trail_of sent) (trail_of rest) _ (none_after tail z rest b_is) (sym (trail_of-append sent rest) ∙ sym (ap trail_of e) ∙ session_trail s)
    ]
