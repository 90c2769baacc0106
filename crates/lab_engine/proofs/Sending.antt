-- Bytes that are sent one after another, each to its sink, and what a function leaves that sends them.
use Rattle.std.proofs.Common.{◌≡◌, ℕ, ◌+◌, ◌<◌, ◌≤◌, List, [], ◌∷◌, ◌++◌, length, take, drop, get_or, refl, sym, ◌∙◌, ap, subst, append_assoc, arith}
use Rattle.std.proofs.lemmas.List.{append-nil, take-append-drop, take_all, take_more, drop_more, map-append}
use Rattle.std.proofs.lemmas.Grind.{flat_map-append}
use Rattle.std.specs.Prelude.{Result, IsErrAnd, Ok, Err}
use Rattle.std.specs.List.{flat_map}
use Rattle.std.specs.Io.KnownBytes.{Appends}
use Rattle.std.proofs.KnownBytes.{Appends-nil, Appends-trans}
use Rattle.io_ends.specs.Faults.{AppendsPart, next_count}
use Rattle.io_ends.specs.Ends.{SinkView}
use Rattle.lab_engine.specs.declared.ending.Fault.{Fault}
use Rattle.lab_engine.specs.declared.ending.Fault.TheVariants.{Read, Write, Trail, NoMemory}
use Rattle.lab_engine.specs.Counts.{Counts, counts, counted_by}
use Rattle.lab_engine.specs.Order.{Sent, ToOut, ToTrail, out_of, trail_of, to_out, to_trail}
use Rattle.lab_engine.specs.Playing.{Ends, ends, faults_of, Sends, SendsPrefix, SendsAll, StopsBy, Writes}

-- ---- orders

pub out_of-append : (a b : List Sent) → out_of (a ++ b) ≡ out_of a ++ out_of b
unfolding out_of
out_of-append [] b = refl
out_of-append (ToOut x ∷ a) b = ap (λ (r : List ℕ). x ∷ r) (out_of-append a b)
out_of-append (ToTrail x ∷ a) b = out_of-append a b

pub trail_of-append : (a b : List Sent) → trail_of (a ++ b) ≡ trail_of a ++ trail_of b
unfolding trail_of
trail_of-append [] b = refl
trail_of-append (ToOut x ∷ a) b = trail_of-append a b
trail_of-append (ToTrail x ∷ a) b = ap (λ (r : List ℕ). x ∷ r) (trail_of-append a b)

pub out_of-to_out : (bs : List ℕ) → out_of (to_out bs) ≡ bs
unfolding out_of to_out
out_of-to_out [] = refl
out_of-to_out (b ∷ bs) = ap (λ (r : List ℕ). b ∷ r) (out_of-to_out bs)

pub out_of-to_trail : (bs : List ℕ) → out_of (to_trail bs) ≡ []
unfolding out_of to_trail
out_of-to_trail [] = refl
out_of-to_trail (b ∷ bs) = out_of-to_trail bs

pub trail_of-to_trail : (bs : List ℕ) → trail_of (to_trail bs) ≡ bs
unfolding trail_of to_trail
trail_of-to_trail [] = refl
trail_of-to_trail (b ∷ bs) = ap (λ (r : List ℕ). b ∷ r) (trail_of-to_trail bs)

pub trail_of-to_out : (bs : List ℕ) → trail_of (to_out bs) ≡ []
unfolding trail_of to_out
trail_of-to_out [] = refl
trail_of-to_out (b ∷ bs) = trail_of-to_out bs

pub to_out-append : (a b : List ℕ) → to_out (a ++ b) ≡ to_out a ++ to_out b
unfolding to_out
to_out-append a b = map-append (λ x. ToOut x) a b

pub to_trail-append : (a b : List ℕ) → to_trail (a ++ b) ≡ to_trail a ++ to_trail b
unfolding to_trail
to_trail-append a b = map-append (λ x. ToTrail x) a b

-- ---- bytes that went out

sends_nothing : (e : Ends) → Sends [] e e
unfolding out_of trail_of
sends_nothing e = record { to_out = Appends-nil e.out.held; to_trail = Appends-nil e.trail.held }

pub sends_more : (a b : List Sent) (e f g : Ends) → Sends a e f → Sends b f g → Sends (a ++ b) e g
sends_more a b e f g x y = record {
  to_out = subst (λ bs. Appends e.out.held g.out.held bs) (sym (out_of-append a b)) (Appends-trans e.out.held f.out.held g.out.held _ _ x.to_out y.to_out);
  to_trail = subst (λ bs. Appends e.trail.held g.trail.held bs) (sym (trail_of-append a b)) (Appends-trans e.trail.held f.trail.held g.trail.held _ _ x.to_trail y.to_trail);
}

-- nothing went out, whatever the source counted
pub prefix_nothing : (order : List Sent) (n m : ℕ) (out trail : SinkView) → SendsPrefix order (ends n out trail) (ends m out trail)
unfolding out_of trail_of
prefix_nothing order n m out trail = record { sent = []; rest = order; prefix = refl; sends = record { to_out = Appends-nil out.held; to_trail = Appends-nil trail.held } }

-- a prefix after what went out
pub prefix_after : (a b : List Sent) (e f g : Ends) → Sends a e f → SendsPrefix b f g → SendsPrefix (a ++ b) e g
prefix_after a b e f g s p = record {
  sent = a ++ p.sent;
  rest = p.rest;
  prefix = ap (λ (x : List Sent). a ++ x) p.prefix ∙ sym (append_assoc a p.sent p.rest);
  sends = sends_more a p.sent e f g s p.sends;
}

-- a prefix of a longer order
pub prefix_longer : (a b : List Sent) (e f : Ends) → SendsPrefix a e f → SendsPrefix (a ++ b) e f
prefix_longer a b e f p = record {
  sent = p.sent;
  rest = p.rest ++ b;
  prefix = ap (λ (x : List Sent). x ++ b) p.prefix ∙ append_assoc p.sent p.rest b;
  sends = p.sends;
}

-- ---- orders that were written, whole or up to a fault

pub all_nothing : (e : Ends) → SendsAll [] e e
all_nothing e = record { sends = sends_nothing e; no_fault = refl }

pub all_more : (a b : List Sent) (e f g : Ends) → SendsAll a e f → SendsAll b f g → SendsAll (a ++ b) e g
all_more a b e f g x y = record { sends = sends_more a b e f g x.sends y.sends; no_fault = y.no_fault ∙ x.no_fault }

pub stops_longer : (fault : Fault) (a b : List Sent) (e f : Ends) → StopsBy fault a e f → StopsBy fault (a ++ b) e f
stops_longer fault a b e f s = record { sends = prefix_longer a b e f s.sends; one_fault = s.one_fault }

pub stops_after : (fault : Fault) (a b : List Sent) (e f g : Ends) → SendsAll a e f → StopsBy fault b f g → StopsBy fault (a ++ b) e g
stops_after fault a b e f g x s = record { sends = prefix_after a b e f g x.sends s.sends; one_fault = s.one_fault ∙ ap (counted_by fault) x.no_fault }

-- out of memory before any byte
pub stops_at_once : (order : List Sent) (e : Ends) → StopsBy NoMemory order e e
unfolding counted_by
stops_at_once order e = record { sends = prefix_nothing order e.source e.source e.out e.trail; one_fault = refl }

-- a fault that leaves the count of the source as it was is no failed read
pub not_a_read : (fault : Fault) (order : List Sent) (out out' trail trail' : SinkView) → StopsBy fault order (ends 0 out trail) (ends 0 out' trail') → fault ≡ Read → ⊥
unfolding counted_by
not_a_read fault order out out' trail trail' stop is =
    let once = subst (λ q. faults_of (ends 0 out' trail') ≡ counted_by q (faults_of (ends 0 out trail))) is stop.one_fault in
    let zero : 0 ≡ 1 = ap (λ (c : Counts). c.source) once in
    absurd (omega (arith, zero))

-- ---- what a function leaves

-- a function stops by the fault of its step
pub passes_on : {T : Type 0} (r : Result T Fault) (fault : Fault) (order : List Sent) (e f : Ends) → StopsBy fault order e f → IsErrAnd r (λ x. x ≡ fault) → Writes r order e f
passes_on (Ok x) fault order e f s is = absurd is
passes_on (Err x) fault order e f s is = subst (λ q. StopsBy q order e f) (sym is) s

pub out_of_memory : {T : Type 0} (r : Result T Fault) (order : List Sent) (e : Ends) → IsErrAnd r (λ x. x ≡ NoMemory) → Writes r order e e
out_of_memory r order e is = passes_on r NoMemory order e e (stops_at_once order e) is

-- a step stops, and nothing is written after it
pub stops : {T : Type 0} (r : Result T Fault) (fault : Fault) (a b : List Sent) (e f : Ends) → StopsBy fault a e f → IsErrAnd r (λ x. x ≡ fault) → Writes r (a ++ b) e f
stops r fault a b e f s is = passes_on r fault (a ++ b) e f (stops_longer fault a b e f s) is

-- the rest is written after what went out
pub goes_on : {T : Type 0} (r : Result T Fault) (a b : List Sent) (e f g : Ends) → SendsAll a e f → Writes r b f g → Writes r (a ++ b) e g
goes_on (Ok x) a b e f g s w = all_more a b e f g s w
goes_on (Err x) a b e f g s w = stops_after x a b e f g s w

pub in_order : {T : Type 0} (r : Result T Fault) (a b : List Sent) (e f : Ends) → a ≡ b → Writes r a e f → Writes r b e f
in_order r a b e f is w = subst (λ order. Writes r order e f) is w

-- what was written is a prefix of the order
pub prefix_of : {T : Type 0} (r : Result T Fault) (order : List Sent) (e f : Ends) → Writes r order e f → SendsPrefix order e f
prefix_of (Ok x) order e f w = record { sent = order; rest = []; prefix = sym (append-nil order); sends = w.sends }
prefix_of (Err x) order e f w = w.sends

-- ---- one sink

module _ (h h' : SinkView) (bs : List ℕ) where
  pub noted : Appends h.held h'.held bs → h'.faults ≡ h.faults → (source : ℕ) (out : SinkView) → SendsAll (to_trail bs) (ends source out h) (ends source out h')
  noted w still source out = record {
    sends = record {
      to_out = subst (λ r. Appends out.held out.held r) (sym (out_of-to_trail bs)) (Appends-nil out.held);
      to_trail = subst (λ r. Appends h.held h'.held r) (sym (trail_of-to_trail bs)) w;
    };
    no_fault = ap (counts source out.faults) still;
  }

  pub answered : Appends h.held h'.held bs → h'.faults ≡ h.faults → (source : ℕ) (trail : SinkView) → SendsAll (to_out bs) (ends source h trail) (ends source h' trail)
  answered w still source trail = record {
    sends = record {
      to_out = subst (λ r. Appends h.held h'.held r) (sym (out_of-to_out bs)) w;
      to_trail = subst (λ r. Appends trail.held trail.held r) (sym (trail_of-to_out bs)) (Appends-nil trail.held);
    };
    no_fault = ap (λ k. counts source k trail.faults) still;
  }

  -- a part of the piece went out
  pub note_stops : AppendsPart h.held h'.held bs → h'.faults ≡ next_count h.faults → (source : ℕ) (out : SinkView) → StopsBy Trail (to_trail bs) (ends source out h) (ends source out h')
  unfolding counted_by
  note_stops p once source out = record {
    sends = record {
      sent = to_trail p.part;
      rest = to_trail p.rest;
      prefix = ap to_trail p.piece_is ∙ to_trail-append p.part p.rest;
      sends = record {
        to_out = subst (λ r. Appends out.held out.held r) (sym (out_of-to_trail p.part)) (Appends-nil out.held);
        to_trail = subst (λ r. Appends h.held h'.held r) (sym (trail_of-to_trail p.part)) p.wrote;
      };
    };
    one_fault = ap (counts source out.faults) once;
  }

  pub answer_stops : AppendsPart h.held h'.held bs → h'.faults ≡ next_count h.faults → (source : ℕ) (trail : SinkView) → StopsBy Write (to_out bs) (ends source h trail) (ends source h' trail)
  unfolding counted_by
  answer_stops p once source trail = record {
    sends = record {
      sent = to_out p.part;
      rest = to_out p.rest;
      prefix = ap to_out p.piece_is ∙ to_out-append p.part p.rest;
      sends = record {
        to_out = subst (λ r. Appends h.held h'.held r) (sym (out_of-to_out p.part)) p.wrote;
        to_trail = subst (λ r. Appends trail.held trail.held r) (sym (trail_of-to_out p.part)) (Appends-nil trail.held);
      };
    };
    one_fault = ap (λ k. counts source k trail.faults) once;
  }

-- ---- one piece after another

module _ {X : Type 0} (send : List ℕ → List Sent) (parts : (a b : List ℕ) → send (a ++ b) ≡ send a ++ send b) (f : X → List ℕ) (xs : List X) (i : ℕ) (x : X) (lt : i < length xs) where
  pub with_next : send (flat_map f (take i xs)) ++ send (f (get_or xs i x)) ≡ send (flat_map f (take (i + 1) xs))
  with_next = sym (
      ap (λ (ys : List X). send (flat_map f ys)) (take_more xs i x lt)
      ∙ ap send (flat_map-append f (take i xs) (get_or xs i x ∷ []))
      ∙ parts (flat_map f (take i xs)) (f (get_or xs i x) ++ [])
      ∙ ap (λ (ys : List ℕ). send (flat_map f (take i xs)) ++ send ys) (append-nil (f (get_or xs i x))))

  pub with_rest : (send (flat_map f (take i xs)) ++ send (f (get_or xs i x))) ++ send (flat_map f (drop (i + 1) xs)) ≡ send (flat_map f xs)
  with_rest =
      let first = send (flat_map f (take i xs)) in
      sym (
      ap (λ (ys : List X). send (flat_map f ys)) (sym (take-append-drop i xs))
      ∙ ap send (flat_map-append f (take i xs) (drop i xs))
      ∙ parts (flat_map f (take i xs)) (flat_map f (drop i xs))
      ∙ ap (λ (ys : List X). first ++ send (flat_map f ys)) (drop_more xs i x lt)
      ∙ ap (λ (r : List Sent). first ++ r) (parts (f (get_or xs i x)) (flat_map f (drop (i + 1) xs)))
      ∙ sym (append_assoc first (send (f (get_or xs i x))) (send (flat_map f (drop (i + 1) xs)))))

  -- the next piece went out too
  pub one_more : (bs : List ℕ) (e e' e'' : Ends) → bs ≡ f (get_or xs i x) → SendsAll (send (flat_map f (take i xs))) e e' → SendsAll (send bs) e' e'' → SendsAll (send (flat_map f (take (i + 1) xs))) e e''
  one_more bs e e' e'' is s t =
      subst (λ order. SendsAll order e e'') (ap (λ (ys : List ℕ). send (flat_map f (take i xs)) ++ send ys) is ∙ with_next) (all_more (send (flat_map f (take i xs))) (send bs) e e' e'' s t)

  -- a fault cut the next piece off
  pub piece_stops : {T : Type 0} (r : Result T Fault) (fault : Fault) (bs : List ℕ) (e e' e'' : Ends) → bs ≡ f (get_or xs i x) → SendsAll (send (flat_map f (take i xs))) e e' → StopsBy fault (send bs) e' e'' → IsErrAnd r (λ q. q ≡ fault) → Writes r (send (flat_map f xs)) e e''
  piece_stops r fault bs e e' e'' is s t by =
      in_order r _ _ e e'' (ap (λ (ys : List ℕ). (send (flat_map f (take i xs)) ++ send ys) ++ send (flat_map f (drop (i + 1) xs))) is ∙ with_rest)
      (stops r fault _ _ e e'' (stops_after fault (send (flat_map f (take i xs))) (send bs) e e' e'' s t) by)

  -- there is no memory for the next piece
  pub piece_has_no_memory : {T : Type 0} (r : Result T Fault) (e e' : Ends) → SendsAll (send (flat_map f (take i xs))) e e' → IsErrAnd r (λ q. q ≡ NoMemory) → Writes r (send (flat_map f xs)) e e'
  piece_has_no_memory r e e' s by =
      in_order r _ _ e e' with_rest
      (stops r NoMemory _ _ e e' (stops_after NoMemory (send (flat_map f (take i xs))) (send (f (get_or xs i x))) e e' e' s (stops_at_once _ e')) by)

-- no piece is left
pub all_pieces : {X : Type 0} (send : List ℕ → List Sent) (f : X → List ℕ) (xs : List X) (i : ℕ) → length xs ≤ i → (order : List Sent) → send (flat_map f xs) ≡ order → (e e' : Ends) → SendsAll (send (flat_map f (take i xs))) e e' → SendsAll order e e'
all_pieces {X = X} send f xs i le order is e e' s = subst (λ (o : List Sent). SendsAll o e e') (ap (λ (ys : List X). send (flat_map f ys)) (take_all i xs le) ∙ is) s
