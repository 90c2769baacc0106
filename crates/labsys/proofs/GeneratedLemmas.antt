-- A generated text that is written piece by piece.
use Rattle.std.proofs.Common.{◌≡◌, ◌↔◌, ℕ, ◌<◌, Bool, true, false, List, [], ◌∷◌, ◌++◌, length, take, drop, refl, sym, ◌∙◌, ap, subst, append_assoc, arith}
use Rattle.std.proofs.lemmas.List.{append-nil}
use Rattle.std.specs.Prelude.{Result, IsErrAnd, IsTrue}
use Rattle.std.specs.List.{concat}
use Rattle.io_ends.specs.Ends.{SinkView}
use Rattle.gen_world.specs.Text.{gen_text, pieces}
use Rattle.gen_world.proofs.TextLaws.{pieces_joined}
use Rattle.lab_engine.specs.declared.ending.Fault.{Fault}
use Rattle.lab_engine.specs.declared.ending.Fault.TheVariants.{NoMemory}
use Rattle.lab_engine.specs.Order.{Sent, to_out}
use Rattle.lab_engine.specs.Playing.{SendsAll, StopsBy, Writes, ends}
use Rattle.lab_engine.proofs.Sending.{all_more, all_nothing, in_order, passes_on, stops_after, stops_at_once, stops_longer, to_out-append}

-- a part of a text was written, and the pieces that are left are the rest
pub record Gave (text : List ℕ) (left : List (List ℕ)) (before after : SinkView) : Type 0 where
  pub given : List ℕ
  pub whole : given ++ concat left ≡ text
  pub sends : (source : ℕ) (trail : SinkView) → SendsAll (to_out given) (ends source before trail) (ends source after trail)

pub nothing_given : (n : ℕ) (left : List (List ℕ)) (out : SinkView) → left ≡ pieces n → Gave (gen_text n) left out out
unfolding to_out
nothing_given n left out is = record { given = []; whole = ap concat is ∙ pieces_joined n; sends = λ source trail. all_nothing _ }

next_piece : (left : List (List ℕ)) → concat (take 1 left) ++ concat (drop 1 left) ≡ concat left
next_piece [] = refl
next_piece (p ∷ ps) = ap (λ (x : List ℕ). x ++ concat ps) (append-nil p)

module _ (text : List ℕ) (left : List (List ℕ)) (before now : SinkView) (g : Gave text left before now) where
  -- the order, split at what was written
  at_given : to_out g.given ++ to_out (concat left) ≡ to_out text
  at_given = sym (to_out-append g.given (concat left)) ∙ ap to_out g.whole

  -- out of memory for the next piece
  pub piece_memory : {T : Type 0} (r : Result T Fault) → IsErrAnd r (λ q. q ≡ NoMemory) → (source : ℕ) (trail : SinkView) → Writes r (to_out text) (ends source before trail) (ends source now trail)
  piece_memory r is source trail =
      in_order r _ _ _ _ at_given (passes_on r NoMemory _ _ _ (stops_after NoMemory (to_out g.given) (to_out (concat left)) _ _ _ (g.sends source trail) (stops_at_once _ _)) is)

  module _ (piece : List ℕ) (is_next : piece ≡ concat (take 1 left)) (after : SinkView) where
    with_piece : (g.given ++ piece) ++ concat (drop 1 left) ≡ text
    with_piece =
        append_assoc g.given piece (concat (drop 1 left))
        ∙ ap (λ (x : List ℕ). g.given ++ (x ++ concat (drop 1 left))) is_next
        ∙ ap (λ (x : List ℕ). g.given ++ x) (next_piece left) ∙ g.whole

    -- the next piece was written
    pub piece_given : (rest : List (List ℕ)) → rest ≡ drop 1 left → ((source : ℕ) (trail : SinkView) → SendsAll (to_out piece) (ends source now trail) (ends source after trail)) → Gave text rest before after
    piece_given rest is sends = record {
      given = g.given ++ piece;
      whole = ap (λ (x : List (List ℕ)). (g.given ++ piece) ++ concat x) is ∙ with_piece;
      sends = λ source trail. subst (λ (o : List Sent). SendsAll o (ends source before trail) (ends source after trail)) (sym (to_out-append g.given piece))
          (all_more (to_out g.given) (to_out piece) _ _ _ (g.sends source trail) (sends source trail));
    }

    -- a fault cut the next piece off
    pub piece_fails : {T : Type 0} (r : Result T Fault) (fault : Fault) → ((source : ℕ) (trail : SinkView) → StopsBy fault (to_out piece) (ends source now trail) (ends source after trail)) → IsErrAnd r (λ q. q ≡ fault)
        → (source : ℕ) (trail : SinkView) → Writes r (to_out text) (ends source before trail) (ends source after trail)
    piece_fails r fault stop is source trail =
        let rest : List Sent = to_out (concat (drop 1 left)) in
        let order : to_out g.given ++ (to_out piece ++ rest) ≡ to_out text =
        sym (append_assoc (to_out g.given) (to_out piece) rest) ∙ ap (λ (o : List Sent). o ++ rest) (sym (to_out-append g.given piece))
        ∙ sym (to_out-append (g.given ++ piece) (concat (drop 1 left))) ∙ ap to_out with_piece in
        in_order r _ _ _ _ order (passes_on r fault _ _ _ (stops_after fault (to_out g.given) (to_out piece ++ rest) _ _ _ (g.sends source trail) (stops_longer fault (to_out piece) rest _ _ (stop source trail))) is)

  -- no piece is left
  pub all_given : (more : Bool) → (IsTrue more ↔ (0 < length left)) → more ≡ false → (source : ℕ) (trail : SinkView) → SendsAll (to_out text) (ends source before trail) (ends source now trail)
  all_given more decides none source trail =
      let empty : concat left ≡ [] = no_piece left (λ some. let given : more ≡ true = decides.1 some in absurd (let same : true ≡ false = sym given ∙ none in cc)) in
      subst (λ (x : List ℕ). SendsAll (to_out x) (ends source before trail) (ends source now trail)) (sym (append-nil g.given) ∙ ap (λ (x : List ℕ). g.given ++ x) (sym empty) ∙ g.whole) (g.sends source trail)
    where
      no_piece : (xs : List (List ℕ)) → ((0 < length xs) → ⊥) → concat xs ≡ []
      no_piece [] none = refl
      no_piece (x ∷ xs) none = absurd (none (omega arith))

-- a piece that was appended to nothing
pub next_alone : (old piece next : List ℕ) → piece ≡ old ++ next → old ≡ [] → piece ≡ next
next_alone old piece next is none = is ∙ ap (λ (x : List ℕ). x ++ next) none

pub fewer_left : (left rest : List (List ℕ)) → rest ≡ drop 1 left → (more : Bool) → (IsTrue more ↔ (0 < length left)) → more ≡ true → length rest < length left
fewer_left left rest is more decides some = subst (λ (x : List (List ℕ)). length x < length left) (sym is) (fewer left (decides.0 some))
  where
    fewer : (xs : List (List ℕ)) → 0 < length xs → length (drop 1 xs) < length xs
    fewer [] some = absurd (omega (arith, some))
    fewer (x ∷ xs) some = omega arith
