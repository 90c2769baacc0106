-- The pieces of the generated text, none of which is empty, and what is left of them.
use Rattle.std.proofs.Common.{◌≡◌, ◌≢◌, ℕ, ◌+◌, ◌-◌, ◌<◌, ◌≤◌, min, List, [], ◌∷◌, ◌++◌, length, drop, take, map, refl, sym, ap, ◌∙◌, subst, arith, append_assoc, append-nil, length-append, Result, Ok, Err, false}
use Rattle.std.specs.Prelude.{OnOk}
use Rattle.std.specs.List.{concat}
use Rattle.std.specs.Result.{is_err}
use Rattle.std.proofs.lemmas.List.{drop-drop, length-drop, nil_from_length, take_rest}
use Rattle.std.proofs.lemmas.List.Elements.{All-cons, All-drop, All-head, All-map}
use Rattle.gen_world.specs.Calls.{with_line_feed}
use Rattle.gen_world.specs.Text.{head_lines, lines_after, pieces}
use Rattle.lab_engine.specs.Generated.{NoneEmpty}

-- a line has its line feed
ended_some : (line : List ℕ) → 0 < length (with_line_feed line)
ended_some line = omega (arith, length-append line (10 ∷ []))

-- no piece of the generated text is empty
pub pieces_some : (n : ℕ) → NoneEmpty (pieces n)
pieces_some n =
    let lines = lines_after n n in
    All-cons (λ piece. 0 < length piece) (concat (map with_line_feed head_lines)) (map with_line_feed lines) (omega arith) (All-map (λ piece. 0 < length piece) with_line_feed lines (λ k d in'. ended_some _))

-- what is left is the rest of a piece and the pieces after it, and the piece is used up only where these are too
pub record Ready (left : List ℕ) (at : ℕ) (piece : List ℕ) (after : List (List ℕ)) : Type 0 where
  pub left_is : left ≡ drop at piece ++ concat after
  pub within : at ≤ length piece
  pub some : NoneEmpty after
  pub at_end : at ≡ length piece → after ≡ []

-- a piece that is not used up
pub still_ready : (left : List ℕ) (at : ℕ) (piece : List ℕ) (after : List (List ℕ)) → drop at piece ++ concat after ≡ left → at ≤ length piece → NoneEmpty after → at ≢ length piece → Ready left at piece after
still_ready left at piece after e within some more = record { left_is = sym e; within = within; some = some; at_end = λ is. absurd (more is) }

-- the next piece, where one was used up
pub next_ready : (left : List ℕ) (at : ℕ) (before piece : List ℕ) (pieces after : List (List ℕ)) → drop at before ++ concat pieces ≡ left → at ≡ length before → NoneEmpty pieces
    → piece ≡ concat (take 1 pieces) → after ≡ drop 1 pieces → Ready left 0 piece after
next_ready left at before piece pieces after e used some made rest =
    let none : drop at before ≡ [] = nil_from_length (drop at before) (omega (arith, length-drop at before)) in
    let all : concat pieces ≡ left = ap (λ (r : List ℕ). r ++ concat pieces) (sym none) ∙ e in
    record {
      left_is = sym all ∙ joined pieces ∙ ap (λ (r : List ℕ). r ++ concat (drop 1 pieces)) (sym made) ∙ ap (λ (ps : List (List ℕ)). piece ++ concat ps) (sym rest);
      within = omega arith;
      some = subst NoneEmpty (sym rest) (All-drop (λ p. 0 < length p) 1 pieces some);
      at_end = λ is. rest ∙ last pieces some (ap length (sym made) ∙ sym is);
    }
  where
    joined : (pieces : List (List ℕ)) → concat pieces ≡ concat (take 1 pieces) ++ concat (drop 1 pieces)
    joined [] = refl
    joined (p ∷ pieces) = ap (λ (r : List ℕ). r ++ concat pieces) (sym (append-nil p))

    last : (pieces : List (List ℕ)) → NoneEmpty pieces → length (concat (take 1 pieces)) ≡ 0 → drop 1 pieces ≡ []
    last [] some none = refl
    last (p ∷ pieces) some none = absurd (omega (arith, none, ap length (append-nil p), All-head (λ p. 0 < length p) p pieces some))

-- the clause of a call that gave no error
pub given_ok : {T E : Type 0} (P : Type 0) (r : Result T E) → false ≡ is_err r → OnOk r P → P
given_ok P (Ok x) ok p = p
given_ok P (Err e) ok p = absurd (cc)

-- as many bytes as fit were copied from the piece
pub record Copies (count : ℕ) (buf rest : List ℕ) : Type 0 where
  pub count_is : count ≡ min (length buf) (length rest)
  pub whole : rest ≡ take count buf ++ drop count rest

-- what a copy says of the rest of a piece
pub copies_rest : (count : ℕ) (buf : List ℕ) (at : ℕ) (now piece : List ℕ) → now ≡ piece → count ≡ min (length buf) (length (take (length now - at) (drop at now)))
    → take (length now - at) (drop at now) ≡ take count buf ++ drop count (take (length now - at) (drop at now)) → Copies count buf (drop at piece)
copies_rest count buf at now piece is e whole =
    let rest : take (length now - at) (drop at now) ≡ drop at piece = take_rest now at ∙ ap (drop at) is in
    record {
      count_is = e ∙ ap (λ (r : List ℕ). min (length buf) (length r)) rest;
      whole = sym rest ∙ whole ∙ ap (λ (r : List ℕ). take count buf ++ drop count r) rest;
    }

module _ (left : List ℕ) (at : ℕ) (piece : List ℕ) (after : List (List ℕ)) (ready : Ready left at piece after) (count : ℕ) (buf : List ℕ) (copies : Copies count buf (drop at piece)) where
  -- the bytes that were copied are within the piece
  pub stays_within : (at + count ≤ length piece) × NoneEmpty after
  stays_within = (omega (arith, copies.count_is, length-drop at piece, ready.within), ready.some)

  -- they are the first bytes that were left, and there are none only where nothing is left or there is no room
  pub consumes : (left ≡ take count buf ++ (drop (at + count) piece ++ concat after)) × (count ≡ 0 → 0 < length buf → drop (at + count) piece ++ concat after ≡ [])
  consumes =
      let split = copies.whole ∙ ap (λ (r : List ℕ). take count buf ++ r) (drop-drop count at piece) in (
        ready.left_is ∙ ap (λ (r : List ℕ). r ++ concat after) split ∙ append_assoc (take count buf) (drop (at + count) piece) (concat after),
        λ none room.
            let used : at ≡ length piece = omega (arith, copies.count_is, length-drop at piece, ready.within) in
            let gone : drop (at + count) piece ≡ [] = nil_from_length (drop (at + count) piece) (omega (arith, length-drop (at + count) piece)) in
            ap (λ (r : List ℕ). r ++ concat after) gone ∙ ap concat (ready.at_end used),
      )
