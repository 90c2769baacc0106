-- The pieces of a text between its line feeds, by what a reader of lines answers. The text may go on by any bytes that are still to be read.
use Rattle.std.proofs.Common.{◌≡◌, ℕ, ◌+◌, ◌-◌, ◌≤◌, ◌<◌, Bool, true, false, ◌==◌, ◌||◌, cond, not, nat_lt, List, [], ◌∷◌, ◌++◌, length, take, suc, refl, sym, ◌∙◌, ap, arith, append_assoc, length-append, subst}
use Rattle.std.proofs.lemmas.Bool.{lt-ltb}
use Rattle.std.proofs.lemmas.List.{append-nil, take_all}
use Rattle.std.specs.List.{onto_first, position_or_len, slice_split}
use Rattle.std.proofs.lemmas.Bool.Decides.{nat_tests}
use Rattle.fs_path.specs.declared.words.TheConstants.{MAX_LINE}
use Rattle.io_ends.specs.Lines.{first_line, GivesLine, has_line_feed, HoldsLongLine, HoldsPart}
use Rattle.io_ends.specs.LinesState.{LinesState}
use Rattle.io_ends.proofs.LineLemmas.{length_first_line, take_on}

-- ---- the pieces of a text

-- a line and its line feed before a text are the first piece
pieces_after : (line text : List ℕ) → has_line_feed line ≡ false → slice_split (λ b. b == 10) (line ++ 10 ∷ text) ≡ line ∷ slice_split (λ b. b == 10) text
pieces_after [] text none = refl
pieces_after (x ∷ line) text none = by_first (x == 10) none (pieces_after line text)
  where
    by_first : (v : Bool) → (v || has_line_feed line) ≡ false → (has_line_feed line ≡ false → slice_split (λ b. b == 10) (line ++ 10 ∷ text) ≡ line ∷ slice_split (λ b. b == 10) text)
        → cond v ([] ∷ slice_split (λ b. b == 10) (line ++ 10 ∷ text)) (onto_first x (slice_split (λ b. b == 10) (line ++ 10 ∷ text))) ≡ (x ∷ line) ∷ slice_split (λ b. b == 10) text
    by_first true none rest = absurd (cc)
    by_first false none rest = ap (onto_first x) (rest none)

-- a text without a line feed is one piece
one_piece : (text : List ℕ) → has_line_feed text ≡ false → slice_split (λ b. b == 10) text ≡ text ∷ []
one_piece [] none = refl
one_piece (x ∷ text) none = by_first (x == 10) none (one_piece text)
  where
    by_first : (v : Bool) → (v || has_line_feed text) ≡ false → (has_line_feed text ≡ false → slice_split (λ b. b == 10) text ≡ text ∷ [])
        → cond v ([] ∷ slice_split (λ b. b == 10) text) (onto_first x (slice_split (λ b. b == 10) text)) ≡ (x ∷ text) ∷ []
    by_first true none rest = absurd (cc)
    by_first false none rest = ap (onto_first x) (rest none)

-- the first piece of a text is its first line
first_piece : (text : List ℕ) → (ps : List (List ℕ)) × (slice_split (λ b. b == 10) text ≡ first_line text ∷ ps)
first_piece [] = ([], refl)
first_piece (x ∷ text) = by_first (x == 10) (first_piece text)
  where
    by_first : (v : Bool) → (ps : List (List ℕ)) × (slice_split (λ b. b == 10) text ≡ first_line text ∷ ps)
        → (ps : List (List ℕ)) × (cond v ([] ∷ slice_split (λ b. b == 10) text) (onto_first x (slice_split (λ b. b == 10) text)) ≡ take (cond (not v) (1 + position_or_len (λ b. b == 10) text) 0) (x ∷ text) ∷ ps)
    by_first true rest = (slice_split (λ b. b == 10) text, refl)
    by_first false rest =
        let more : suc (position_or_len (λ b. b == 10) text) ≡ 1 + position_or_len (λ b. b == 10) text = omega arith in
        (rest.0, ap (onto_first x) rest.1 ∙ ap (λ k. take k (x ∷ text) ∷ rest.0) more)

-- ---- a text that goes on

first_line_on : (text more : List ℕ) → position_or_len (λ b. b == 10) text ≤ position_or_len (λ b. b == 10) (text ++ more)
first_line_on [] more = omega arith
first_line_on (x ∷ text) more = by_first (x == 10) (first_line_on text more)
  where
    by_first : (v : Bool) → position_or_len (λ b. b == 10) text ≤ position_or_len (λ b. b == 10) (text ++ more)
        → cond (not v) (1 + position_or_len (λ b. b == 10) text) 0 ≤ cond (not v) (1 + position_or_len (λ b. b == 10) (text ++ more)) 0
    by_first true le = omega arith
    by_first false le = omega arith

less_same : (a b c d k : ℕ) → a ≡ k + c → b ≡ k + d → nat_lt a b ≡ nat_lt c d
less_same a b c d k e f = grind (arith, nat_tests)

-- ---- the laws

module _ (text : List ℕ) (room : ℕ) (now : LinesState) (gives : GivesLine text room now) (more : List ℕ) where
  goes_on : text ++ more ≡ now.line ++ 10 ∷ (now.held ++ more)
  goes_on = ap (λ (r : List ℕ). r ++ more) gives.text_is ∙ append_assoc now.line (10 ∷ now.held) more

  -- a line that was given is the first piece, and the others are those of what is held
  pub pieces_line : slice_split (λ b. b == 10) (take room (text ++ more)) ≡ now.line ∷ slice_split (λ b. b == 10) (take now.room (now.held ++ more))
  pieces_line =
      let rest = 10 ∷ (now.held ++ more) in
      let size = gives.room_is in
      let long : length now.line ≤ room = omega arith in
      let left : room - length now.line ≡ suc now.room = omega arith in
      let split : take room (text ++ more) ≡ now.line ++ 10 ∷ take now.room (now.held ++ more) =
      ap (take room) goes_on ∙ take_on room now.line rest ∙ ap (λ (r : List ℕ). r ++ take (room - length now.line) rest) (take_all room now.line long) ∙ ap (λ k. now.line ++ take k rest) left
      in
      ap (slice_split (λ b. b == 10)) split ∙ pieces_after now.line (take now.room (now.held ++ more)) gives.one_line

  -- the text goes on past the limit where what is held does
  pub over_line : nat_lt room (length (text ++ more)) ≡ nat_lt now.room (length (now.held ++ more))
  over_line =
      let size = gives.room_is in
      let all : length (text ++ more) ≡ length now.line + suc (length (now.held ++ more)) = ap length goes_on ∙ length-append now.line (10 ∷ (now.held ++ more)) in
      less_same _ _ _ _ (length now.line + 1) (omega arith) (omega arith)

-- a part of a line is the only piece
pub pieces_part : (text : List ℕ) (room : ℕ) → HoldsPart text room → slice_split (λ b. b == 10) (take room text) ≡ take room text ∷ []
pieces_part text room part = one_piece (take room text) part.no_line

-- past the limit nothing counts
pub pieces_past : (text : List ℕ) (room : ℕ) → HoldsPart text room → room < length text → (more : List ℕ) → slice_split (λ b. b == 10) (take room (text ++ more)) ≡ take room text ∷ []
pieces_past text room part past more =
    let none : room - length text ≡ 0 = omega arith in
    let same : take room (text ++ more) ≡ take room text = take_on room text more ∙ ap (λ k. take room text ++ take k more) none ∙ append-nil (take room text) in
    ap (slice_split (λ b. b == 10)) same ∙ pieces_part text room part

pub over_past : (text : List ℕ) (room : ℕ) → room < length text → (more : List ℕ) → nat_lt room (length (text ++ more)) ≡ true
over_past text room past more = lt-ltb room (length (text ++ more)) (omega (arith, length-append text more))

-- the first piece stays too long
pub pieces_long : (text : List ℕ) (room : ℕ) → HoldsLongLine text room → (more : List ℕ)
    → (line : List ℕ) × (ps : List (List ℕ)) × (slice_split (λ b. b == 10) (take room (text ++ more)) ≡ line ∷ ps) × (MAX_LINE < length line)
pieces_long text room long more =
    let all = take room (text ++ more) in
    let on = first_line_on (take room text) (take (room - length text) more) in
    let more : position_or_len (λ b. b == 10) (take room text) ≤ position_or_len (λ b. b == 10) all = subst (λ (r : List ℕ). position_or_len (λ b. b == 10) (take room text) ≤ position_or_len (λ b. b == 10) r) (sym (take_on room text more)) on in
    let first = first_piece all in
    let before : MAX_LINE < length (first_line (take room text)) = long in
    (first_line all, first.0, first.1, omega (arith, length_first_line all, length_first_line (take room text)))
