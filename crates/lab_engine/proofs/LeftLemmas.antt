-- What is left at a reader of lines, by each of its answers, for any reading of it.
use Rattle.std.proofs.Common.{◌≡◌, ℕ, ◌+◌, ◌≤◌, ◌<◌, Bool, true, false, List, [], ◌∷◌, ◌++◌, length, take, refl, sym, ◌∙◌, ap, append_assoc, Option, Some, None}
use Rattle.std.proofs.lemmas.Bool.{le-ltb}
use Rattle.std.proofs.lemmas.List.{append-nil, take_all}
use Rattle.std.specs.Prelude.{nat_lt}
use Rattle.std.specs.Io.KnownBytes.{IsAtEnd}
use Rattle.fs_path.specs.Split.{pieces}
use Rattle.fs_path.specs.declared.words.TheConstants.{MAX_LINE}
use Rattle.io_ends.specs.Lines.{GivesLine, HoldsLongLine, HoldsPart}
use Rattle.io_ends.specs.LinesState.{LinesState}
use Rattle.io_ends.proofs.LineLaws.{over_line, over_past, pieces_line, pieces_long, pieces_part, pieces_past}
use Rattle.lab_engine.specs.Reading.{left_of}

-- at its end a source has nothing left
pub nothing_left : (left : Option (List ℕ)) → IsAtEnd left → left_of left ≡ []
nothing_left None h = refl
nothing_left (Some bytes) h = h

-- what a reading makes of what is left: of whether it goes on past the limit, of the number of its first line, and of its pieces
abbrev pub read_left : {X : Type 0} → (Bool → ℕ → List (List ℕ) → X) → LinesState → List ℕ → X
read_left reading s more = reading (nat_lt s.room (length (s.held ++ more))) (s.number + 1) (pieces 10 (take s.room (s.held ++ more)))

-- a reader took these bytes in a step
module _ {X : Type 0} (reading : Bool → ℕ → List (List ℕ) → X) (before now : LinesState) (got : List ℕ) (number : now.number ≡ before.number + 1) where
  abbrev text : List ℕ
  text = before.held ++ got

  -- what was left before the step, by the text and the bytes after it
  left_text : (more : List ℕ) → read_left reading before (got ++ more) ≡ reading (nat_lt before.room (length (text ++ more))) now.number (pieces 10 (take before.room (text ++ more)))
  left_text more =
      ap (λ (t : List ℕ). reading (nat_lt before.room (length t)) (before.number + 1) (pieces 10 (take before.room t))) (sym (append_assoc before.held got more))
      ∙ ap (λ k. reading (nat_lt before.room (length (text ++ more))) k (pieces 10 (take before.room (text ++ more)))) (sym number)

  -- a line was given
  pub left_line : GivesLine text before.room now → (more : List ℕ)
      → read_left reading before (got ++ more) ≡ reading (nat_lt now.room (length (now.held ++ more))) now.number (now.line ∷ pieces 10 (take now.room (now.held ++ more)))
  left_line gives more =
      left_text more
      ∙ ap (λ b. reading b now.number (pieces 10 (take before.room (text ++ more)))) (over_line text before.room now gives more)
      ∙ ap (reading (nat_lt now.room (length (now.held ++ more))) now.number) (pieces_line text before.room now gives more)

  -- nothing comes after the text
  no_more : (left : Option (List ℕ)) → IsAtEnd left → text ++ left_of left ≡ text
  no_more left end = ap (λ (m : List ℕ). text ++ m) (nothing_left left end) ∙ append-nil text

  -- the source ended within the limit
  pub left_part : HoldsPart text before.room → length text ≤ before.room → (left : Option (List ℕ)) → IsAtEnd left → read_left reading before (got ++ left_of left) ≡ reading false now.number (text ∷ [])
  left_part holds le left end =
      left_text (left_of left)
      ∙ ap (λ (t : List ℕ). reading (nat_lt before.room (length t)) now.number (pieces 10 (take before.room t))) (no_more left end)
      ∙ ap (λ b. reading b now.number (pieces 10 (take before.room text))) (le-ltb before.room (length text) le)
      ∙ ap (reading false now.number) (pieces_part text before.room holds ∙ ap (λ (t : List ℕ). t ∷ []) (take_all before.room text le))

  -- it goes on past the limit
  pub left_past : HoldsPart text before.room → before.room < length text → (left : Option (List ℕ)) → read_left reading before (got ++ left_of left) ≡ reading true now.number (take before.room text ∷ [])
  left_past holds past left =
      left_text (left_of left)
      ∙ ap (λ b. reading b now.number (pieces 10 (take before.room (text ++ left_of left)))) (over_past text before.room past (left_of left))
      ∙ ap (reading true now.number) (pieces_past text before.room holds past (left_of left))

  -- a line is too long
  pub left_long : (long : HoldsLongLine text before.room) (left : Option (List ℕ))
      → (over : Bool) × (line : List ℕ) × (ps : List (List ℕ)) × (MAX_LINE < length line) × (read_left reading before (got ++ left_of left) ≡ reading over now.number (line ∷ ps))
  left_long long left =
      let first = pieces_long text before.room long (left_of left) in
      let over = nat_lt before.room (length (text ++ left_of left)) in
      (over, first.0, first.1, first.3, left_text (left_of left) ∙ ap (reading over now.number) first.2)

  -- a read failed
  pub left_failed : HoldsPart text before.room → read_left reading before got ≡ reading (nat_lt before.room (length text)) now.number (take before.room text ∷ [])
  left_failed holds =
      ap (read_left reading before) (sym (append-nil got))
      ∙ left_text []
      ∙ ap (λ (t : List ℕ). reading (nat_lt before.room (length t)) now.number (pieces 10 (take before.room t))) (append-nil text)
      ∙ ap (reading (nat_lt before.room (length text)) now.number) (pieces_part text before.room holds)
