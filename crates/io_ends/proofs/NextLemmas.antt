-- What a reader of lines answers, by what was read.
use Rattle.std.proofs.Common.{◌≡◌, ℕ, ◌+◌, ◌-◌, ◌≤◌, ◌<◌, ◌==◌, Bool, true, false, List, [], ◌∷◌, ◌++◌, length, take, drop, refl, sym, ◌∙◌, ap, subst, arith, length-append, length-take, length-drop, Ok}
use Rattle.std.specs.declared.option.Option.{Option}
use Rattle.std.proofs.lemmas.Bool.{eqb-true, eqb-false}
use Rattle.std.proofs.lemmas.List.{nil_from_length}
use Rattle.io_ends.specs.declared.lines.Look.{Look}
use Rattle.io_ends.specs.declared.lines.Look.TheVariants as look
use Rattle.io_ends.specs.declared.lines.Next.{Next}
use Rattle.io_ends.specs.declared.lines.Next.TheVariants.{Line, End, Unended, LongLine, TooMuch}
use Rattle.fs_path.specs.declared.words.TheConstants.{MAX_LINE}
use Rattle.io_ends.specs.Lines.{Advances, Answers, GivesNone, has_line_feed, InReads}
use Rattle.io_ends.specs.LinesState.{LinesState}
use Rattle.io_ends.specs.Seeking.{Looks, Seeks}
use Rattle.io_ends.proofs.LineLemmas.{line_ends, line_with_feed}

abbrev state : List ℕ → List ℕ → ℕ → ℕ → Bool → LinesState
state line held room number more = record { line = line; held = held; room = room; number = number; more = more }

-- a reader, the bytes that its buffer holds without the last line, and those that it holds after the search for the next one
module _ (line held : List ℕ) (room number : ℕ) (more : Bool) (before : LinesState) (view : state line held room number more ≡ before) (start : List ℕ) (same : start ≡ held)
    (found : Look) (buffer : List ℕ) (left now : Option (List ℕ)) (s : Seeks (Ok found) start buffer room left now) where
  text_is : buffer ≡ held ++ s.got
  text_is = s.held ∙ ap (λ (xs : List ℕ). xs ++ s.got) same

  advances : (next : Next) (after : LinesState) → after.number ≡ number + 1 → length buffer + after.room ≡ length after.held + room → length after.held ≤ after.room + 1
      → Answers next buffer room after now → Advances (Ok next) before after left now
  advances next after number_is spent few answers =
      let size : length buffer ≡ length held + length s.got = ap length text_is ∙ length-append held s.got in
      let most : length buffer ≤ room + 1 = s.few in
      subst (λ (w : LinesState). Advances (Ok next) w after left now) view (record {
        got = s.got;
        took = s.took;
        reads = subst (λ (xs : List ℕ). InReads xs room s.got) same s.reads;
        within = omega arith;
        number = number_is;
        answers = subst (λ (text : List ℕ). Answers next text room after now) text_is answers;
      })

  -- a line was found
  pub answers_line : (n : ℕ) → found ≡ look.Line n → Advances (Ok Line) before (state (take (n + 1 - 1) buffer) (drop (n + 1) buffer) (room - (n + 1)) (number + 1) true) left now
  answers_line n is =
      let looks : Looks (look.Line n) buffer room = subst (λ (l : Look). Looks l buffer room) is s.looks.0 in
      let ends = line_ends buffer room n looks.0 looks.1 in
      let same : n + 1 - 1 ≡ n = omega arith in
      let counted = length-take room buffer in
      let after_size = length-drop (n + 1) buffer in
      let line_size = length-take (n + 1 - 1) buffer in
      let inside : n < length (take room buffer) = looks.1 in
      let short : n ≤ MAX_LINE = looks.2 in
      let most : length buffer ≤ room + 1 = s.few in
      advances Line _ refl (omega arith) (omega arith) (record {
        text_is = ends.0 ∙ ap (λ k. take k buffer ++ 10 ∷ drop (n + 1) buffer) (sym same);
        one_line = ap (λ k. has_line_feed (take k buffer)) same ∙ ends.1;
        short = omega arith;
        room_is = omega arith;
        more = refl;
      })

  -- the line that was found, with its line feed
  pub given_line : (n : ℕ) → found ≡ look.Line n → (n + 1 ≤ length buffer) × (length (drop (n + 1) buffer) ≤ room - (n + 1) + 1) × (n + 1 ≤ room) × (take (n + 1) buffer ≡ take (n + 1 - 1) buffer ++ 10 ∷ [])
  given_line n is =
      let looks : Looks (look.Line n) buffer room = subst (λ (l : Look). Looks l buffer room) is s.looks.0 in
      let inside : n < length (take room buffer) = looks.1 in
      let counted = length-take room buffer in
      let after_size = length-drop (n + 1) buffer in
      let most : length buffer ≤ room + 1 = s.few in
      let same : n + 1 - 1 ≡ n = omega arith in
      (omega arith, omega arith, omega arith, line_with_feed buffer n (omega arith) (line_ends buffer room n looks.0 looks.1).0 ∙ ap (λ k. take k buffer ++ 10 ∷ []) (sym same))

  none : GivesNone buffer room (state [] buffer room (number + 1) false)
  none = record { line = refl; held = refl; room_is = refl; more = refl }

  pub answers_long : found ≡ look.LongLine → Advances (Ok LongLine) before (state [] buffer room (number + 1) false) left now
  answers_long is = advances LongLine _ refl refl s.few (none, subst (λ (l : Look). Looks l buffer room) is s.looks.0)

  pub answers_too_much : found ≡ look.TooMuch → Advances (Ok TooMuch) before (state [] buffer room (number + 1) false) left now
  answers_too_much is =
      let looks : Looks look.TooMuch buffer room = subst (λ (l : Look). Looks l buffer room) is s.looks.0 in
      advances TooMuch _ refl refl s.few (none, looks.0, looks.1)

  -- the source ended, with or without a part of a line
  module _ (is : found ≡ look.Part) (lent : List ℕ) (here : lent ≡ buffer) where
    pub answers_end : (length lent == 0) ≡ true → Advances (Ok End) before (state [] buffer room (number + 1) false) left now
    answers_end empty = advances End _ refl refl s.few (none, sym here ∙ nil_from_length lent (eqb-true (length lent) 0 empty), s.looks.1 is)

    pub answers_unended : (length lent == 0) ≡ false → Advances (Ok Unended) before (state [] buffer room (number + 1) false) left now
    answers_unended some =
        let looks : Looks look.Part buffer room = subst (λ (l : Look). Looks l buffer room) is s.looks.0 in
        let nonzero : length lent ≡ 0 → ⊥ = eqb-false (length lent) 0 some in
        let positive : 0 < length lent = omega arith in
        advances Unended _ refl refl s.few (none, looks.0, subst (λ (xs : List ℕ). 0 < length xs) here positive, looks.1, s.looks.1 is)
