-- The first line of a source, as it is read.
use Rattle.std.proofs.Common.{◌≡◌, ℕ, ◌+◌, ◌≤◌, false, List, [], ◌++◌, length, take, refl, sym, ◌∙◌, ap, subst, arith, append_assoc, length-append, length-take}
use Rattle.std.proofs.lemmas.List.{append-nil, take_all, take_at}
use Rattle.std.specs.declared.option.Option.{Option}
use Rattle.std.specs.Io.KnownBytes.{Consumes}
use Rattle.std.proofs.KnownBytes.{Consumes-nil, Consumes-trans}
use Rattle.io_ends.specs.Lines.{has_line_feed, HoldsLine, HoldsPart, InReads}
use Rattle.io_ends.specs.declared.whole.TheConstants.{CHUNK}
use Rattle.io_ends.specs.Whole.{Fills}
use Rattle.io_ends.proofs.LineLemmas.{held_none}

-- bytes were read, none of the first `searched` that are held is a line feed, and no fault was counted
pub record Seeking (before after : List ℕ) (room searched : ℕ) (left now : Option (List ℕ)) (faults faults' : ℕ) : Type 0 where
  pub got : List ℕ
  pub took : Consumes left now got
  pub held : after ≡ before ++ got
  pub few : length after ≤ room + 1
  pub reads : InReads before room got
  pub within : searched ≤ length (take room after)
  pub none : has_line_feed (take searched after) ≡ false
  pub still : faults' ≡ faults

pub seeking_begins : (before : List ℕ) (room : ℕ) (left : Option (List ℕ)) (faults : ℕ) → length before ≤ room + 1 → Seeking before before room 0 left left faults faults
seeking_begins before room left faults few = record {
  got = [];
  took = Consumes-nil left;
  held = sym (append-nil before);
  few = few;
  reads = record { earlier = []; last = []; got_is = refl; chunk = omega arith; due = λ some. absurd (omega arith) };
  within = omega arith;
  none = refl;
  still = refl;
}

module _ (before after : List ℕ) (room searched : ℕ) (left now : Option (List ℕ)) (f f' : ℕ) (s : Seeking before after room searched left now f f') (part : HoldsPart after room) where
  -- after one more read, the bytes that were held are searched
  pub seeking_reads : length after ≤ room → (n : ℕ) (after' : List ℕ) (now' : Option (List ℕ)) (f'' : ℕ) → Fills n after after' (room + 1) now now' → n ≤ CHUNK → f'' ≡ f'
      → (k : ℕ) → k ≡ length after → Seeking before after' room k left now' f f''
  seeking_reads le n after' now' f'' fills chunk still k e =
      let all = take_all room after le in
      let first : take k after' ≡ after = ap (take k) fills.after_is ∙ take_at after fills.got k (sym e) in
      let size : length after' ≡ length after + length fills.got = ap length fills.after_is ∙ length-append after fills.got in
      let counted = length-take room after' in
      let read : length fills.got ≡ n = fills.count_is in
      record {
        got = s.got ++ fills.got;
        took = Consumes-trans left now now' s.got fills.got s.took fills.took;
        held = fills.after_is ∙ ap (λ (xs : List ℕ). xs ++ fills.got) s.held ∙ append_assoc before s.got fills.got;
        few = fills.small;
        reads = record { earlier = s.got; last = fills.got; got_is = refl; chunk = omega arith; due = λ _. subst (λ (xs : List ℕ). HoldsPart xs room) s.held part };
        within = omega arith;
        none = ap has_line_feed (first ∙ sym all) ∙ part.no_line;
        still = still ∙ s.still;
      }

  -- at the beginning no line was held
  pub held_no_line : HoldsLine before room → ⊥
  held_no_line line = held_none before s.got room (subst (λ (xs : List ℕ). HoldsPart xs room) s.held part) line
