-- Line feeds in a text, and its first line.
use Rattle.std.proofs.Common.{◌≡◌, ℕ, ◌+◌, ◌-◌, ◌≤◌, ◌<◌, Bool, true, false, ◌==◌, ◌||◌, cond, not, nat_lt, List, [], ◌∷◌, ◌++◌, length, get_or, take, drop, zero, suc, refl, sym, ◌∙◌, ap, subst, arith, eqb-true, Some, None, min}
use Rattle.std.specs.Prelude.{position}
use Rattle.std.specs.List.{before_first, list_any, position_or_len}
use Rattle.std.proofs.lemmas.Bool.{ltb-false}
use Rattle.std.proofs.lemmas.Bool.Decides.{nat_tests}
use Rattle.std.proofs.lemmas.List.{drop_more, take_all, get_or-take, length-drop, length-take, length-take-le, take_min, take_rest, take-append-drop, take-take}
use Rattle.std.proofs.Math.Nat.{min_comm}
use Rattle.std.proofs.lemmas.List.Sums.{passes_at_first, prefix_len-le-length}
use Rattle.fs_path.proofs.SplitLemmas.{any_before_end}
use Rattle.fs_path.specs.declared.words.TheConstants.{MAX_LINE}
use Rattle.io_ends.specs.Lines.{first_line, has_line_feed, HoldsLine, HoldsPart}

-- ---- the first place that passes a test

place_within : {X : Type 0} (p : X → Bool) (xs : List X) → position_or_len p xs ≤ length xs
place_within p xs = prefix_len-le-length (λ x. not (p x)) xs

-- a place that is found is the first one that passes
place_found : {X : Type 0} (p : X → Bool) (xs : List X) (i : ℕ) → position p xs ≡ Some i → position_or_len p xs ≡ i
place_found p xs i h = by_place (nat_lt (position_or_len p xs) (length xs)) h
  where
    by_place : (v : Bool) → cond v (Some (position_or_len p xs)) None ≡ Some i → position_or_len p xs ≡ i
    by_place true h = cc
    by_place false h = absurd (cc)

place_missing : {X : Type 0} (p : X → Bool) (xs : List X) → position p xs ≡ None → position_or_len p xs ≡ length xs
place_missing p xs h = by_place (nat_lt (position_or_len p xs) (length xs)) refl h
  where
    by_place : (v : Bool) → nat_lt (position_or_len p xs) (length xs) ≡ v → cond v (Some (position_or_len p xs)) None ≡ None → position_or_len p xs ≡ length xs
    by_place true lt h = absurd (cc)
    by_place false lt h =
        let past = ltb-false (position_or_len p xs) (length xs) lt in
        let within = place_within p xs in
        omega arith

-- where the first items fail the test, the first place that passes is looked for after them
place_after : {X : Type 0} (p : X → Bool) (n : ℕ) (xs : List X) → n ≤ length xs → list_any p (take n xs) ≡ false → position_or_len p xs ≡ n + position_or_len p (drop n xs)
place_after p zero xs le none = omega arith
place_after p (suc n) [] le none = absurd (omega arith)
place_after p (suc n) (x ∷ xs) le none =
    let rest = place_after p n xs (omega arith) in
    by_first (p x) none (position_or_len p (drop n xs)) rest
  where
    by_first : (v : Bool) → (v || list_any p (take n xs)) ≡ false → (k : ℕ) → (list_any p (take n xs) ≡ false → position_or_len p xs ≡ n + k) → cond (not v) (1 + position_or_len p xs) 0 ≡ suc n + k
    by_first true none k rest = absurd (cc)
    by_first false none k rest = let e = rest none in omega arith

-- ---- the first line

pub length_first_line : (text : List ℕ) → length (first_line text) ≡ position_or_len (λ b. b == 10) text
length_first_line text = length-take-le _ text (place_within (λ b. b == 10) text)

-- the first line ends at the first line feed after the bytes that have none
pub line_found : (text : List ℕ) (searched at : ℕ) → searched ≤ length text → has_line_feed (take searched text) ≡ false
    → Some at ≡ position (λ b. b == 10) (take (length text - searched) (drop searched text)) → searched + at ≡ length (first_line text)
line_found text searched at le none e =
    let here : position_or_len (λ b. b == 10) (drop searched text) ≡ at = place_found _ (drop searched text) at (ap (position (λ b. b == 10)) (sym (take_rest text searched)) ∙ sym e) in
    ap (λ k. searched + k) (sym here) ∙ sym (place_after _ searched text le none) ∙ sym (length_first_line text)

pub line_missing : (text : List ℕ) (searched : ℕ) → searched ≤ length text → has_line_feed (take searched text) ≡ false
    → None ≡ position (λ b. b == 10) (take (length text - searched) (drop searched text)) → length text ≡ length (first_line text)
line_missing text searched le none e =
    let rest = drop searched text in
    let past : position_or_len (λ b. b == 10) rest ≡ length rest = place_missing _ rest (ap (position (λ b. b == 10)) (sym (take_rest text searched)) ∙ sym e) in
    let left = length-drop searched text in
    let place : position_or_len (λ b. b == 10) text ≡ searched + position_or_len (λ b. b == 10) rest = place_after _ searched text le none in
    let size = length_first_line text in
    omega arith

-- where no item passes before the end, none does
none_before_end : (text : List ℕ) → length text ≤ position_or_len (λ b. b == 10) text → has_line_feed text ≡ false
none_before_end text past = any_before_end _ text ∙ not_below (position_or_len (λ b. b == 10) text) (length text) past
  where
    not_below : (a b : ℕ) → b ≤ a → nat_lt a b ≡ false
    not_below a b le = grind (arith, nat_tests)

-- where the first line is all of the bytes within the limit, none of them is a line feed
pub unfinished_at : (text : List ℕ) (room counted n : ℕ) → counted ≡ min (length text) room → n ≡ length (first_line (take counted text)) → length (take counted text) ≤ n → n ≤ MAX_LINE
    → HoldsPart text room
unfinished_at text room counted n e len all short =
    let same : take counted text ≡ take room text = ap (λ k. take k text) (e ∙ min_comm (length text) room) ∙ take_min room text in
    let within : length (take counted text) ≤ position_or_len (λ b. b == 10) (take counted text) = omega (arith, length_first_line (take counted text)) in
    let short : length (take counted text) ≤ MAX_LINE = omega arith in
    record {
      no_line = subst (λ (first : List ℕ). has_line_feed first ≡ false) same (none_before_end (take counted text) within);
      short = subst (λ (first : List ℕ). length first ≤ MAX_LINE) same short;
    }

none_before_first : {X : Type 0} (p : X → Bool) (xs : List X) → list_any p (before_first p xs) ≡ false
none_before_first p [] = refl
none_before_first p (x ∷ xs) = by_first (p x) refl (none_before_first p xs)
  where
    by_first : (v : Bool) → p x ≡ v → list_any p (before_first p xs) ≡ false → list_any p (take (cond (not v) (1 + position_or_len p xs) 0) (x ∷ xs)) ≡ false
    by_first true e rest = refl
    by_first false e rest =
        let more : 1 + position_or_len p xs ≡ suc (position_or_len p xs) = omega arith in
        ap (λ k. list_any p (take k (x ∷ xs))) more ∙ ap (λ v. v || list_any p (before_first p xs)) e ∙ rest

-- a first line that ends within the limit, its line feed, and the text after it
pub line_ends : (text : List ℕ) (room n : ℕ) → n ≡ length (first_line (take room text)) → n < length (take room text) → (text ≡ take n text ++ 10 ∷ drop (n + 1) text) × (has_line_feed (take n text) ≡ false)
line_ends text room n e lt =
    let counted = take room text in
    let place : n ≡ position_or_len (λ b. b == 10) counted = e ∙ length_first_line counted in
    let within = length-take room text in
    let below : n < room = omega arith in
    let before : n ≤ room = omega arith in
    let inside : n < length text = omega arith in
    let feed : (get_or counted n 0 == 10) ≡ true = subst (λ k. (get_or counted k 0 == 10) ≡ true) (sym place) (passes_at_first (λ b. b == 10) counted 0 (subst (λ k. k < length counted) place lt)) in
    let byte : get_or text n 0 ≡ 10 = sym (get_or-take room text n 0 below) ∙ eqb-true (get_or counted n 0) 10 feed in
    let first : take n text ≡ first_line counted = sym (take-take n room text before) ∙ ap (λ k. take k counted) place in
    (sym (take-append-drop n text) ∙ ap (λ (r : List ℕ). take n text ++ r) (drop_more text n 0 inside ∙ ap (λ b. b ∷ drop (n + 1) text) byte), ap has_line_feed first ∙ none_before_first _ counted)

-- ---- a text that goes on

-- the first bytes of a text that goes on
pub take_on : (n : ℕ) (text more : List ℕ) → take n (text ++ more) ≡ take n text ++ take (n - length text) more
take_on zero text more = let none : 0 - length text ≡ 0 = omega arith in sym (ap (λ k. take k more) none)
take_on (suc n) [] more = let all : suc n - 0 ≡ suc n = omega arith in sym (ap (λ k. take k more) all)
take_on (suc n) (x ∷ text) more =
    let less : suc n - suc (length text) ≡ n - length text = omega arith in
    ap (λ (r : List ℕ). x ∷ r) (take_on n text more) ∙ ap (λ k. x ∷ (take n text ++ take k more)) (sym less)

none_in_prefix : (bytes more : List ℕ) → has_line_feed (bytes ++ more) ≡ false → has_line_feed bytes ≡ false
none_in_prefix [] more none = refl
none_in_prefix (x ∷ bytes) more none = by_first (x == 10) none (none_in_prefix bytes more)
  where
    by_first : (v : Bool) → (v || has_line_feed (bytes ++ more)) ≡ false → (has_line_feed (bytes ++ more) ≡ false → has_line_feed bytes ≡ false) → (v || has_line_feed bytes) ≡ false
    by_first true none rest = absurd (cc)
    by_first false none rest = rest none

-- a text that holds no whole line as it goes on held none before
pub held_none : (text more : List ℕ) (room : ℕ) → HoldsPart (text ++ more) room → HoldsLine text room → ⊥
held_none text more room part line =
    let none = none_in_prefix (take room text) (take (room - length text) more) (sym (ap has_line_feed (take_on room text more)) ∙ part.no_line) in
    absurd (cc)

-- the first line of a text with its line feed
pub line_with_feed : (text : List ℕ) (n : ℕ) → n < length text → text ≡ take n text ++ 10 ∷ drop (n + 1) text → take (n + 1) text ≡ take n text ++ 10 ∷ []
line_with_feed text n inside is =
    let size : length (take n text) ≡ n = omega (arith, length-take n text, inside) in
    let one : n + 1 - length (take n text) ≡ 1 = omega (arith, size) in
    ap (λ (t : List ℕ). take (n + 1) t) is
    ∙ take_on (n + 1) (take n text) (10 ∷ drop (n + 1) text)
    ∙ ap (λ (t : List ℕ). t ++ take (n + 1 - length (take n text)) (10 ∷ drop (n + 1) text)) (take_all (n + 1) (take n text) (omega (arith, size)))
    ∙ ap (λ k. take n text ++ take k (10 ∷ drop (n + 1) text)) one
