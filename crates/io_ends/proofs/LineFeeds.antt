-- The first line feed of a text, by a search of a library.
use Rattle.std.specs.Prelude.{◌≡◌, ℕ, ◌==◌, Bool, true, false, List, Option, None, Some, cond, length, nat_lt, position, refl}
use Rattle.std.specs.List.{position_or_len}
use Rattle.std.proofs.Common.{ap, sym, ◌∙◌, arith, get_or}
use Rattle.std.proofs.lemmas.Bool.Decides.{nat_tests}
use Rattle.std.proofs.lemmas.List.Sums.{position_or_len_is}
use Rattle.memchr.specs.Find.{IsFirstByte, is_byte}

abbrev is_line_feed : ℕ → Bool
is_line_feed b = b == 10

not_true : (b : Bool) → (b ≡ true → ⊥) → b ≡ false
not_true true h = absurd (h refl)
not_true false h = refl

at_place : (text : List ℕ) (n : ℕ) → position_or_len is_line_feed text ≡ n → position is_line_feed text ≡ cond (nat_lt n (length text)) (Some n) None
at_place text n is = ap (λ k. cond (nat_lt k (length text)) (Some k) None) is

pub first_line_feed : (text : List ℕ) (r : Option ℕ) → IsFirstByte (is_byte 10) text r → r ≡ position is_line_feed text
first_line_feed text None h =
    let past : nat_lt (length text) (length text) ≡ false = grind (arith, nat_tests) in
    sym (at_place text (length text) (position_or_len_is is_line_feed text (length text) 0 (omega arith) (λ k low. not_true (is_line_feed (get_or text k 0)) (h k (omega arith) low)) (λ low. absurd (omega (arith, low))))
    ∙ ap (λ b. cond b (Some (length text)) None) past)
first_line_feed text (Some k) h =
    let high = h.0.high in
    let within : nat_lt k (length text) ≡ true = grind (arith, nat_tests, high) in
    sym (at_place text k (position_or_len_is is_line_feed text k 0 (omega (arith, high)) (λ i low. not_true (is_line_feed (get_or text i 0)) (h.0.before i (omega arith) low)) (λ _. h.1))
    ∙ ap (λ b. cond b (Some k) None) within)
