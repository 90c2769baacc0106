-- Canonical words: a word is parsed, its value is written, and the two are compared.
use Rattle.std.specs.Prelude.{◌≡◌, ℕ, ◌^◌, ◌<◌, ◌≤◌, Bool, true, false, nat_lt, cond, List, None, Some, Result, Ok, Err, refl}
use Rattle.std.specs.Bool.{then_some}
use Rattle.std.specs.Fmt.{decimal}
use Rattle.std.specs.Result.{OkIff, result_ok}
use Rattle.std.specs.Str.Parse.{ParsesUnsigned}
use Rattle.std.proofs.Common.{ap, sym, ◌∙◌, inl, inr, arith}
use Rattle.std.proofs.lemmas.Bool.{both_ways, lt-ltb, le-ltb, cases_lt}
use Rattle.std.proofs.lemmas.Fmt.{parse-decimal}
use Rattle.std.proofs.lemmas.Result.{OkIff-at_ok}
use Rattle.lab_text.specs.Names.{same_bytes}
use Rattle.aud_record.specs.Canonical.{canonical_number}
use Rattle.aud_record.proofs.Numbers.{same_itself, same_is, number_round_trip, no_number, number_below}

-- a word that is not parsed has no canonical number
pub unparsed : {E : Type 0} (word digits : List ℕ) (r : Result ℕ E) (e : E) → digits ≡ word → ParsesUnsigned 64 10 digits r → r ≡ Err e → None ≡ canonical_number (2 ^ 64) word
unparsed word digits r e same h is =
    sym (no_number (2 ^ 64) word (λ n small text. let parsed : r ≡ Ok n = parse-decimal 64 n digits r small small (same ∙ text) h in cc))

-- a parsed number is the canonical number of a word exactly where its digits are the word
pub parsed : {E : Type 0} (word digits text : List ℕ) (r : Result ℕ E) (n : ℕ) (t : Bool) → digits ≡ word → ParsesUnsigned 64 10 digits r → r ≡ Ok n → text ≡ decimal n → t ≡ same_bytes text word → then_some t n ≡ canonical_number (2 ^ 64) word
parsed word digits text r n t same h is written reported = ap (λ b. then_some b n) (reported ∙ ap (λ d. same_bytes d word) written) ∙ by_test (same_bytes (decimal n) word) refl
  where
    by_test : (b : Bool) → same_bytes (decimal n) word ≡ b → then_some b n ≡ canonical_number (2 ^ 64) word
    by_test true e =
        let known = OkIff-at_ok r _ _ n h is in
        let small : n < 2 ^ 64 = let lt = known.0.1 in let at = known.1 in omega arith in
        sym (ap (canonical_number (2 ^ 64)) (sym (same_is (decimal n) word e)) ∙ number_round_trip (2 ^ 64) n small small)
    by_test false e =
        sym (no_number (2 ^ 64) word (λ m small text.
        let other : r ≡ Ok m = parse-decimal 64 m digits r small small (same ∙ text) h in
        let equal : n ≡ m = cc in
        both_ways (same_bytes (decimal n) word) e (ap (λ d. same_bytes d word) (ap decimal equal ∙ sym text) ∙ same_itself word)))

-- the canonical number of a smaller type
pub fitted : {E : Type 0} (low high : ℕ) (word : List ℕ) (n : ℕ) (r : Result ℕ E) → low ≤ high → high ≤ 2 ^ 64 → Some n ≡ canonical_number high word → OkIff r (n < low) n → result_ok r ≡ canonical_number low word
fitted low high word n (Ok m) le fits h (lt, e) = ap Some e ∙ ap (λ b. cond b (Some n) None) (sym (lt-ltb n low lt)) ∙ sym (number_below low high word (Some n) le fits h)
fitted low high word n (Err e) le fits h over = ap (λ b. cond b (Some n) None) (sym (not_below n low over)) ∙ sym (number_below low high word (Some n) le fits h)
  where
    not_below : (n low : ℕ) → (n < low → ⊥) → nat_lt n low ≡ false
    not_below n low over = elim (cases_lt n low) [ inl lt ↦ absurd (over lt) | inr le ↦ le-ltb n low le ]
