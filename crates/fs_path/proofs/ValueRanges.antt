-- The ranges of numbers, modes and groups that words denote.
use Rattle.std.specs.Prelude.{◌≡◌, ℕ, suc, ◌≤◌, ◌<◌, ◌==◌, nat_le, nat_lt, Bool, true, false, cond, List, [], ◌∷◌, length, Option, Some, None, refl, codes}
use Rattle.std.specs.Cmp.Lexicographic.{pointwise}
use Rattle.std.specs.List.{list_all, slice_split}
use Rattle.std.specs.Option.{option_map}
use Rattle.std.proofs.Common.{ap, sym, subst, arith, get_or}
use Rattle.std.proofs.lemmas.Bool.{and_parts, and_from, leb-true, le-leb, lt-ltb}
use Rattle.std.proofs.lemmas.Option.{cond_some, option_and_then_some, same_Some}
use Rattle.fs_path.specs.Options.{keep_if}
use Rattle.fs_path.specs.Values.{numeral, number_of, is_mode, mode_of, numbers_of, few_numbers, groups_of}
use Rattle.fs_path.specs.declared.values.TheConstants.{MAX_MODE}

-- a numeral is at least its lowest and at most its highest value
pub numeral_range : (base most low high : ℕ) (word : List ℕ) (n : ℕ) → numeral base most low high word ≡ Some n → (low ≤ n) × (n ≤ high)
unfolding numeral
numeral_range base most low high word n is =
    let kept = cond_some _ _ _ is in
    let last = and_parts _ _ kept.0 in
    let first = and_parts _ _ last.0 in
    (subst (λ m. low ≤ m) kept.1 (leb-true _ _ first.1), subst (λ m. m ≤ high) kept.1 (leb-true _ _ last.1))

-- what is read as a mode is a mode
pub mode_range : (word : List ℕ) (mode : ℕ) → mode_of word ≡ Some mode → is_mode mode ≡ true
mode_range word mode is = option_and_then_some _ (numeral 8 4 0 MAX_MODE word) mode is (λ n n_is last.
    let kept = cond_some _ _ _ last in
    subst (λ m. is_mode m ≡ true) kept.1 kept.0)

-- there are as many numbers as words
pub as_many : (words : List (List ℕ)) (numbers : List ℕ) → numbers_of words ≡ Some numbers → length numbers ≡ length words
as_many [] numbers is = ap (λ (ns : List ℕ). length ns) (sym (same_Some _ _ is))
as_many (w ∷ ws) numbers is = option_and_then_some _ (number_of w) numbers is (λ n n_is last. by_rest (λ ns e. as_many ws ns e) n (numbers_of ws) refl last)
  where
    by_rest : ((ns : List ℕ) → numbers_of ws ≡ Some ns → length ns ≡ length ws) → (n : ℕ) (o : Option (List ℕ)) → numbers_of ws ≡ o → option_map (λ ns. n ∷ ns) o ≡ Some numbers → length numbers ≡ length (w ∷ ws)
    by_rest round_trip n None e last = absurd (cc)
    by_rest round_trip n (Some ns) e last = let rest = round_trip ns e in let all = ap (λ (xs : List ℕ). length xs) (sym (same_Some _ _ last)) in omega arith

-- there are at most 16 groups
pub groups_few : (word groups : List ℕ) → groups_of word ≡ Some groups → length groups ≤ 16
unfolding groups_of
groups_few word groups is = by_dash (pointwise ◌==◌ word (codes "-")) is
  where
    by_dash : (b : Bool) → cond b (Some []) (few_numbers (slice_split (λ b. b == 44) word)) ≡ Some groups → length groups ≤ 16
    by_dash true e = let none = ap (λ (xs : List ℕ). length xs) (sym (same_Some _ _ e)) in omega arith
    by_dash false e = option_and_then_some _ (keep_if (nat_le (length (slice_split (λ b. b == 44) word)) 16) (slice_split (λ b. b == 44) word)) groups e (λ words words_is last.
        let kept = cond_some _ _ _ words_is in
        let few = leb-true _ _ kept.0 in
        let same = ap (λ (xs : List (List ℕ)). length xs) kept.1 in
        let many = as_many words groups last in
        omega arith)

-- items below 256 are bytes
pub bytes_from : (xs : List ℕ) → ((i : ℕ) → get_or xs i 0 < 256) → list_all (λ b. nat_lt b 256) xs ≡ true
bytes_from [] small = refl
bytes_from (x ∷ xs) small = and_from _ _ (lt-ltb x 256 (small 0)) (bytes_from xs (λ i. small (suc i)))

-- items of at most 32 bits are numbers
pub numbers_from : (xs : List ℕ) → ((i : ℕ) → get_or xs i 0 ≤ 4294967295) → list_all (λ n. nat_le n 4294967295) xs ≡ true
numbers_from [] small = refl
numbers_from (x ∷ xs) small = and_from _ _ (le-leb x 4294967295 (small 0)) (numbers_from xs (λ i. small (suc i)))
