-- What operations on a number's bits do to the set of categories that the number denotes.
use Rattle.std.specs.Prelude.{◌≡◌, ℕ, ◌*◌, ◌/◌, ◌%◌, ◌^◌, ◌<◌, ◌≤◌, true, false, ◌||◌, ◌&&◌, ◌==◌, nat_eq, nat_lt, min, bit_and, bit_or}
use Rattle.std.specs.Int.{bit_at}
use Rattle.std.specs.Ordering.{nat_cmp}
use Rattle.std.specs.Cmp.{both_ways}
use Rattle.std.proofs.Common.{ap, sym, ◌∙◌, arith}
use Rattle.std.proofs.lemmas.Bool.{and_left}
use Rattle.std.proofs.lemmas.Bool.Decides.{nat_tests, Decides-eqb, same_from_decides}
use Rattle.std.proofs.lemmas.Nat.{and_le_l, or_lt, one_shl, pow_below}
use Rattle.std.proofs.lemmas.Nat.Bits.{bit_at-lt, bit_at-zero, bit_at_and, shr_and_one}
use Rattle.lab_lattice.specs.Cats.{CatSet, has_cat, no_cats, one_cat, cats_join, cats_meet, cats_cover, same_sets}
use Rattle.lab_lattice.specs.Word.{in_word, cats_of_word, word_of_cats, cats_cmp}
use Rattle.lab_lattice.specs.Laws.{has-cats_join, has-cats_meet, same_cats, cats_reflexive, cats_antisymmetric, cats_meet_first, cats_meet_second, cats_meet_greatest, same_sets-decides, in-power, in-or, has-cats_of_word, has-short_word, word_back}
use Rattle.lab_lattice.proofs.CatSets.{has-no_cats, has-one_cat}

both_bits : (x y : ℕ) → x < 2 → y < 2 → (min x y == 1) ≡ (x == 1 && y == 1)
both_bits x y p q = grind (arith, nat_tests)

in-and : (a b q : ℕ) → in_word (bit_and a b) q ≡ (in_word a q && in_word b q)
in-and a b q = ap (λ x. x == 1) (bit_at_and a b q) ∙ both_bits (bit_at a q) (bit_at b q) (bit_at-lt a q) (bit_at-lt b q)

-- a number below 2 ^ 64 denotes the set whose members are its bits
cats_by_bits : (word : ℕ) (s : CatSet) → word < 2 ^ 64 → ((q : ℕ) → in_word word q ≡ has_cat s q) → cats_of_word word ≡ s
cats_by_bits word s h e = same_cats _ _ (λ q. has-short_word word q h ∙ e q)

pub word_none : cats_of_word 0 ≡ no_cats
word_none = cats_by_bits 0 no_cats (omega arith) (λ q. ap (λ x. x == 1) (bit_at-zero q) ∙ sym (has-no_cats q))

pub word_one : (i : ℕ) → i < 64 → cats_of_word (1 * 2 ^ i % 2 ^ 64) ≡ one_cat i
word_one i h =
    let bit : 1 * 2 ^ i % 2 ^ 64 ≡ 2 ^ i = one_shl i 64 h in
    let low : 2 ^ i < 2 ^ 64 = pow_below i 64 h in
    ap cats_of_word bit ∙ cats_by_bits (2 ^ i) (one_cat i) low (λ q. in-power i q ∙ sym (has-one_cat i q))

pub word_join : (a b : ℕ) → a < 2 ^ 64 → b < 2 ^ 64 → cats_of_word (bit_or a b) ≡ cats_join (cats_of_word a) (cats_of_word b)
word_join a b h k = cats_by_bits (bit_or a b) _ (or_lt 64 a b h k) (λ q.
    in-or a b q ∙ sym (has-cats_join _ _ q ∙ (λ i. has-short_word a q h i || has-short_word b q k i)))

pub word_meet : (a b : ℕ) → a < 2 ^ 64 → b < 2 ^ 64 → cats_of_word (bit_and a b) ≡ cats_meet (cats_of_word a) (cats_of_word b)
word_meet a b h k = cats_by_bits (bit_and a b) _ (omega (arith, and_le_l a b)) (λ q.
    in-and a b q ∙ sym (has-cats_meet _ _ q ∙ (λ i. has-short_word a q h i && has-short_word b q k i)))

-- the meet of a set with one that it covers is the one that it covers
met : (x y : CatSet) → cats_cover x y ≡ true → cats_meet x y ≡ y
met x y e = cats_antisymmetric _ y (cats_meet_greatest x y y e (cats_reflexive y)) (cats_meet_second x y)

pub word_cover : (a b : ℕ) → a < 2 ^ 64 → b < 2 ^ 64 → nat_eq (bit_and a b) b ≡ cats_cover (cats_of_word a) (cats_of_word b)
word_cover a b h k = both_ways _ _
    (λ e. let same : cats_meet (cats_of_word a) (cats_of_word b) ≡ cats_of_word b = sym (word_meet a b h k) ∙ ap cats_of_word ((Decides-eqb (bit_and a b) b).0 e) in
    ap (cats_cover (cats_of_word a)) (sym same) ∙ cats_meet_first (cats_of_word a) (cats_of_word b))
    (λ e. (Decides-eqb (bit_and a b) b).1
    (sym (word_back (bit_and a b) (omega (arith, and_le_l a b))) ∙ ap word_of_cats (word_meet a b h k ∙ met _ _ e) ∙ word_back b k))

pub word_same : (a b : ℕ) → a < 2 ^ 64 → b < 2 ^ 64 → nat_eq a b ≡ same_sets (cats_of_word a) (cats_of_word b)
word_same a b h k = same_from_decides (nat_eq a b) (same_sets (cats_of_word a) (cats_of_word b))
    (λ e. ap cats_of_word ((Decides-eqb a b).0 e), λ e. (Decides-eqb a b).1 (sym (word_back a h) ∙ ap word_of_cats e ∙ word_back b k))
    (same_sets-decides _ _)

-- sets are ordered as the numbers that denote them
pub word_cmp : (a b : ℕ) → a < 2 ^ 64 → b < 2 ^ 64 → nat_cmp a b ≡ cats_cmp (cats_of_word a) (cats_of_word b)
unfolding cats_cmp
word_cmp a b h k = sym (λ i. nat_cmp (word_back a h i) (word_back b k i))

pub word_has : (word i : ℕ) → word < 2 ^ 64 → nat_eq (bit_and (word / 2 ^ i) 1) 1 ≡ has_cat (cats_of_word word) i
word_has word i h = ap (λ x. x == 1) (shr_and_one word i) ∙ sym (has-short_word word i h)

-- no set has a category from 64 on
pub word_lacks : (word i : ℕ) → 64 ≤ i → nat_lt i 64 ≡ has_cat (cats_of_word word) i
word_lacks word i h =
    let no : nat_lt i 64 ≡ false = grind (arith, nat_tests) in
    no ∙ sym (has-cats_of_word word i ∙ and_left (nat_lt i 64) (in_word word i) no)
