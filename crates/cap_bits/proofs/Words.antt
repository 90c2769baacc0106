-- What operations on a number's bits do to the set of capabilities that the number denotes.
use Rattle.std.proofs.Common.{◌≡◌, ◌≢◌, ℕ, ◌-◌, ◌*◌, ◌%◌, ◌^◌, ◌<◌, Bool, true, false, refl, ap, sym, ◌∙◌, arith, bit_and, bit_or, w32, inl, inr}
use Rattle.std.specs.Prelude.{◌⊎◌, not, ◌&&◌, ◌||◌, ◌==◌, max, min, nat_eq}
use Rattle.std.specs.Int.{bit_at, bit_not}
use Rattle.std.specs.Cmp.{both_ways}
use Rattle.std.proofs.lemmas.Bool.{cases_order, and_parts}
use Rattle.std.proofs.lemmas.Bool.Decides.{nat_tests, Decides-eqb, same_from_decides}
use Rattle.std.proofs.lemmas.Nat.{and_le_l, or_lt, one_shl, pow_below}
use Rattle.std.proofs.lemmas.Nat.Bits.{bit_at-lt, bit_at-zero, bit_at_and, bit_at_or, bit_at_not, bit_at_ones, bit_at_set_same, bit_at_set_other, bit_at_clear_same, bit_at_clear_other}
use Rattle.cap_bits.specs.declared.cap.Cap.{Cap}
use Rattle.cap_bits.specs.Cap.{cap_number}
use Rattle.cap_bits.proofs.Caps.{few_caps}
use Rattle.cap_bits.specs.Word.{in_word, caps_of_word, word_of_caps}
use Rattle.cap_bits.specs.Laws.{word_back, has-caps_of_word, has-all_of_caps, has-within, within-has, same_caps, same_sets-decides}
use Rattle.cap_bits.specs.CapSet.{CapSet, has, no_caps, all_of_caps, with_cap, without_cap, union_of, meet_of, minus_of, is_within, same_sets}
use Rattle.cap_bits.proofs.CapSets.{same_cap-number, has-no_caps, has-with_cap, has-without_cap, has-union_of, has-meet_of, has-minus_of}

-- a number denotes the set whose members are its bits
caps_by_bits : (word : ℕ) (s : CapSet) → ((q : Cap) → in_word word q ≡ has s q) → caps_of_word word ≡ s
caps_by_bits word s h = same_caps _ _ (λ q. has-caps_of_word word q ∙ h q)

either_bit : (x y : ℕ) → x < 2 → y < 2 → (max x y == 1) ≡ (x == 1 || y == 1)
either_bit x y p q = grind (arith, nat_tests)

both_bits : (x y : ℕ) → x < 2 → y < 2 → (min x y == 1) ≡ (x == 1 && y == 1)
both_bits x y p q = grind (arith, nat_tests)

first_bit : (x y : ℕ) → x < 2 → y < 2 → (min x (1 - y) == 1) ≡ (x == 1 && not (y == 1))
first_bit x y p q = grind (arith, nat_tests)

one_number : (i k : ℕ) → (i ≡ k) ⊎ (i ≢ k)
one_number i k = elim (cases_order i k) [ inl e ↦ inl e | inr (inl h) ↦ inr (λ e. absurd (omega arith)) | inr (inr h) ↦ inr (λ e. absurd (omega arith)) ]

set_bit : (a k i : ℕ) → k < 32 → (bit_at (bit_or a (1 * 2 ^ k % 2 ^ 32)) i == 1) ≡ (i == k || bit_at a i == 1)
set_bit a k i h = elim (one_number i k) [
  | inl e ↦
      let one : bit_at (bit_or a (1 * 2 ^ k % 2 ^ 32)) i ≡ 1 = ap (bit_at (bit_or a (1 * 2 ^ k % 2 ^ 32))) e ∙ bit_at_set_same w32 a k h in
      ap (λ x. x == 1) one ∙ sym (ap (λ b. b || bit_at a i == 1) ((Decides-eqb i k).1 e))
  | inr n ↦
      let same : bit_at (bit_or a (1 * 2 ^ k % 2 ^ 32)) i ≡ bit_at a i = bit_at_set_other w32 a k h i n in
      ap (λ x. x == 1) same ∙ sym (ap (λ b. b || bit_at a i == 1) (let f : (i == k) ≡ false = grind (arith, nat_tests) in f))
]

clear_bit : (a k i : ℕ) → k < 32 → i < 32 → (bit_at (bit_and a (2 ^ 32 - 1 - 1 * 2 ^ k % 2 ^ 32)) i == 1) ≡ (not (i == k) && bit_at a i == 1)
clear_bit a k i h l = elim (one_number i k) [
  | inl e ↦
      let none : bit_at (bit_and a (2 ^ 32 - 1 - 1 * 2 ^ k % 2 ^ 32)) i ≡ 0 = ap (bit_at (bit_and a (2 ^ 32 - 1 - 1 * 2 ^ k % 2 ^ 32))) e ∙ bit_at_clear_same w32 a k h in
      ap (λ x. x == 1) none ∙ sym (ap (λ b. not b && bit_at a i == 1) ((Decides-eqb i k).1 e))
  | inr n ↦
      let same : bit_at (bit_and a (2 ^ 32 - 1 - 1 * 2 ^ k % 2 ^ 32)) i ≡ bit_at a i = bit_at_clear_other w32 a k h i l n in
      ap (λ x. x == 1) same ∙ sym (ap (λ b. not b && bit_at a i == 1) (let f : (i == k) ≡ false = grind (arith, nat_tests) in f))
]

pub word_none : caps_of_word 0 ≡ no_caps
word_none = caps_by_bits 0 no_caps (λ q. ap (λ x. x == 1) (bit_at-zero (cap_number q)) ∙ sym (has-no_caps q))

pub word_all : caps_of_word 262143 ≡ all_of_caps
word_all = caps_by_bits 262143 all_of_caps (λ q. ap (λ x. x == 1) (bit_at_ones 18 (cap_number q) (few_caps q)) ∙ sym (has-all_of_caps q))

pub word_union : (a b : ℕ) → caps_of_word (bit_or a b) ≡ union_of (caps_of_word a) (caps_of_word b)
word_union a b = caps_by_bits (bit_or a b) _ (λ q.
    ap (λ x. x == 1) (bit_at_or a b (cap_number q))
    ∙ either_bit (bit_at a (cap_number q)) (bit_at b (cap_number q)) (bit_at-lt a (cap_number q)) (bit_at-lt b (cap_number q))
    ∙ sym (has-union_of _ _ q ∙ (λ i. has-caps_of_word a q i || has-caps_of_word b q i)))

pub word_meet : (a b : ℕ) → caps_of_word (bit_and a b) ≡ meet_of (caps_of_word a) (caps_of_word b)
word_meet a b = caps_by_bits (bit_and a b) _ (λ q.
    ap (λ x. x == 1) (bit_at_and a b (cap_number q))
    ∙ both_bits (bit_at a (cap_number q)) (bit_at b (cap_number q)) (bit_at-lt a (cap_number q)) (bit_at-lt b (cap_number q))
    ∙ sym (has-meet_of _ _ q ∙ (λ i. has-caps_of_word a q i && has-caps_of_word b q i)))

bit_number : (q : Cap) → cap_number q < 32
bit_number q = omega (arith, few_caps q)

pub word_minus : (a b : ℕ) → b < 2 ^ 18 → caps_of_word (bit_and a (2 ^ 32 - 1 - b)) ≡ minus_of (caps_of_word a) (caps_of_word b)
word_minus a b h = caps_by_bits (bit_and a (2 ^ 32 - 1 - b)) _ (λ q.
    let other : bit_at (bit_not w32 b) (cap_number q) ≡ 1 - bit_at b (cap_number q) = bit_at_not w32 b (cap_number q) (omega arith) (bit_number q) in
    ap (λ x. x == 1) (bit_at_and a (bit_not w32 b) (cap_number q) ∙ ap (λ x. min (bit_at a (cap_number q)) x) other)
    ∙ first_bit (bit_at a (cap_number q)) (bit_at b (cap_number q)) (bit_at-lt a (cap_number q)) (bit_at-lt b (cap_number q))
    ∙ sym (has-minus_of _ _ q ∙ (λ i. has-caps_of_word a q i && not (has-caps_of_word b q i))))

pub word_with : (a k : ℕ) (cap : Cap) → k ≡ cap_number cap → caps_of_word (bit_or a (1 * 2 ^ k % 2 ^ 32)) ≡ with_cap (caps_of_word a) cap
word_with a k cap e = caps_by_bits (bit_or a (1 * 2 ^ k % 2 ^ 32)) _ (λ q.
    set_bit a k (cap_number q) (omega (arith, bit_number cap))
    ∙ ap (λ n. cap_number q == n || in_word a q) e
    ∙ sym (has-with_cap _ cap q ∙ (λ i. same_cap-number q cap i || has-caps_of_word a q i)))

pub word_without : (a k : ℕ) (cap : Cap) → k ≡ cap_number cap → caps_of_word (bit_and a (2 ^ 32 - 1 - 1 * 2 ^ k % 2 ^ 32)) ≡ without_cap (caps_of_word a) cap
word_without a k cap e = caps_by_bits (bit_and a (2 ^ 32 - 1 - 1 * 2 ^ k % 2 ^ 32)) _ (λ q.
    clear_bit a k (cap_number q) (omega (arith, bit_number cap)) (bit_number q)
    ∙ ap (λ n. not (cap_number q == n) && in_word a q) e
    ∙ sym (has-without_cap _ cap q ∙ (λ i. not (same_cap-number q cap i) && has-caps_of_word a q i)))

-- setting one of its first 18 bits keeps a number below 2 ^ 18
pub with_short : (a k : ℕ) → a < 2 ^ 18 → k < 18 → bit_or a (1 * 2 ^ k % 2 ^ 32) < 2 ^ 18
with_short a k h l =
    let bit : 1 * 2 ^ k % 2 ^ 32 ≡ 2 ^ k = one_shl k 32 (omega arith) in
    let low : 2 ^ k < 2 ^ 18 = pow_below k 18 l in
    or_lt 18 a (1 * 2 ^ k % 2 ^ 32) h (omega arith)

in_both : (x y : Bool) → (x ≡ true → y ≡ true) → (x && y) ≡ x
in_both true y h = h refl
in_both false y h = refl

meet_within : (a b : CapSet) → meet_of a b ≡ a → is_within a b ≡ true
meet_within a b e = has-within a b (λ q h. (and_parts (has a q) (has b q) (sym (has-meet_of a b q) ∙ ap (λ s. has s q) e ∙ h)).1)

within_meet : (a b : CapSet) → is_within a b ≡ true → meet_of a b ≡ a
within_meet a b e = same_caps _ _ (λ q. has-meet_of a b q ∙ in_both (has a q) (has b q) (within-has a b e q))

pub word_within : (a b : ℕ) → a < 2 ^ 18 → nat_eq (bit_and a b) a ≡ is_within (caps_of_word a) (caps_of_word b)
word_within a b h = both_ways _ _
    (λ e. meet_within _ _ (sym (word_meet a b) ∙ ap caps_of_word ((Decides-eqb (bit_and a b) a).0 e)))
    (λ e. (Decides-eqb (bit_and a b) a).1
    (sym (word_back (bit_and a b) (omega (arith, and_le_l a b))) ∙ ap word_of_caps (word_meet a b ∙ within_meet _ _ e) ∙ word_back a h))

pub word_same : (a b : ℕ) → a < 2 ^ 18 → b < 2 ^ 18 → nat_eq a b ≡ same_sets (caps_of_word a) (caps_of_word b)
word_same a b h k = same_from_decides (nat_eq a b) (same_sets (caps_of_word a) (caps_of_word b))
    (λ e. ap caps_of_word ((Decides-eqb a b).0 e), λ e. (Decides-eqb a b).1 (sym (word_back a h) ∙ ap word_of_caps e ∙ word_back b k))
    (same_sets-decides _ _)
