-- The bits of a word, as a list.
use Rattle.std.specs.Prelude.{◌≡◌, ◌≢◌, ℕ, zero, suc, ◌-◌, ◌/◌, ◌%◌, ◌^◌, ◌<◌, ◌≤◌, ◌==◌, Bool, true, false, List, [], ◌∷◌, cond, count_by, count_ones, get_or, length, not, replicate, set, refl}
use Rattle.std.specs.Int.{bit_at, bit_not, trailing_ones}
use Rattle.std.specs.Int.Count.{count_trailing_zeros, ones-le, ones_step, trailing_of_zero}
use Rattle.std.specs.List.{position_or_len}
use Rattle.std.proofs.Common.{ap, sym, ◌∙◌, arith, inl, inr, w32}
use Rattle.std.proofs.lemmas.Bool.{cases_eq}
use Rattle.std.proofs.lemmas.List.{get_or-set_other, get_or-set_same, length-set, same_lists}
use Rattle.std.proofs.lemmas.List.Sums.{position_or_len_is, sum_by-cons}
use Rattle.std.proofs.lemmas.Nat.Bits.{bit_at-suc, bit_at-trailing_ones, bit_at_lowest, bit_at_ones}
use Rattle.fd_table.specs.Taken.{lowest_bits}

pub length-bits : (n bits : ℕ) → length (lowest_bits n bits) ≡ n
unfolding lowest_bits
length-bits zero bits = refl
length-bits (suc n) bits = ap suc (length-bits n (bits / 2))

pub get_or-bits : (n bits i : ℕ) (d : Bool) → i < n → get_or (lowest_bits n bits) i d ≡ (bit_at bits i == 1)
unfolding lowest_bits
get_or-bits zero bits i d h = absurd (omega arith)
get_or-bits (suc n) bits zero d h = ap (λ b. b == 1) (sym (bit_at_lowest bits))
get_or-bits (suc n) bits (suc i) d h = get_or-bits n (bits / 2) i d (omega arith) ∙ ap (λ b. b == 1) (sym (bit_at-suc bits i))

-- no bit
pub bits-zero : (n : ℕ) → lowest_bits n 0 ≡ replicate n false
unfolding lowest_bits
bits-zero zero = refl
bits-zero (suc n) = ap (λ rest. false ∷ rest) (bits-zero n)

-- ---- how many are 1
low_bit : (b : ℕ) → b < 2 → cond (b == 1) 1 0 ≡ b
low_bit zero h = refl
low_bit (suc zero) h = refl
low_bit (suc (suc b)) h = absurd (omega arith)

pub count-bits : (n bits : ℕ) → bits < 2 ^ n → count_ones bits ≡ count_by (λ b. b) (lowest_bits n bits)
unfolding lowest_bits
count-bits zero bits h = omega (arith, ones-le 0 bits h)
count-bits (suc n) bits h =
    let step = ones_step bits in
    let rest = count-bits n (bits / 2) (omega arith) in
    let cons = sum_by-cons (λ (b : Bool). cond b 1 0) (bits % 2 == 1) (lowest_bits n (bits / 2)) in
    let low = low_bit (bits % 2) (omega arith) in
    omega (arith, step, rest, cons, low)

-- ---- the lowest that is 0
abbrev IsLowestZero : ℕ → ℕ → Type 0
IsLowestZero bits i = (i ≤ 32) × (i < 32 → bit_at bits i ≡ 0) × ((k : ℕ) → k < i → bit_at bits k ≡ 1)

lowest_zero : (bits : ℕ) → bits < 2 ^ 32 → IsLowestZero bits (trailing_ones w32 bits)
lowest_zero bits h = elim (cases_eq bits (2 ^ 32 - 1)) [
  | inl all ↦
      let none : bit_not w32 bits ≡ 0 = omega arith in
      let past : trailing_ones w32 bits ≡ 32 = ap (count_trailing_zeros 32) none ∙ trailing_of_zero 32 in
      (omega (arith, past), λ within. absurd (omega (arith, past)), λ k below. ap (λ b. bit_at b k) all ∙ bit_at_ones 32 k (omega (arith, past)))
  | inr some ↦ let lowest = bit_at-trailing_ones w32 bits (omega arith) in let within = lowest.0 in (omega arith, λ _. lowest.1, lowest.2)
]

pub lowest-bits : (bits : ℕ) → bits < 2 ^ 32 → trailing_ones w32 bits ≡ position_or_len not (lowest_bits 32 bits)
lowest-bits bits h =
    let lowest = lowest_zero bits h in
    let long = length-bits 32 bits in
    let i = trailing_ones w32 bits in
    let le = lowest.0 in
    sym
    (position_or_len_is not (lowest_bits 32 bits) i false (omega arith)
    (λ k below. ap not (get_or-bits 32 bits k false (omega arith) ∙ ap (λ b. b == 1) (lowest.2 k below)))
    (λ within. ap not (get_or-bits 32 bits i false (omega arith) ∙ ap (λ b. b == 1) (lowest.1 (omega arith)))))

-- where not all are 1, the lowest that is 0 is among them
pub free_within : (taken : List Bool) → count_by (λ b. b) taken < length taken → position_or_len not taken < length taken
free_within [] h = h
free_within (false ∷ taken) h = omega arith
free_within (true ∷ taken) h =
    let step = sum_by-cons (λ (b : Bool). cond b 1 0) true taken in
    let rest = free_within taken (omega (arith, step)) in omega (arith, rest)

-- ---- one bit that is set or cleared
pub bits-set : (n bits other i : ℕ) (b : Bool) → i < n → (bit_at other i == 1) ≡ b → ((k : ℕ) → k < n → k ≢ i → bit_at other k ≡ bit_at bits k)
    → lowest_bits n other ≡ set (lowest_bits n bits) i b
bits-set n bits other i b within at apart =
    let long = length-bits n bits in
    let other_long = length-bits n other in
    let set_long = length-set (lowest_bits n bits) i b in
    same_lists _ _ (omega (arith, long, other_long, set_long)) (λ k d below.
    let low : k < n = omega (arith, other_long) in
    elim (cases_eq k i) [
      | inl same ↦ get_or-bits n other k d low ∙ ap (λ j. bit_at other j == 1) same ∙ at ∙ sym (ap (λ j. get_or (set (lowest_bits n bits) i b) j d) same ∙ get_or-set_same (lowest_bits n bits) i b d (omega (arith, long)))
      | inr differs ↦ get_or-bits n other k d low ∙ ap (λ m. m == 1) (apart k low differs) ∙ sym (get_or-set_other (lowest_bits n bits) i k b d differs ∙ get_or-bits n bits k d low)
    ])
