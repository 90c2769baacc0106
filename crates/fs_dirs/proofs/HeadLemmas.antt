-- The head of a name: how it is made, and that heads that differ are ordered as their names.
use Rattle.std.proofs.Common.{◌≡◌, ℕ, zero, suc, ◌+◌, ◌-◌, ◌*◌, ◌^◌, ◌<◌, ◌≤◌, true, false, List, [], ◌∷◌, length, get_or, drop, refl, ap, sym, ◌∙◌, subst, arith, inl, inr, add-mul, mul_assoc, mul-le-mul_left}
use Rattle.std.proofs.Math.Nat.{pow-succ'}
use Rattle.std.proofs.lemmas.Nat.{pow-add}
use Rattle.std.proofs.lemmas.List.{drop_all}
use Rattle.std.specs.Prelude.{◌&&◌, nat_lt}
use Rattle.std.specs.declared.cmp.Ordering.TheVariants.{Less, Equal, Greater}
use Rattle.std.specs.Ordering.{nat_cmp, ordering_reverse, ordering_then}
use Rattle.std.specs.Cmp.{nat_cmp_is}
use Rattle.std.specs.Cmp.Lexicographic.{slice_cmp}
use Rattle.std.specs.List.{list_all}
use Rattle.std.proofs.lemmas.Bool.{cases_lt}
use Rattle.std.proofs.lemmas.Bool.Decides.{nat_tests}
use Rattle.std.proofs.lemmas.Cmp.{nat_list_cmp_total, ranked}
use Rattle.fs_path.specs.Name.{is_name, is_name_byte}
use Rattle.fs_dirs.specs.Head.{head, head_of, are_bytes}

-- a power is 256 times the one before
power : (n : ℕ) → 256 ^ suc n ≡ 256 * 256 ^ n
power n = pow-succ' 256 n

-- and at least 1
some : (n : ℕ) → 1 ≤ 256 ^ n
some zero = omega arith
some (suc n) = let less = some n in rw (power n) (omega (arith, less))

-- of no byte
no_head : (n : ℕ) → head n [] ≡ 0
unfolding head
no_head zero = refl
no_head (suc n) = refl

-- the head of what is left from a place on, by the byte there and the rest
pub head_from : (n k : ℕ) (bytes : List ℕ) → head (suc n) (drop k bytes) ≡ get_or bytes k 0 * 256 ^ n + head n (drop (suc k) bytes)
unfolding head
head_from n zero [] = let none = no_head n in omega (arith, none)
head_from n zero (x ∷ bytes) = refl
head_from n (suc k) [] = let none = no_head n in omega (arith, none)
head_from n (suc k) (x ∷ bytes) = head_from n k bytes

-- one byte more is read
read_more : (acc n k : ℕ) (bytes : List ℕ) → acc * 256 ^ suc n + head (suc n) (drop k bytes) ≡ (acc * 256 + get_or bytes k 0) * 256 ^ n + head n (drop (suc k) bytes)
read_more acc n k bytes =
    let from = head_from n k bytes in
    let next = power n in
    let times : acc * 256 * 256 ^ n ≡ acc * (256 * 256 ^ n) = mul_assoc acc 256 (256 ^ n) in
    let both : (acc * 256 + get_or bytes k 0) * 256 ^ n ≡ acc * 256 * 256 ^ n + get_or bytes k 0 * 256 ^ n = add-mul (acc * 256) (get_or bytes k 0) (256 ^ n) in
    rw next (omega (arith, from, times, both))

-- the same of the first eight bytes
pub read_on : (acc k : ℕ) (bytes : List ℕ) → k < 8 → acc * 256 ^ (8 - k) + head (8 - k) (drop k bytes) ≡ (acc * 256 + get_or bytes k 0) * 256 ^ (8 - (k + 1)) + head (8 - (k + 1)) (drop (k + 1) bytes)
read_on acc k bytes h =
    subst (λ j. acc * 256 ^ j + head j (drop k bytes) ≡ (acc * 256 + get_or bytes k 0) * 256 ^ (8 - (k + 1)) + head (8 - (k + 1)) (drop (k + 1) bytes)) {x = suc (8 - (k + 1))} {y = 8 - k} (omega arith)
    (subst (λ i. acc * 256 ^ suc (8 - (k + 1)) + head (suc (8 - (k + 1))) (drop k bytes) ≡ (acc * 256 + get_or bytes k 0) * 256 ^ (8 - (k + 1)) + head (8 - (k + 1)) (drop i bytes)) {x = suc k} {y = k + 1} (omega arith)
    (read_more acc (8 - (k + 1)) k bytes))

-- all are read
pub read_all : (acc k : ℕ) (bytes : List ℕ) → k ≡ 8 → acc * 256 ^ (8 - k) + head (8 - k) (drop k bytes) ≡ head 8 bytes → acc ≡ head 8 bytes
unfolding head
read_all acc k bytes h so_far =
    let all : acc * 1 + 0 ≡ head 8 bytes = subst (λ j. acc * 256 ^ (8 - j) + head (8 - j) (drop j bytes) ≡ head 8 bytes) {x = k} {y = 8} h so_far in
    omega (arith, all)

-- of a list of bytes the first is one, and so is each other
first_is : (x : ℕ) (bytes : List ℕ) → are_bytes (x ∷ bytes) ≡ true → x < 256
unfolding are_bytes
first_is x bytes h = elim (nat_lt x 256) as (λ b. nat_lt x 256 ≡ b → b && list_all (λ y. nat_lt y 256) bytes ≡ true → x < 256) [
  | true ↦ λ t _. grind (arith, nat_tests, t)
  | false ↦ λ _ f. cc
] refl h

rest_are : (x : ℕ) (bytes : List ℕ) → are_bytes (x ∷ bytes) ≡ true → are_bytes bytes ≡ true
unfolding are_bytes
rest_are x bytes h = elim (nat_lt x 256) as (λ b. b && list_all (λ y. nat_lt y 256) bytes ≡ true → list_all (λ y. nat_lt y 256) bytes ≡ true) [
  | true ↦ λ t. t
  | false ↦ λ f. cc
] h

-- where each item is below 256, all of them are
pub each_is : (bytes : List ℕ) → ((k : ℕ) → k < length bytes → get_or bytes k 0 < 256) → are_bytes bytes ≡ true
unfolding are_bytes
each_is [] h = refl
each_is (x ∷ bytes) h =
    let first : nat_lt x 256 ≡ true = (let low : x < 256 = h 0 (omega arith) in grind (arith, nat_tests, low)) in
    ap (λ b. b && list_all (λ y. nat_lt y 256) bytes) first ∙ each_is bytes (λ k within. h (suc k) (omega arith))

-- one digit more
digit : (x p r : ℕ) → x < 256 → r < p → x * p + r < 256 * p
digit x p r h less =
    let more : p * suc x ≤ p * 256 = mul-le-mul_left p h in
    omega (arith, more)

-- n bytes make a number of n digits
pub head_below : (n : ℕ) (bytes : List ℕ) → are_bytes bytes ≡ true → head n bytes < 256 ^ n
unfolding head
head_below zero bytes h = omega arith
head_below (suc n) [] h = some (suc n)
head_below (suc n) (x ∷ bytes) h = rw (power n) (digit x (256 ^ n) (head n bytes) (first_is x bytes h) (head_below n bytes (rest_are x bytes h)))

-- what is read with one byte more fits
pub fits_on : (acc k : ℕ) (bytes : List ℕ) → are_bytes bytes ≡ true → k < 8 → acc * 256 ^ (8 - k) + head (8 - k) (drop k bytes) ≡ head 8 bytes → acc * 256 + get_or bytes k 0 < 2 ^ 64
fits_on acc k bytes h within so_far =
    let below : head 8 bytes < 2 ^ 64 = head_below 8 bytes h in
    let on = read_on acc k bytes within in
    let least : (acc * 256 + get_or bytes k 0) * 1 ≤ (acc * 256 + get_or bytes k 0) * 256 ^ (8 - (k + 1)) = mul-le-mul_left (acc * 256 + get_or bytes k 0) (some (8 - (k + 1))) in
    omega (arith, below, on, least, so_far)

-- where the first digit is greater, so is the number
greater : (x y p r s : ℕ) → y < x → s < p → x * p + r < y * p + s → ⊥
greater x y p r s h less low =
    let more : p * suc y ≤ p * x = mul-le-mul_left p h in
    omega (arith, more)

-- the list with the lesser head is the lesser one
pub head_less : (n : ℕ) (a b : List ℕ) → are_bytes b ≡ true → head n a < head n b → slice_cmp nat_cmp a b ≡ Less
unfolding head
head_less zero a b h low = absurd (omega arith)
head_less (suc n) [] [] h low = absurd (omega arith)
head_less (suc n) [] (y ∷ b) h low = refl
head_less (suc n) (x ∷ a) [] h low = absurd (omega arith)
head_less (suc n) (x ∷ a) (y ∷ b) h low = elim (cases_lt x y) [
  | inl less ↦ ap (λ r. ordering_then r (slice_cmp nat_cmp a b)) (sym (nat_cmp_is x y Less less))
  | inr most ↦ elim (cases_lt y x) [
    | inl more ↦ absurd (greater x y (256 ^ n) (head n a) (head n b) more (head_below n b (rest_are y b h)) low)
    | inr least ↦
        let same : x ≡ y = omega arith in
        let times : x * 256 ^ n ≡ y * 256 ^ n = ap (λ z. z * 256 ^ n) same in
        ap (λ r. ordering_then r (slice_cmp nat_cmp a b)) (sym (nat_cmp_is x y Equal same)) ∙ head_less n a b (rest_are y b h) (omega (arith, times, low))
  ]
]

-- and the one with the greater head the greater one
pub head_greater : (n : ℕ) (a b : List ℕ) → are_bytes a ≡ true → head n b < head n a → slice_cmp nat_cmp a b ≡ Greater
head_greater n a b h low = nat_list_cmp_total.antisymm a b ∙ ap ordering_reverse (head_less n b a h low)

-- the number of n and m bytes, by that of the first n and that of the m after them
pub head_split : (n m : ℕ) (bytes : List ℕ) → head (n + m) bytes ≡ head n bytes * 256 ^ m + head m (drop n bytes)
unfolding head
head_split zero m bytes = subst (λ n. head n bytes ≡ 0 * 256 ^ m + head m bytes) {x = m} {y = 0 + m} (omega arith) (omega arith)
head_split (suc n) m [] =
    let all : head (suc n + m) [] ≡ 0 = no_head (suc n + m) in
    let none : head m (drop (suc n) []) ≡ 0 = no_head m in
    omega (arith, all, none)
head_split (suc n) m (x ∷ bytes) =
    let rest = head_split n m bytes in
    let power_of : 256 ^ (n + m) ≡ 256 ^ n * 256 ^ m = pow-add 256 n m in
    let times : x * 256 ^ n * 256 ^ m ≡ x * (256 ^ n * 256 ^ m) = mul_assoc x (256 ^ n) (256 ^ m) in
    let both : (x * 256 ^ n + head n bytes) * 256 ^ m ≡ x * 256 ^ n * 256 ^ m + head n bytes * 256 ^ m = add-mul (x * 256 ^ n) (head n bytes) (256 ^ m) in
    let shown : x * 256 ^ (n + m) + head (n + m) bytes ≡ (x * 256 ^ n + head n bytes) * 256 ^ m + head m (drop n bytes) = rw power_of (omega (arith, rest, times, both)) in
    subst (λ k. head k (x ∷ bytes) ≡ (x * 256 ^ n + head n bytes) * 256 ^ m + head m (drop n bytes)) {x = suc (n + m)} {y = suc n + m} (omega arith) shown

-- the order of two lists of bytes is that of their heads, where these differ
pub less_by_head : (x y : ℕ) (a b : List ℕ) → x ≡ head_of a → y ≡ head_of b → are_bytes b ≡ true → Less ≡ nat_cmp x y → slice_cmp nat_cmp a b ≡ Less
less_by_head x y a b of_a of_b h order =
    let low : x < y = ranked x y Less order in
    head_less 16 a b h (omega (arith, of_a, of_b, low))

pub greater_by_head : (x y : ℕ) (a b : List ℕ) → x ≡ head_of a → y ≡ head_of b → are_bytes a ≡ true → Greater ≡ nat_cmp x y → slice_cmp nat_cmp a b ≡ Greater
greater_by_head x y a b of_a of_b h order =
    let low : y < x = ranked x y Greater order in
    head_greater 16 a b h (omega (arith, of_a, of_b, low))

-- a number with the greater first digit is greater
above : (p a b c d : ℕ) → b < p → a < c → a * p + b < c * p + d
above p a b c d low h =
    let more : p * suc a ≤ p * c = mul-le-mul_left p h in
    omega (arith, more)

-- the same number more on both sides keeps an order
second_digits : (x y b d : ℕ) → x ≡ y → nat_cmp b d ≡ nat_cmp (x + b) (y + d)
second_digits x y b d same = elim (cases_lt b d) [
  | inl less ↦ sym (nat_cmp_is b d Less less) ∙ nat_cmp_is (x + b) (y + d) Less (omega arith)
  | inr most ↦ elim (cases_lt d b) [
    | inl more ↦ sym (nat_cmp_is b d Greater more) ∙ nat_cmp_is (x + b) (y + d) Greater (omega arith)
    | inr least ↦ sym (nat_cmp_is b d Equal (omega arith)) ∙ nat_cmp_is (x + b) (y + d) Equal (omega arith)
  ]
]

-- numbers of two digits are ordered by the first ones, and then by the second ones
pub by_digits : (p a b c d : ℕ) → b < p → d < p → ordering_then (nat_cmp a c) (nat_cmp b d) ≡ nat_cmp (a * p + b) (c * p + d)
by_digits p a b c d low_b low_d = elim (cases_lt a c) [
  | inl less ↦ ap (λ r. ordering_then r (nat_cmp b d)) (sym (nat_cmp_is a c Less less)) ∙ nat_cmp_is (a * p + b) (c * p + d) Less (above p a b c d low_b less)
  | inr most ↦ elim (cases_lt c a) [
    | inl more ↦ ap (λ r. ordering_then r (nat_cmp b d)) (sym (nat_cmp_is a c Greater more)) ∙ nat_cmp_is (a * p + b) (c * p + d) Greater (above p c d a b low_d more)
    | inr least ↦
        let same : a ≡ c = omega arith in
        let times : a * p ≡ c * p = ap (λ x. x * p) same in
        ap (λ r. ordering_then r (nat_cmp b d)) (sym (nat_cmp_is a c Equal same)) ∙ second_digits (a * p) (c * p) b d times
  ]
]

-- a list of at most eight bytes has none after them
pub no_second : (bytes : List ℕ) → length bytes ≤ 8 → head 8 (drop 8 bytes) ≡ 0
no_second bytes short = ap (head 8) (drop_all 8 bytes short) ∙ no_head 8

-- ---- names with one head
-- the bytes of a name are bytes that a name may have
named : (bytes : List ℕ) → is_name bytes ≡ true → list_all is_name_byte bytes ≡ true
unfolding is_name
named bytes h = grind (arith, h)

-- which are not 0
first_named : (x : ℕ) (bytes : List ℕ) → list_all is_name_byte (x ∷ bytes) ≡ true → 0 < x
first_named zero bytes h = cc
first_named (suc x) bytes h = omega arith

rest_named : (x : ℕ) (bytes : List ℕ) → list_all is_name_byte (x ∷ bytes) ≡ true → list_all is_name_byte bytes ≡ true
rest_named x bytes h = elim (is_name_byte x) as (λ b. b && list_all is_name_byte bytes ≡ true → list_all is_name_byte bytes ≡ true) [
  | true ↦ λ t. t
  | false ↦ λ f. cc
] h

-- a number with a digit above 0 is above 0
some_digit : (x p r : ℕ) → 0 < x → 1 ≤ p → 0 ≡ x * p + r → ⊥
some_digit x p r h one same =
    let more : p * 1 ≤ p * x = mul-le-mul_left p h in
    omega (arith, more)

-- numbers with different first digits differ
apart : (x y p r s : ℕ) → x < y → r < p → x * p + r ≡ y * p + s → ⊥
apart x y p r s h less same =
    let more : p * suc x ≤ p * y = mul-le-mul_left p h in
    omega (arith, more)

-- lists without a 0 that have one head are one, where one of them is shorter than the head
same_head : (n : ℕ) (a b : List ℕ) → are_bytes a ≡ true → are_bytes b ≡ true → list_all is_name_byte a ≡ true → list_all is_name_byte b ≡ true → length b < n → head n a ≡ head n b → slice_cmp nat_cmp a b ≡ Equal
unfolding head
same_head zero a b h i k l short same = absurd (omega arith)
same_head (suc n) [] [] h i k l short same = refl
same_head (suc n) [] (y ∷ b) h i k l short same = absurd (some_digit y (256 ^ n) (head n b) (first_named y b l) (some n) same)
same_head (suc n) (x ∷ a) [] h i k l short same = absurd (some_digit x (256 ^ n) (head n a) (first_named x a k) (some n) (sym same))
same_head (suc n) (x ∷ a) (y ∷ b) h i k l short same = elim (cases_lt x y) [
  | inl less ↦ absurd (apart x y (256 ^ n) (head n a) (head n b) less (head_below n a (rest_are x a h)) same)
  | inr most ↦ elim (cases_lt y x) [
    | inl more ↦ absurd (apart y x (256 ^ n) (head n b) (head n a) more (head_below n b (rest_are y b i)) (sym same))
    | inr least ↦
        let one : x ≡ y = omega arith in
        let times : x * 256 ^ n ≡ y * 256 ^ n = ap (λ z. z * 256 ^ n) one in
        ap (λ r. ordering_then r (slice_cmp nat_cmp a b)) (sym (nat_cmp_is x y Equal one))
        ∙ same_head n a b (rest_are x a h) (rest_are y b i) (rest_named x a k) (rest_named y b l) (omega arith) (omega (arith, times, same))
  ]
]

-- a name has the head of a short one only where it is the same
pub same_by_head : (x y : ℕ) (a b : List ℕ) → x ≡ head_of a → y ≡ head_of b → are_bytes a ≡ true → are_bytes b ≡ true → is_name a ≡ true → is_name b ≡ true → length b < 16 → Equal ≡ nat_cmp x y → slice_cmp nat_cmp a b ≡ Equal
same_by_head x y a b of_a of_b h i k l short order =
    let one : x ≡ y = ranked x y Equal order in
    same_head 16 a b h i (named a k) (named b l) short (omega (arith, of_a, of_b, one))
