-- The value of digits and the numbers of words, one after another.
use Rattle.std.proofs.Common.{◌≡◌, ℕ, ◌+◌, ◌-◌, ◌*◌, ◌≤◌, ◌<◌, true, ◌&&◌, nat_le, nat_lt, List, [], ◌∷◌, length, drop, get_or, sym, ◌∙◌, ap, arith, Option, Some, None}
use Rattle.std.specs.List.{list_all}
use Rattle.std.proofs.lemmas.Bool.{le-leb, lt-leb, lt-ltb, and_from, and_right}
use Rattle.std.proofs.lemmas.List.{at_drop_more, at_drop_all}
use Rattle.std.proofs.Math.Nat.{mul-le-mul_right}
use Rattle.fs_path.specs.Options.{keep_if}
use Rattle.fs_path.specs.Values.{is_digit, digits_value}

-- the value of digits after digits of the value v, where all are digits and it is at most `high`
abbrev pub value_within : ℕ → ℕ → ℕ → List ℕ → Option ℕ
value_within base high v ds = keep_if (list_all (is_digit base) ds && nat_le (digits_value base v ds) high) (digits_value base v ds)

-- further digits never make a value smaller
value_from : (base v : ℕ) (ds : List ℕ) → 1 ≤ base → v ≤ digits_value base v ds
unfolding digits_value
value_from base v [] h = omega arith
value_from base v (d ∷ ds) h =
    let more = value_from base (base * v + (d - 48)) ds h in
    let up = mul-le-mul_right v h in
    omega (arith, more, up)

within_nil : (base high v : ℕ) → v ≤ high → value_within base high v [] ≡ Some v
unfolding digits_value
within_nil base high v h = ap (λ t. keep_if t v) (le-leb v high h)

within_more : (base high v d : ℕ) (ds : List ℕ) → is_digit base d ≡ true → value_within base high v (d ∷ ds) ≡ value_within base high (base * v + (d - 48)) ds
unfolding digits_value
within_more base high v d ds e = ap (λ t. keep_if (t && list_all (is_digit base) ds && nat_le (digits_value base (base * v + (d - 48)) ds) high) (digits_value base (base * v + (d - 48)) ds)) e

-- a value above `high` stays above it
pub within_over : (base high v : ℕ) (ds : List ℕ) → 1 ≤ base → high < v → value_within base high v ds ≡ None
within_over base high v ds h over =
    let up = value_from base v ds h in
    let big : high < digits_value base v ds = omega arith in
    ap (λ t. keep_if t (digits_value base v ds)) (and_right (list_all (is_digit base) ds) (nat_le (digits_value base v ds) high) (lt-leb (digits_value base v ds) high big))

digit_at : (base d : ℕ) → 48 ≤ d → d < 48 + base → is_digit base d ≡ true
digit_at base d low high = and_from (nat_le 48 d) (nat_lt d (48 + base)) (le-leb 48 d low) (lt-ltb d (48 + base) high)

-- the next digit is read
pub within_step : (base high v i d : ℕ) (word : List ℕ) → i < length word → d ≡ get_or word i 0 → 48 ≤ d → d < 48 + base
    → value_within base high v (drop i word) ≡ value_within base high (base * v + (d - 48)) (drop (i + 1) word)
within_step base high v i d word h is low up =
    at_drop_more (value_within base high v) word i 0 h ∙ ap (λ x. value_within base high v (x ∷ drop (i + 1) word)) (sym is)
    ∙ within_more base high v d (drop (i + 1) word) (digit_at base d low up)

pub within_all : (base high v i : ℕ) (word : List ℕ) → length word ≤ i → v ≤ high → value_within base high v (drop i word) ≡ Some v
within_all base high v i word h le = at_drop_all (value_within base high v) word i h ∙ within_nil base high v le
