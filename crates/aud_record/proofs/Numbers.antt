-- The number of which a word is the canonical form.
use Rattle.std.specs.Prelude.{◌≡◌, ℕ, ◌^◌, ◌<◌, ◌≤◌, Bool, true, false, ◌&&◌, nat_lt, List, Option, None, Some, refl}
use Rattle.std.specs.Fmt.{decimal}
use Rattle.std.specs.Cmp.Lexicographic.{same_text}
use Rattle.std.specs.Str.Parse.{digits_value}
use Rattle.std.proofs.Common.{ap, sym, subst, ◌∙◌, arith}
use Rattle.std.proofs.lemmas.Bool.{ltb-true, ltb-false, lt-ltb, and_parts, and_from}
use Rattle.std.proofs.lemmas.Cmp.{nat_list_eq_equiv}
use Rattle.std.proofs.lemmas.Fmt.{decimal_is_IsNumeral, decimal_injective}
use Rattle.std.proofs.lemmas.Option.{cond_some}
use Rattle.fs_path.specs.Options.{keep_if}
use Rattle.lab_text.specs.Names.{same_bytes}
use Rattle.aud_record.specs.Canonical.{canonical_number}

-- ---- tests

-- a text has the same bytes as itself
pub same_itself : (word : List ℕ) → same_bytes word word ≡ true
same_itself = nat_list_eq_equiv.refl

pub same_is : (a b : List ℕ) → same_bytes a b ≡ true → a ≡ b
same_is a b e = same_text a b (sym e)

-- an option that can have no value has none
pub none_from : {X : Type 0} (o : Option X) → ((x : X) → o ≡ Some x → ⊥) → o ≡ None
none_from None against = refl
none_from (Some x) against = absurd (against x refl)

-- ---- numbers

-- a number is below the bound, and the word is its digits
pub record IsNumber (bound : ℕ) (word : List ℕ) (n : ℕ) : Type 0 where
  pub small : n < bound
  pub text : word ≡ decimal n

pub number_is : (bound n : ℕ) (word : List ℕ) → canonical_number bound word ≡ Some n → IsNumber bound word n
unfolding canonical_number
number_is bound n word h =
    let kept = cond_some _ (digits_value 10 word) n h in
    let parts = and_parts (nat_lt (digits_value 10 word) bound) (same_bytes (decimal (digits_value 10 word)) word) kept.0 in
    subst (IsNumber bound word) kept.1 (record { small = ltb-true (digits_value 10 word) bound parts.0; text = sym (same_is (decimal (digits_value 10 word)) word parts.1) })

pub number_round_trip : (bound n : ℕ) → n < bound → n < 2 ^ 64 → canonical_number bound (decimal n) ≡ Some n
unfolding canonical_number
number_round_trip bound n small fits =
    let value = (decimal_is_IsNumeral n fits).1 in
    ap (λ v. keep_if (nat_lt v bound && same_bytes (decimal v) (decimal n)) v) value ∙ ap (λ t. keep_if t n) (and_from (nat_lt n bound) (same_bytes (decimal n) (decimal n)) (lt-ltb n bound small) (same_itself (decimal n)))

-- a word that is the digits of no number below the bound has no canonical number
pub no_number : (bound : ℕ) (word : List ℕ) → ((n : ℕ) → n < bound → word ≡ decimal n → ⊥) → canonical_number bound word ≡ None
no_number bound word against = none_from (canonical_number bound word) (λ n h. let is = number_is bound n word h in against n is.small is.text)

-- a number, where it is below a bound
abbrev pub below : ℕ → Option ℕ → Option ℕ
below bound None = None
below bound (Some n) = keep_if (nat_lt n bound) n

-- the canonical number below a bound, from that below a higher bound
pub number_below : (low high : ℕ) (word : List ℕ) (parsed : Option ℕ) → low ≤ high → high ≤ 2 ^ 64 → parsed ≡ canonical_number high word → canonical_number low word ≡ below low parsed
number_below low high word None le fits h =
    no_number low word (λ n small text. let round_trip : canonical_number high word ≡ Some n = ap (canonical_number high) text ∙ number_round_trip high n (omega arith) (omega arith) in cc)
number_below low high word (Some n) le fits h =
    let is = number_is high n word (sym h) in
    by_test (nat_lt n low) refl is
  where
    by_test : (v : Bool) → nat_lt n low ≡ v → IsNumber high word n → canonical_number low word ≡ keep_if v n
    by_test true lt is = ap (canonical_number low) is.text ∙ number_round_trip low n (ltb-true n low lt) (let small = is.small in omega arith)
    by_test false ge is = no_number low word (λ m small text. let same : m ≡ n = decimal_injective m n (let below = is.small in omega arith) (let below = is.small in omega arith) (sym text ∙ is.text) in let at = ltb-false n low ge in omega arith)
