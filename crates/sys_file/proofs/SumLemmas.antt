-- Sums of offsets.
use Rattle.std.specs.Prelude.{◌≡◌, ◌≤◌, ◌||◌, ℕ, ℤ, pos, negsuc, Bool, true, false, Option, None, Some, SomeIff, refl}
use Rattle.std.proofs.Common.{arith, ltb-false, FitsSigned, w64, sym, ◌∙◌}
use Rattle.std.proofs.lemmas.Bool.{true≢false}
use Rattle.kern_model.specs.declared.limits.TheConstants.{MAX_FILE_BYTES}
use Rattle.kern_model.proofs.MapLemmas.{never_some, some_same}
use Rattle.fd_table.specs.Files.{is_past}

-- a value that is given under a condition is that one
pub given : (P : Type 0) (r : Option ℤ) (v z : ℤ) → SomeIff r P v → r ≡ Some z → z ≡ v
given P None v z iff is = absurd (never_some None z refl is)
given P (Some x) v z iff is = sym (some_same x z is) ∙ iff.1

-- where none is given the condition does not hold
pub not_given : (P : Type 0) (r : Option ℤ) (v : ℤ) → SomeIff r P v → r ≡ None → P → ⊥
not_given P None v iff is = iff
not_given P (Some x) v iff is = absurd (never_some (Some x) x is refl)

second_fails : (a b : Bool) → (a || b) ≡ false → b ≡ false
second_fails true b e = absurd (true≢false e)
second_fails false b e = e

-- what is within a file is no large number
within_fits : (z : ℤ) (size : ℕ) → size ≤ MAX_FILE_BYTES → is_past z size ≡ false → FitsSigned w64 z
within_fits (pos n) size few h = record { sfits = omega (arith, few, ltb-false size n (second_fails _ _ h)) }
within_fits (negsuc n) size few h = absurd (true≢false h)

-- a number that is too large is past the end of every file
pub past_all : (z : ℤ) (size : ℕ) → size ≤ MAX_FILE_BYTES → (FitsSigned w64 z → ⊥) → is_past z size ≡ true
past_all z size few far =
    elim (is_past z size) as (λ b. is_past z size ≡ b → b ≡ true) [
      | true ↦ λ _. refl
      | false ↦ λ within. absurd (far (within_fits z size few within))
    ] refl
