-- The laws that implementations of traits cite, with their proofs: capabilities and sets of them are compared as what they are,
-- and a set is stored as the bits of a number. Rattle takes what an implementation cites from `specs/` alone.
use Rattle.std.specs.Prelude.{◌≡◌, ℕ, ◌<◌, Bool, true, List, [], ◌∷◌, cond, refl, ◌&&◌, ◌==◌, zero, suc, ◌+◌, ◌*◌, ◌/◌, ◌%◌, ◌^◌, map}
use Rattle.std.specs.Cmp.{IsTotalOrder, nat_cmp_total, IsEquivalence, both_ways, decided}
use Rattle.std.specs.FinMap.{IsAntisymmetric}
use Rattle.std.specs.List.{list_any}
use Rattle.std.specs.Ordering.{eq_by_cmp}
use Rattle.std.proofs.Common.{ap, sym, ◌∙◌, arith}
use Rattle.std.proofs.lemmas.Cmp.{on_total}
use Rattle.std.proofs.lemmas.Map.Lookups.{exact_unsigned}
use Rattle.cap_bits.specs.declared.cap.Cap.{Cap}
use Rattle.cap_bits.specs.declared.cap.Cap.TheVariants.{Chown, DacExecute, DacReadSearch, DacWrite, Fowner, Fsetid, Kill, LinkDir, Setfcap, Setgid, Setuid, MacDowngrade, MacRead, MacRelabelSubj, MacUpgrade, MacWrite, AuditControl, AuditWrite}
use Rattle.cap_bits.specs.Cap.{cap_number, all_caps, cap_at, cap_at-number, cap_cmp}
use Rattle.std.specs.FinSet as set
use Rattle.std.specs.Bool.{Decides}
use Rattle.std.proofs.lemmas.Bool.{and_parts}
use Rattle.cap_bits.specs.CapSet.{CapSet, has, all_of_caps, is_within, same_sets}
use Rattle.std.specs.Int.{bit_at}
use Rattle.std.proofs.lemmas.Bool.Decides.{nat_tests}
use Rattle.std.proofs.lemmas.Nat.{shr-shr}
use Rattle.std.proofs.Math.Nat.{pow-suc}
use Rattle.cap_bits.specs.Word.{in_word, caps_of_word, word_of_bits, word_of_caps}

-- ---- capabilities

pub same_number : (a b : Cap) → cap_number a ≡ cap_number b → a ≡ b
same_number a b e = sym (cap_at-number a) ∙ ap cap_at e ∙ cap_at-number b

pub cap_cmp_total : IsTotalOrder cap_cmp
unfolding cap_cmp
cap_cmp_total = on_total cap_number nat_cmp_total

pub cap_cmp_exact : IsAntisymmetric cap_cmp
unfolding cap_cmp
cap_cmp_exact a b e = same_number a b (exact_unsigned (cap_number a) (cap_number b) e)

-- ---- sets of capabilities

listed : (cap : Cap) → list_any (eq_by_cmp cap_cmp cap) all_caps ≡ true
unfolding cap_cmp
listed Chown = refl
listed DacExecute = refl
listed DacReadSearch = refl
listed DacWrite = refl
listed Fowner = refl
listed Fsetid = refl
listed Kill = refl
listed LinkDir = refl
listed Setfcap = refl
listed Setgid = refl
listed Setuid = refl
listed MacDowngrade = refl
listed MacRead = refl
listed MacRelabelSubj = refl
listed MacUpgrade = refl
listed MacWrite = refl
listed AuditControl = refl
listed AuditWrite = refl

pub has-all_of_caps : (q : Cap) → has all_of_caps q ≡ true
unfolding all_of_caps
has-all_of_caps q = set.contains-from_list cap_cmp_total all_caps q ∙ listed q

pub within-has : (a b : CapSet) → is_within a b ≡ true → (q : Cap) → has a q ≡ true → has b q ≡ true
within-has a b = set.is_subset-contains cap_cmp_total a b

pub has-within : (a b : CapSet) → ((q : Cap) → has a q ≡ true → has b q ≡ true) → is_within a b ≡ true
has-within a b = set.contains-is_subset cap_cmp_total a b

-- two sets with the same members are one
pub same_caps : (a b : CapSet) → ((q : Cap) → has a q ≡ has b q) → a ≡ b
same_caps a b = set.same_set cap_cmp_total cap_cmp_exact a b

within_itself : (a : CapSet) → is_within a a ≡ true
within_itself a = has-within a a (λ q h. h)

same_itself : (a : CapSet) → same_sets a a ≡ true
unfolding same_sets
same_itself a = λ i. within_itself a i && within_itself a i

pub same_sets-decides : (a b : CapSet) → Decides (same_sets a b) (a ≡ b)
unfolding same_sets
same_sets-decides a b = (
  λ e. let parts = and_parts (is_within a b) (is_within b a) e in
      same_caps a b (λ q. both_ways (has a q) (has b q) (within-has a b parts.0 q) (within-has b a parts.1 q)),
  λ e. ap (same_sets a) (sym e) ∙ same_itself a,
)

pub same_sets-equiv : IsEquivalence same_sets
same_sets-equiv = decided same_sets same_sets-decides

-- ---- sets as the bits of a number

pub has-caps_of_word : (word : ℕ) (cap : Cap) → has (caps_of_word word) cap ≡ in_word word cap
unfolding caps_of_word
has-caps_of_word word cap =
    set.contains-retain all_of_caps (in_word word) cap (λ x tie. ap (in_word word) (sym (cap_cmp_exact cap x tie)))
    ∙ ap (λ b. b && in_word word cap) (has-all_of_caps cap)

-- n bits of a word from bit k on
abbrev bits_from : ℕ → ℕ → ℕ → List Bool
bits_from word k zero = []
bits_from word k (suc n) = (bit_at word k == 1) ∷ bits_from word (suc k) n

as_bit : (b : ℕ) → b < 2 → cond (b == 1) 1 0 ≡ b
as_bit b h = grind (arith, nat_tests)

-- the bits of a number from bit k on are those of what is left without the lower ones
word_from : (word k n : ℕ) → word / 2 ^ k < 2 ^ n → word_of_bits (bits_from word k n) ≡ word / 2 ^ k
word_from word k zero h = omega arith
word_from word k (suc n) h =
    let e : suc k ≡ k + 1 = omega arith in
    let half : word / 2 ^ suc k ≡ word / 2 ^ k / 2 = ap (λ j. word / 2 ^ j) e ∙ sym (shr-shr word k 1) in
    let double : 2 ^ suc n ≡ 2 ^ n * 2 = pow-suc 2 n in
    let short : word / 2 ^ suc k < 2 ^ n = omega arith in
    let rest : word_of_bits (bits_from word (suc k) n) ≡ word / 2 ^ suc k = word_from word (suc k) n short in
    let low : cond (bit_at word k == 1) 1 0 ≡ word / 2 ^ k % 2 = as_bit (word / 2 ^ k % 2) (omega arith) in
    omega arith

pub word_back : (word : ℕ) → word < 2 ^ 18 → word_of_caps (caps_of_word word) ≡ word
unfolding word_of_caps
word_back word h = (λ i. word_of_bits (map (λ cap. has-caps_of_word word cap i) all_caps)) ∙ word_from word 0 18 (omega arith) ∙ omega arith
