-- The laws that implementations of traits cite, with their proofs: numbers, grades, sets of categories, pairs and
-- lattices in reverse are lattices and are listed in total orders, and a set is stored as the bits of a number. Rattle takes what an implementation cites from `specs/` alone.
use Rattle.std.specs.Prelude.{◌≡◌, ℕ, ◌+◌, ◌*◌, ◌/◌, ◌%◌, ◌^◌, ◌<◌, ◌≤◌, Bool, true, false, ◌&&◌, ◌||◌, ◌==◌, nat_eq, nat_le, nat_lt, max, List, [], ◌∷◌, zero, suc, bit_or}
use Rattle.std.specs.FinSet as set
use Rattle.std.specs.Bool.{Decides, one_answer}
use Rattle.std.specs.Int.{bit_at}
use Rattle.std.specs.List.{list_any, range_with_len}
use Rattle.std.specs.declared.cmp.Ordering.{Ordering}
use Rattle.std.specs.Ordering.{nat_cmp, is_eq, eq_by_cmp, as_partial_cmp}
use Rattle.std.specs.Cmp.{IsEquivalence, IsPartialOrder, IsTotalOrder, Equal-is, both_ways, both_tied, decided, first_so, second_so, on_total, then_total, tied_itself, back_total, eq_by_cmp_equiv, nat_cmp_total, unsigned_tied, po}
use Rattle.std.specs.FinMap.{IsAntisymmetric, nat_cmp-IsAntisymmetric}
use Rattle.std.proofs.Common.{◌∙◌, ap, sym, subst, arith, inl, inr}
use Rattle.std.proofs.lemmas.Bool.{cases_order, cases_lt, lt-ltb, or_left, or_right, or_cases, and_right}
use Rattle.std.proofs.lemmas.Bool.Decides.{nat_tests, Decides-eqb}
use Rattle.std.proofs.lemmas.Nat.Bits.{bit_at-lt, bit_at-zero, bit_at_or, bit_at_above, bit_at-pow_same, bit_at-pow_other, same_from_bits}
use Rattle.std.proofs.Math.Nat.{min-eq_left}
use Rattle.lab_lattice.specs.declared.dual.Dual.{Dual}
use Rattle.lab_lattice.specs.declared.pair.Pair.{Pair}
use Rattle.lab_lattice.specs.Number.{number_covers, number_join, number_meet}
use Rattle.lab_lattice.specs.Cats.{CatSet, has_cat, cats_join, cats_meet, cats_cover, same_sets}
use Rattle.lab_lattice.specs.Grade.{Grade, same_grades, grade_of, grade_covers}
use Rattle.lab_lattice.specs.Word.{in_word, all_cats, cats_of_word, word_with, word_of_cats, cats_cmp}
use Rattle.lab_lattice.specs.Dual.{dual_covers, dual_cmp}
use Rattle.lab_lattice.specs.Pair.{pair_covers, pair_covers-parts, pair_of, pair_cmp, pair_cmp-parts}

-- ---- numbers

pub number_reflexive : (x : ℕ) → number_covers x x ≡ true
number_reflexive x = grind (arith, nat_tests)

pub number_transitive : (x y z : ℕ) → number_covers x y ≡ true → number_covers y z ≡ true → number_covers x z ≡ true
number_transitive x y z p q = grind (arith, nat_tests)

pub number_antisymmetric : (x y : ℕ) → number_covers x y ≡ true → number_covers y x ≡ true → x ≡ y
number_antisymmetric x y p q = grind (arith, nat_tests)

pub number_join_first : (x y : ℕ) → number_covers (number_join x y) x ≡ true
number_join_first x y = grind (arith, nat_tests)

pub number_join_second : (x y : ℕ) → number_covers (number_join x y) y ≡ true
number_join_second x y = grind (arith, nat_tests)

pub number_join_least : (x y z : ℕ) → number_covers z x ≡ true → number_covers z y ≡ true → number_covers z (number_join x y) ≡ true
number_join_least x y z p q = grind (arith, nat_tests)

pub number_meet_first : (x y : ℕ) → number_covers x (number_meet x y) ≡ true
number_meet_first x y = grind (arith, nat_tests)

pub number_meet_second : (x y : ℕ) → number_covers y (number_meet x y) ≡ true
number_meet_second x y = grind (arith, nat_tests)

pub number_meet_greatest : (x y z : ℕ) → number_covers x z ≡ true → number_covers y z ≡ true → number_covers (number_meet x y) z ≡ true
number_meet_greatest x y z p q = grind (arith, nat_tests)

-- ---- grades

-- a grade has its number
pub grade_number : (n : ℕ) → n ≤ 15 → (grade_of n).number ≡ n
grade_number n h = min-eq_left h

pub grade_antisymmetric : (x y : Grade) → grade_covers x y ≡ true → grade_covers y x ≡ true → x ≡ y
grade_antisymmetric x y p q = same_grades x y (number_antisymmetric x.number y.number p q)

-- ---- sets of categories

pub has-cats_join : (x y : CatSet) (q : ℕ) → has_cat (cats_join x y) q ≡ (has_cat x q || has_cat y q)
has-cats_join x y q = set.contains-union nat_cmp_total x y q

pub has-cats_meet : (x y : CatSet) (q : ℕ) → has_cat (cats_meet x y) q ≡ (has_cat x q && has_cat y q)
has-cats_meet x y q = set.contains-intersection nat_cmp_total x y q

pub cover-has : (x y : CatSet) → cats_cover x y ≡ true → (q : ℕ) → has_cat y q ≡ true → has_cat x q ≡ true
cover-has x y = set.is_subset-contains nat_cmp_total y x

pub has-cover : (x y : CatSet) → ((q : ℕ) → has_cat y q ≡ true → has_cat x q ≡ true) → cats_cover x y ≡ true
has-cover x y = set.contains-is_subset nat_cmp_total y x

-- two sets with the same members are one
pub same_cats : (x y : CatSet) → ((q : ℕ) → has_cat x q ≡ has_cat y q) → x ≡ y
same_cats x y = set.same_set nat_cmp_total nat_cmp-IsAntisymmetric x y

pub cats_reflexive : (x : CatSet) → cats_cover x x ≡ true
cats_reflexive x = has-cover x x (λ q h. h)

pub cats_transitive : (x y z : CatSet) → cats_cover x y ≡ true → cats_cover y z ≡ true → cats_cover x z ≡ true
cats_transitive x y z s t = has-cover x z (λ q h. cover-has x y s q (cover-has y z t q h))

pub cats_antisymmetric : (x y : CatSet) → cats_cover x y ≡ true → cats_cover y x ≡ true → x ≡ y
cats_antisymmetric x y s t = same_cats x y (λ q. both_ways (has_cat x q) (has_cat y q) (cover-has y x t q) (cover-has x y s q))

pub cats_join_first : (x y : CatSet) → cats_cover (cats_join x y) x ≡ true
cats_join_first x y = has-cover (cats_join x y) x (λ q h. has-cats_join x y q ∙ or_left (has_cat x q) (has_cat y q) h)

pub cats_join_second : (x y : CatSet) → cats_cover (cats_join x y) y ≡ true
cats_join_second x y = has-cover (cats_join x y) y (λ q h. has-cats_join x y q ∙ or_right (has_cat x q) (has_cat y q) h)

pub cats_join_least : (x y z : CatSet) → cats_cover z x ≡ true → cats_cover z y ≡ true → cats_cover z (cats_join x y) ≡ true
cats_join_least x y z s t = has-cover z (cats_join x y) (λ q h.
    elim (or_cases (has_cat x q) (has_cat y q) (sym (has-cats_join x y q) ∙ h)) [ inl k ↦ cover-has z x s q k | inr k ↦ cover-has z y t q k ])

pub cats_meet_first : (x y : CatSet) → cats_cover x (cats_meet x y) ≡ true
cats_meet_first x y = has-cover x (cats_meet x y) (λ q h. first_so (has_cat x q) (has_cat y q) (sym (has-cats_meet x y q) ∙ h))

pub cats_meet_second : (x y : CatSet) → cats_cover y (cats_meet x y) ≡ true
cats_meet_second x y = has-cover y (cats_meet x y) (λ q h. second_so (has_cat x q) (has_cat y q) (sym (has-cats_meet x y q) ∙ h))

pub cats_meet_greatest : (x y z : CatSet) → cats_cover x z ≡ true → cats_cover y z ≡ true → cats_cover (cats_meet x y) z ≡ true
cats_meet_greatest x y z s t = has-cover (cats_meet x y) z (λ q h. has-cats_meet x y q ∙ (λ i. cover-has x z s q h i && cover-has y z t q h i))

pub same_sets-decides : (x y : CatSet) → Decides (same_sets x y) (x ≡ y)
unfolding same_sets
same_sets-decides x y = (
  λ e. cats_antisymmetric x y (first_so (cats_cover x y) (cats_cover y x) e) (second_so (cats_cover x y) (cats_cover y x) e),
  λ e. ap (same_sets x) (sym e) ∙ (λ i. cats_reflexive x i && cats_reflexive x i),
)

pub same_sets-equiv : IsEquivalence same_sets
same_sets-equiv = decided same_sets same_sets-decides

-- ---- sets as the bits of a number

pub in-power : (i q : ℕ) → in_word (2 ^ i) q ≡ (q == i)
in-power i q = elim (cases_order q i) [
  | inl e ↦ ap (λ k. in_word (2 ^ i) k) e ∙ ap (λ x. x == 1) (bit_at-pow_same i) ∙ sym ((Decides-eqb q i).1 e)
  | inr (inl h) ↦ ap (λ x. x == 1) (bit_at-pow_other i q (λ e. absurd (omega arith))) ∙ grind (arith, nat_tests)
  | inr (inr h) ↦ ap (λ x. x == 1) (bit_at-pow_other i q (λ e. absurd (omega arith))) ∙ grind (arith, nat_tests)
]

either_bit : (x y : ℕ) → x < 2 → y < 2 → (max x y == 1) ≡ (x == 1 || y == 1)
either_bit x y p q = grind (arith, nat_tests)

pub in-or : (a b q : ℕ) → in_word (bit_or a b) q ≡ (in_word a q || in_word b q)
in-or a b q = ap (λ x. x == 1) (bit_at_or a b q) ∙ either_bit (bit_at a q) (bit_at b q) (bit_at-lt a q) (bit_at-lt b q)

same_bit : (x y : ℕ) → x < 2 → y < 2 → (x == 1) ≡ (y == 1) → x ≡ y
same_bit x y p q e = grind (arith, nat_tests)

-- two numbers with the same bits are one
pub same_words : (a b : ℕ) → ((q : ℕ) → in_word a q ≡ in_word b q) → a ≡ b
same_words a b e = same_from_bits a b (λ q. same_bit (bit_at a q) (bit_at b q) (bit_at-lt a q) (bit_at-lt b q) (e q))

-- bit q is 1 where q is in the list
bit_listed : (is : List ℕ) (q : ℕ) → in_word (word_with is) q ≡ list_any (eq_by_cmp nat_cmp q) is
bit_listed [] q = ap (λ x. x == 1) (bit_at-zero q)
bit_listed (i ∷ is) q = in-or (2 ^ i) (word_with is) q ∙ (λ j. (in-power i q ∙ sym (unsigned_tied q i)) j || bit_listed is q j)

-- bit q is 1 where category q is there
pub in-word_of_cats : (x : CatSet) (q : ℕ) → in_word (word_of_cats x) q ≡ has_cat x q
unfolding word_of_cats
in-word_of_cats x q = bit_listed (set.items x) q ∙ sym (set.contains-items x q)

same_word_of_cats : (x y : CatSet) → word_of_cats x ≡ word_of_cats y → x ≡ y
same_word_of_cats x y e = same_cats x y (λ q. sym (in-word_of_cats x q) ∙ ap (λ n. in_word n q) e ∙ in-word_of_cats y q)

listed : (a n i : ℕ) → list_any (λ y. nat_eq y i) (range_with_len a n) ≡ (nat_le a i && nat_lt i (a + n))
listed a zero i = grind (arith, nat_tests)
listed a (suc n) i = ap (λ b. nat_eq a i || b) (listed (a + 1) n i) ∙ grind (arith, nat_tests)

few : (i : ℕ) → (nat_le 0 i && nat_lt i (0 + 64)) ≡ nat_lt i 64
few i = grind (arith, nat_tests)

pub has-cats_of_word : (word i : ℕ) → has_cat (cats_of_word word) i ≡ (nat_lt i 64 && in_word word i)
unfolding cats_of_word
has-cats_of_word word i =
    set.contains-retain (set.from_list all_cats) (in_word word) i (λ x tie. ap (in_word word) (sym (nat_cmp-IsAntisymmetric i x tie)))
    ∙ ap (λ b. b && in_word word i) (set.contains-from_list_nat all_cats i ∙ listed 0 64 i ∙ few i)

-- a number below 2 ^ 64 has no other bits
short : (word i : ℕ) → word < 2 ^ 64 → (nat_lt i 64 && in_word word i) ≡ in_word word i
short word i h = elim (cases_lt i 64) [
  | inl l ↦ ap (λ b. b && in_word word i) (lt-ltb i 64 l)
  | inr m ↦
      let none : bit_at word i ≡ 0 = bit_at_above word 64 i h m in
      let no : in_word word i ≡ false = ap (λ x. x == 1) none in
      and_right (nat_lt i 64) (in_word word i) no ∙ sym no
]

pub has-short_word : (word i : ℕ) → word < 2 ^ 64 → has_cat (cats_of_word word) i ≡ in_word word i
has-short_word word i h = has-cats_of_word word i ∙ short word i h

pub word_back : (word : ℕ) → word < 2 ^ 64 → word_of_cats (cats_of_word word) ≡ word
word_back word h = same_words _ word (λ i. in-word_of_cats (cats_of_word word) i ∙ has-short_word word i h)

joined : (low high : ℕ) → low < 2 ^ 32 → high < 2 ^ 32 → word_of_cats (cats_of_word (low + high * 2 ^ 32)) ≡ low + high * 2 ^ 32
joined low high h k = word_back (low + high * 2 ^ 32) (omega arith)

pub low_back : (low high : ℕ) → low < 2 ^ 32 → high < 2 ^ 32 → word_of_cats (cats_of_word (low + high * 2 ^ 32)) % 2 ^ 32 ≡ low
low_back low high h k = rw (joined low high h k) (omega arith)

pub high_back : (low high : ℕ) → low < 2 ^ 32 → high < 2 ^ 32 → word_of_cats (cats_of_word (low + high * 2 ^ 32)) / 2 ^ 32 ≡ high
high_back low high h k = rw (joined low high h k) (omega arith)

-- ---- the listing of sets

pub cats_cmp_total : IsTotalOrder cats_cmp
unfolding cats_cmp
cats_cmp_total = on_total word_of_cats nat_cmp_total

pub cats_cmp_exact : IsAntisymmetric cats_cmp
unfolding cats_cmp
cats_cmp_exact x y e = same_word_of_cats x y (nat_cmp-IsAntisymmetric (word_of_cats x) (word_of_cats y) e)

-- sets tie in the listing where they are one
pub same_sets-ties : (x y : CatSet) → same_sets x y ≡ eq_by_cmp cats_cmp x y
unfolding cats_cmp
same_sets-ties x y = one_answer (same_sets x y) (eq_by_cmp cats_cmp x y) (same_sets-decides x y)
    (λ e. cats_cmp_exact x y ((Equal-is (cats_cmp x y)).0 e), λ e. ap (λ z. eq_by_cmp cats_cmp x z) (sym e) ∙ ap is_eq (tied_itself cats_cmp_total x))

-- ---- pairs

module _ {A B : Type 0} where
  module _ (f : A → A → Bool) (g : B → B → Bool) where
    -- what is above both parts is above the pair
    pub pair_parts : (x y : Pair A B) → f x.first y.first ≡ true → g x.second y.second ≡ true → pair_covers f g x y ≡ true
    pair_parts x y p q = pair_covers-parts f g x y ∙ (λ i. p i && q i)

    pub covers_first : (x y : Pair A B) → pair_covers f g x y ≡ true → f x.first y.first ≡ true
    covers_first x y p = first_so (f x.first y.first) (g x.second y.second) (sym (pair_covers-parts f g x y) ∙ p)

    pub covers_second : (x y : Pair A B) → pair_covers f g x y ≡ true → g x.second y.second ≡ true
    covers_second x y p = second_so (f x.first y.first) (g x.second y.second) (sym (pair_covers-parts f g x y) ∙ p)

    pub pair_reflexive : ((x : A) → f x x ≡ true) → ((x : B) → g x x ≡ true) → (x : Pair A B) → pair_covers f g x x ≡ true
    pair_reflexive p q x = pair_parts x x (p x.first) (q x.second)

    pub pair_transitive : ((x y z : A) → f x y ≡ true → f y z ≡ true → f x z ≡ true) → ((x y z : B) → g x y ≡ true → g y z ≡ true → g x z ≡ true) → (x y z : Pair A B) → pair_covers f g x y ≡ true → pair_covers f g y z ≡ true → pair_covers f g x z ≡ true
    pair_transitive p q x y z s t = pair_parts x z
        (p x.first y.first z.first (covers_first x y s) (covers_first y z t))
        (q x.second y.second z.second (covers_second x y s) (covers_second y z t))

    pub pair_antisymmetric : ((x y : A) → f x y ≡ true → f y x ≡ true → x ≡ y) → ((x y : B) → g x y ≡ true → g y x ≡ true → x ≡ y) → (x y : Pair A B) → pair_covers f g x y ≡ true → pair_covers f g y x ≡ true → x ≡ y
    pair_antisymmetric p q x y s t i = record {
      first = p x.first y.first (covers_first x y s) (covers_first y x t) i;
      second = q x.second y.second (covers_second x y s) (covers_second y x t) i;
    }

  module _ (f : A → A → Bool) (g : B → B → Bool) (j : A → A → A) (k : B → B → B) where
    pub pair_join_first : ((x y : A) → f (j x y) x ≡ true) → ((x y : B) → g (k x y) x ≡ true) → (x y : Pair A B) → pair_covers f g (pair_of j k x y) x ≡ true
    pair_join_first p q x y = pair_parts f g (pair_of j k x y) x (p x.first y.first) (q x.second y.second)

    pub pair_join_second : ((x y : A) → f (j x y) y ≡ true) → ((x y : B) → g (k x y) y ≡ true) → (x y : Pair A B) → pair_covers f g (pair_of j k x y) y ≡ true
    pair_join_second p q x y = pair_parts f g (pair_of j k x y) y (p x.first y.first) (q x.second y.second)

    pub pair_join_least : ((x y z : A) → f z x ≡ true → f z y ≡ true → f z (j x y) ≡ true) → ((x y z : B) → g z x ≡ true → g z y ≡ true → g z (k x y) ≡ true) → (x y z : Pair A B) → pair_covers f g z x ≡ true → pair_covers f g z y ≡ true → pair_covers f g z (pair_of j k x y) ≡ true
    pair_join_least p q x y z s t = pair_parts f g z (pair_of j k x y)
        (p x.first y.first z.first (covers_first f g z x s) (covers_first f g z y t))
        (q x.second y.second z.second (covers_second f g z x s) (covers_second f g z y t))

    pub pair_meet_first : ((x y : A) → f x (j x y) ≡ true) → ((x y : B) → g x (k x y) ≡ true) → (x y : Pair A B) → pair_covers f g x (pair_of j k x y) ≡ true
    pair_meet_first p q x y = pair_parts f g x (pair_of j k x y) (p x.first y.first) (q x.second y.second)

    pub pair_meet_second : ((x y : A) → f y (j x y) ≡ true) → ((x y : B) → g y (k x y) ≡ true) → (x y : Pair A B) → pair_covers f g y (pair_of j k x y) ≡ true
    pair_meet_second p q x y = pair_parts f g y (pair_of j k x y) (p x.first y.first) (q x.second y.second)

    pub pair_meet_greatest : ((x y z : A) → f x z ≡ true → f y z ≡ true → f (j x y) z ≡ true) → ((x y z : B) → g x z ≡ true → g y z ≡ true → g (k x y) z ≡ true) → (x y z : Pair A B) → pair_covers f g x z ≡ true → pair_covers f g y z ≡ true → pair_covers f g (pair_of j k x y) z ≡ true
    pair_meet_greatest p q x y z s t = pair_parts f g (pair_of j k x y) z
        (p x.first y.first z.first (covers_first f g x z s) (covers_first f g y z t))
        (q x.second y.second z.second (covers_second f g x z s) (covers_second f g y z t))

  module _ {f : A → A → Ordering} {g : B → B → Ordering} where
    pub pair_cmp_total : IsTotalOrder f → IsTotalOrder g → IsTotalOrder (pair_cmp f g)
    pair_cmp_total p q = subst IsTotalOrder (λ i x y. sym (pair_cmp-parts f g x y) i) (then_total (on_total (λ x. x.first) p) (on_total (λ x. x.second) q))

  module _ (f : A → A → Ordering) (g : B → B → Ordering) {D : A → A → Bool} {E : B → B → Bool} where
    -- two pairs tie where their parts do
    pub pair_ties : ((x y : A) → D x y ≡ eq_by_cmp f x y) → ((x y : B) → E x y ≡ eq_by_cmp g x y) → (x y : Pair A B) → (D x.first y.first && E x.second y.second) ≡ eq_by_cmp (pair_cmp f g) x y
    pair_ties s t x y =
        both_tied _ _ (f x.first y.first) (g x.second y.second) (s x.first y.first) (t x.second y.second)
        ∙ ap is_eq (sym (pair_cmp-parts f g x y))

    pub pair_partial_order : ((x y : A) → D x y ≡ eq_by_cmp f x y) → ((x y : B) → E x y ≡ eq_by_cmp g x y) → IsTotalOrder f → IsTotalOrder g → IsPartialOrder (λ (x y : Pair A B). D x.first y.first && E x.second y.second) (as_partial_cmp (pair_cmp f g))
    pair_partial_order s t p q = po (pair_cmp_total p q) (pair_ties s t)

-- ---- lattices in reverse

module _ {A : Type 0} where
  module _ (f : A → A → Bool) where
    pub dual_transitive : ((x y z : A) → f x y ≡ true → f y z ≡ true → f x z ≡ true) → (x y z : Dual A) → dual_covers f x y ≡ true → dual_covers f y z ≡ true → dual_covers f x z ≡ true
    dual_transitive p x y z s t = p z.inner y.inner x.inner t s

    pub dual_antisymmetric : ((x y : A) → f x y ≡ true → f y x ≡ true → x ≡ y) → (x y : Dual A) → dual_covers f x y ≡ true → dual_covers f y x ≡ true → x ≡ y
    dual_antisymmetric p x y s t i = record { inner = p x.inner y.inner t s i }

  pub dual_cmp_total : {f : A → A → Ordering} → IsTotalOrder f → IsTotalOrder (dual_cmp f)
  dual_cmp_total p = back_total (on_total (λ (x : Dual A). x.inner) p)

  module _ {f : A → A → Ordering} {D : A → A → Bool} where
    -- two values tie where the inner ones do
    pub dual_ties : ((x y : A) → D x y ≡ eq_by_cmp f x y) → IsTotalOrder f → (x y : Dual A) → D x.inner y.inner ≡ eq_by_cmp (dual_cmp f) x y
    dual_ties s p x y = s x.inner y.inner ∙ (eq_by_cmp_equiv p).symm x.inner y.inner

    pub dual_partial_order : ((x y : A) → D x y ≡ eq_by_cmp f x y) → IsTotalOrder f → IsPartialOrder (λ (x y : Dual A). D x.inner y.inner) (as_partial_cmp (dual_cmp f))
    dual_partial_order s p = po (dual_cmp_total p) (dual_ties s p)
