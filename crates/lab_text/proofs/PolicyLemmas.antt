-- The levels, categories and grades of a policy, as numbers and sets.
use Rattle.std.proofs.Common.{◌≡◌, ℕ, ◌+◌, ◌-◌, ◌≤◌, ◌<◌, false, ◌==◌, ◌||◌, nat_lt, List, length, Option, Some, None, ap, sym, ◌∙◌, arith}
use Rattle.std.specs.Prelude.{◌↔◌, IsSome, IfSome}
use Rattle.std.specs.FinSet as set
use Rattle.std.specs.List.{range_with_len}
use Rattle.std.proofs.lemmas.Bool.Decides.{nat_tests}
use Rattle.lab_lattice.specs.Cats.{CatSet, has_cat, no_cats, one_cat, cats_join}
use Rattle.lab_lattice.specs.Grade.{Grade, same_grades, grade_of, highest_grade}
use Rattle.lab_lattice.specs.Laws.{has-cats_join, same_cats}
use Rattle.lab_lattice.proofs.CatSets.{has-no_cats, has-one_cat}
use Rattle.lab_text.specs.Names.{Names, same_bytes, place_of}
use Rattle.lab_text.specs.declared.lists.NameList.TheVariants.{Levels, Categories}
use Rattle.lab_text.specs.Policy.{PolicyNames, MakePolicy, lowest_grade, top_of}
use Rattle.fs_path.proofs.SplitLemmas.{position_found}
use Rattle.lab_text.proofs.PolicyFacts.{policy_facts}
use Rattle.lab_text.proofs.Parsed.{has-first_cats}

-- ---- places fit

pub level_low : (p : PolicyNames) (name : List ℕ) (i : ℕ) → MakePolicy p → place_of p.levels name ≡ Some i → i ≤ 15
level_low p name i h e = let few : length p.levels ≤ 16 = (policy_facts p h Levels).few in let found = position_found (same_bytes name) p.levels i e in omega arith

pub cat_low : (p : PolicyNames) (name : List ℕ) (i : ℕ) → MakePolicy p → place_of p.cats name ≡ Some i → i < 64
cat_low p name i h e = let few : length p.cats ≤ 64 = (policy_facts p h Categories).few in let found = position_found (same_bytes name) p.cats i e in omega arith

-- a call that returns a value exactly where a condition holds returns it where it holds
pub answered : {A : Type 0} (r : Option A) (x : A) (P : Type 0) → (IsSome r ↔ P) → IfSome r (λ y. y ≡ x) → P → r ≡ Some x
answered None x P s i p = let some = s.1 p in absurd (cc)
answered (Some y) x P s i p = ap Some i

-- what holds in any case holds of a value that there may be
pub if_some : {A : Type 0} {P : Type 0} (r : Option A) → P → IfSome r (λ _. P)
if_some None p = tt
if_some (Some y) p = p

-- the top label of a policy has its last level, the categories below their count, and its lowest grade
pub is_top : (p : PolicyNames) (level : ℕ) (cats : CatSet) (grade : Grade) (n m : ℕ) → level ≡ n - 1 → n ≡ length p.levels → cats ≡ set.from_list (range_with_len 0 m) → m ≡ length p.cats → grade ≡ lowest_grade p.grades
    → record { first = record { first = level; second = cats }; second = record { inner = grade } } ≡ top_of p
unfolding top_of
is_top p level cats grade n m e f g h k = λ i. record {
  first = record { first = (e ∙ ap (λ k. k - 1) f) i; second = (g ∙ ap (λ k. set.from_list (range_with_len 0 k)) h) i };
  second = record { inner = k i };
}

-- ---- grades

-- where no grade has a name, there is the highest alone
pub no_grades : (names : Names) → length names ≡ 0 → highest_grade ≡ lowest_grade names
no_grades names h = same_grades highest_grade (lowest_grade names) (omega arith)

-- a grade with a number that there is
pub graded : (r : Option Grade) (n : ℕ) → (IsSome r ↔ (n ≤ 15)) → IfSome r (λ g. g.number ≡ n) → n ≤ 15 → r ≡ Some (grade_of n)
graded None n s i h = let some = s.1 h in absurd (cc)
graded (Some g) n s i h = let same : g.number ≡ n = i in ap Some (same_grades g (grade_of n) (omega arith))

-- ---- the categories below a number

below_zero : (q : ℕ) → false ≡ nat_lt q 0
below_zero q = grind (arith, nat_tests)

below_next : (q i : ℕ) → (nat_lt q i || (q == i)) ≡ nat_lt q (i + 1)
below_next q i = grind (arith, nat_tests)

pub none_below : (cats : CatSet) (q : ℕ) → cats ≡ no_cats → has_cat cats q ≡ nat_lt q 0
none_below cats q e = ap (λ (c : CatSet). has_cat c q) e ∙ has-no_cats q ∙ below_zero q

pub more_below : (cats one new : CatSet) (i : ℕ) → ((q : ℕ) → has_cat cats q ≡ nat_lt q i) → one ≡ one_cat i → new ≡ cats_join cats one → (q : ℕ) → has_cat new q ≡ nat_lt q (i + 1)
more_below cats one new i below e is q =
    ap (λ (c : CatSet). has_cat c q) (is ∙ ap (cats_join cats) e) ∙ has-cats_join cats (one_cat i) q
    ∙ (λ j. below q j || has-one_cat i q j) ∙ below_next q i

pub all_below : (cats : CatSet) (n : ℕ) → ((q : ℕ) → has_cat cats q ≡ nat_lt q n) → cats ≡ set.from_list (range_with_len 0 n)
all_below cats n below = same_cats cats (set.from_list (range_with_len 0 n)) (λ q. below q ∙ sym (has-first_cats n q))
