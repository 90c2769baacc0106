-- What holds of names that make a policy, and the places of names in their list.
use Rattle.std.specs.Prelude.{◌≡◌, ℕ, ◌≤◌, ◌<◌, Bool, true, false, not, ◌&&◌, ◌||◌, ◌==◌, nat_lt, cond, List, [], ◌∷◌, length, get_or, None, Some, zero, suc}
use Rattle.std.specs.Cmp.Lexicographic.{same_text}
use Rattle.std.specs.List.{list_all, list_any, position_or_len}
use Rattle.std.proofs.Common.{ap, refl, sym, ◌∙◌, arith, inl, inr}
use Rattle.std.proofs.lemmas.Bool.{cond-false, lt-ltb, le-ltb, ltb-false, or_cases, or_parts, or_from, and_parts, and_from, not-true, both_ways, false_from_ne_true, not-false}
use Rattle.std.proofs.lemmas.Bool.Decides.{nat_tests}
use Rattle.std.proofs.lemmas.Cmp.{nat_list_eq_equiv}
use Rattle.std.proofs.lemmas.List.Folds.{list_any_at}
use Rattle.std.proofs.lemmas.List.Sums.{position_or_len_is}
use Rattle.fs_path.proofs.PathLaws.{cond_none}
use Rattle.fs_path.proofs.SplitLemmas.{any_before_end, position_found}
use Rattle.lab_text.specs.Names.{Names, same_bytes, is_label_name, are_distinct, place_of}
use Rattle.lab_text.specs.Lists.{all_lists, limit_of, needs_names}
use Rattle.lab_text.specs.Policy.{PolicyNames, names_of, with_names, no_names, names_fault, MakePolicy}
use Rattle.lab_text.specs.declared.lists.NameList.{NameList}
use Rattle.lab_text.specs.declared.lists.NameList.TheVariants.{Levels, Categories, Grades}

-- ---- each list

-- what holds of the names in a list of a policy
pub record HasListFacts (list : NameList) (names : Names) : Type 0 where
  pub enough : (needs_names list && length names == 0) ≡ false
  pub few : length names ≤ limit_of list
  pub named : list_all is_label_name names ≡ true
  pub apart : are_distinct names ≡ true

-- what holds of all lists holds of each
every_list : (f : NameList → Bool) → list_all f all_lists ≡ true → (list : NameList) → f list ≡ true
every_list f h Levels = (and_parts (f Levels) (f Categories && (f Grades && true)) h).0
every_list f h Categories = (and_parts (f Categories) (f Grades && true) (and_parts (f Levels) (f Categories && (f Grades && true)) h).1).0
every_list f h Grades = (and_parts (f Grades) true (and_parts (f Categories) (f Grades && true) (and_parts (f Levels) (f Categories && (f Grades && true)) h).1).1).0

-- what holds of no list doesn't hold of any
no_list : (f : NameList → Bool) → list_any f all_lists ≡ false → (list : NameList) → f list ≡ false
no_list f h Levels = (or_parts (f Levels) (f Categories || (f Grades || false)) h).0
no_list f h Categories = (or_parts (f Categories) (f Grades || false) (or_parts (f Levels) (f Categories || (f Grades || false)) h).1).0
no_list f h Grades = (or_parts (f Grades) false (or_parts (f Categories) (f Grades || false) (or_parts (f Levels) (f Categories || (f Grades || false)) h).1).1).0

all_lists_from : (f : NameList → Bool) → ((list : NameList) → f list ≡ true) → list_all f all_lists ≡ true
all_lists_from f h = and_from (f Levels) (f Categories && (f Grades && true)) (h Levels) (and_from (f Categories) (f Grades && true) (h Categories) (and_from (f Grades) true (h Grades) refl))

no_lists_from : (f : NameList → Bool) → ((list : NameList) → f list ≡ false) → list_any f all_lists ≡ false
no_lists_from f h = or_from (f Levels) (f Categories || (f Grades || false)) (h Levels) (or_from (f Categories) (f Grades || false) (h Categories) (or_from (f Grades) false (h Grades) refl))

-- what holds of each list of names that make a policy
pub policy_facts : (p : PolicyNames) → MakePolicy p → (list : NameList) → HasListFacts list (names_of p list)
unfolding names_fault
policy_facts p h list =
    let one = cond_none _ _ _ h in
    let two = cond_none _ _ _ one.1 in
    let three = cond_none _ _ _ two.1 in
    let four = cond_none _ _ _ three.1 in
    record {
      enough = no_list (λ list. needs_names list && length (names_of p list) == 0) one.0 list;
      few = ltb-false (limit_of list) (length (names_of p list)) (no_list (λ list. nat_lt (limit_of list) (length (names_of p list))) two.0 list);
      named = every_list (λ list. list_all is_label_name (names_of p list)) (not-false _ three.0) list;
      apart = every_list (λ list. are_distinct (names_of p list)) (not-false _ four.0) list;
    }

-- names make a policy where this holds of each list
pub policy_made : (p : PolicyNames) → ((list : NameList) → HasListFacts list (names_of p list)) → MakePolicy p
unfolding names_fault
policy_made p h =
    cond-false _ _ _ (no_lists_from (λ list. needs_names list && length (names_of p list) == 0) (λ list. (h list).enough))
    ∙ cond-false _ _ _ (no_lists_from (λ list. nat_lt (limit_of list) (length (names_of p list))) (λ list. le-ltb (limit_of list) (length (names_of p list)) (h list).few))
    ∙ cond-false _ _ _ (ap not (all_lists_from (λ list. list_all is_label_name (names_of p list)) (λ list. (h list).named)))
    ∙ cond-false _ _ _ (ap not (all_lists_from (λ list. are_distinct (names_of p list)) (λ list. (h list).apart)))

at_least_one : (n : ℕ) → (n == 0) ≡ false → 1 ≤ n
at_least_one n h = grind (arith, nat_tests)

-- a policy has a level
pub some_level : (p : PolicyNames) → MakePolicy p → 1 ≤ length p.levels
some_level p h = at_least_one (length p.levels) (policy_facts p h Levels).enough

-- the levels of a policy make one without categories and grades
pub levels_alone : (p : PolicyNames) → MakePolicy p → MakePolicy (with_names no_names Levels p.levels)
levels_alone p h = policy_made (with_names no_names Levels p.levels) each
  where
    each : (list : NameList) → HasListFacts list (names_of (with_names no_names Levels p.levels) list)
    each Levels = policy_facts p h Levels
    each Categories = record { enough = refl; few = omega arith; named = refl; apart = refl }
    each Grades = record { enough = refl; few = omega arith; named = refl; apart = refl }

-- the names of a policy make one without grades too
pub without_grades : (p : PolicyNames) → MakePolicy p → MakePolicy (with_names p Grades [])
without_grades p h = policy_made (with_names p Grades []) each
  where
    each : (list : NameList) → HasListFacts list (names_of (with_names p Grades []) list)
    each Levels = policy_facts p h Levels
    each Categories = policy_facts p h Categories
    each Grades = record { enough = refl; few = omega arith; named = refl; apart = refl }

-- ---- places

-- what holds of each name in a list holds of a name that is in it
listed_holds : (f : List ℕ → Bool) (names : Names) (word : List ℕ) → list_any (same_bytes word) names ≡ true → list_all f names ≡ true → f word ≡ true
listed_holds f [] word h all = absurd (cc)
listed_holds f (x ∷ xs) word h all =
    let parts = and_parts (f x) (list_all f xs) all in
    elim (or_cases (same_bytes word x) (list_any (same_bytes word) xs) h) [
      | inl same ↦ ap f (same_text word x (sym same)) ∙ parts.0
      | inr later ↦ listed_holds f xs word later parts.1
    ]

-- a level's name has the form of a name
pub placed_name : (p : PolicyNames) (word : List ℕ) (i : ℕ) → MakePolicy p → place_of p.levels word ≡ Some i → is_label_name word ≡ true
placed_name p word i h e = listed_holds is_label_name p.levels word (position_found (same_bytes word) p.levels i e).2 (policy_facts p h Levels).named

-- a name that is not in the list has no place
pub unlisted_unplaced : (names : Names) (word : List ℕ) → list_any (same_bytes word) names ≡ false → place_of names word ≡ None
unlisted_unplaced names word h = ap (λ v. cond v (Some (position_or_len (same_bytes word) names)) None) (sym (any_before_end (same_bytes word) names) ∙ h)

-- a name differs from those before it, where no two names are equal
apart_before : (names : Names) (i k : ℕ) → are_distinct names ≡ true → k < i → i < length names → same_bytes (get_or names i []) (get_or names k []) ≡ false
apart_before [] i k d lt within = absurd (omega arith)
apart_before (x ∷ xs) zero k d lt within = absurd (omega arith)
apart_before (x ∷ xs) (suc i) zero d lt within =
    let parts = and_parts (not (list_any (same_bytes x) xs)) (are_distinct xs) d in
    false_from_ne_true _ (λ e. both_ways (list_any (same_bytes x) xs) (not-true _ parts.0)
    (list_any_at (same_bytes x) xs i [] (omega arith) (nat_list_eq_equiv.symm x (get_or xs i []) ∙ e)))
apart_before (x ∷ xs) (suc i) (suc k) d lt within =
    apart_before xs i k (and_parts (not (list_any (same_bytes x) xs)) (are_distinct xs) d).1 (omega arith) (omega arith)

-- each name has its own place, where no two names are equal
pub place_of_own : (names : Names) (i : ℕ) → are_distinct names ≡ true → i < length names → place_of names (get_or names i []) ≡ Some i
place_of_own names i d within =
    let first : position_or_len (same_bytes (get_or names i [])) names ≡ i =
    position_or_len_is (same_bytes (get_or names i [])) names i [] (omega arith) (λ k lt. apart_before names i k d lt within) (λ _. nat_list_eq_equiv.refl (get_or names i [])) in
    ap (λ k. cond (nat_lt k (length names)) (Some k) None) first ∙ ap (λ v. cond v (Some i) None) (lt-ltb i (length names) within)
