-- How many names stand at labels, after a name comes or goes.
use Rattle.std.specs.Prelude.{◌≡◌, ◌&&◌, ◌==◌, not, ℕ, ◌+◌, Bool, true, false, List, [], ◌∷◌, Option, Some, None, cond, is_some, length, refl, suc, sum_by, zero, Ok, Err, OnOk, Result, is_ok, is_err, ◌↔◌}
use Rattle.std.specs.declared.cmp.Ordering.{Ordering}
use Rattle.std.specs.declared.cmp.Ordering.TheVariants.{Less, Equal, Greater}
use Rattle.std.specs.Ordering.{is_eq}
use Rattle.std.specs.Bool.{IsTrue, OnTrue}
use Rattle.std.specs.Cmp.{IsTotalOrder, eq_by_cmp_equiv}
use Rattle.std.specs.List.{list_all}
use Rattle.std.specs.List.Sorted.{IsStrictlySortedBy}
use Rattle.std.specs.BTreeMap.{is_at}
use Rattle.std.specs.Map.{keys_of, lookup}
use Rattle.std.specs.FinMap as map
use Rattle.std.specs.FinMap.{FinMap, IsAntisymmetric, empty_of_len, entries-insert, find, get-empty, get-entries, get-remove, len-empty, put, same_map}
use Rattle.std.specs.FinMap.Entries.{by_order}
use Rattle.std.proofs.Common.{ap, sym, ◌∙◌, subst, arith}
use Rattle.std.proofs.lemmas.Bool.{true≢false}
use Rattle.std.proofs.lemmas.Bool.Decides.{nat_tests}
use Rattle.std.proofs.lemmas.Cmp.{tied_itself}
use Rattle.std.proofs.lemmas.List.Sums.{sum_by-cons}
use Rattle.lab_lattice.specs.Label.{Label, dominates, label_cmp}
use Rattle.lab_lattice.proofs.Labels.{label_cmp_total, label_cmp_exact}
use Rattle.kern_model.specs.declared.numbers.Oid.{Oid}
use Rattle.kern_model.specs.Keys.{oid_cmp, same_oid}
use Rattle.kern_model.proofs.KeyLaws.{oid_cmp_total, oid_cmp_exact}
use Rattle.kern_model.proofs.MapLemmas.{get-insert_same, never_some, same_key, some_same}
use Rattle.kern_model.proofs.Selections.{get-remove_same, insert-insert}
use Rattle.kern_model.proofs.TableLemmas.{entries_view, get_at}
use Rattle.fs_dirs.specs.HolderLabels.{AreCounted, AreNames, Counts, HasMoreAt, Names, are_below, labels_where, names_at, with_name}
use Rattle.fs_dirs.proofs.CountLemmas.{insert-remove, no_entries}

-- ---- sums over tables
swapped : (a b n m : ℕ) → n ≡ b + m → a + n ≡ b + (a + m)
swapped a b n m e = omega arith

module _ {K X : Type 0} (R : K → K → Ordering) (f : K × X → ℕ) where
  put_summed : (k : K) (x : X) (es : List (K × X)) → find R k es ≡ None → sum_by f (put R k x es) ≡ f (k, x) + sum_by f es
  put_summed k x [] none = sum_by-cons f (k, x) []
  put_summed k x (e ∷ es) none =
      elim (R k e.0) as (λ r. cond (is_eq r) (Some e.1) (find R k es) ≡ None → sum_by f (by_order r ((k, x) ∷ e ∷ es) ((e.0, x) ∷ es) (e ∷ put R k x es)) ≡ f (k, x) + sum_by f (e ∷ es)) [
        | Less ↦ λ _. sum_by-cons f (k, x) (e ∷ es)
        | Equal ↦ λ g. absurd (never_some (Some e.1) e.1 g refl)
        | Greater ↦ λ g.
            sum_by-cons f e (put R k x es)
            ∙ swapped (f e) (f (k, x)) (sum_by f (put R k x es)) (sum_by f es) (put_summed k x es g)
            ∙ ap (λ n. f (k, x) + n) (sym (sum_by-cons f e es))
      ] none

  module _ (o : IsTotalOrder R) where
    sum_insert : (m : FinMap R X) (k : K) (x : X) → map.get m k ≡ None → sum_by f (map.entries (map.insert m k x)) ≡ f (k, x) + sum_by f (map.entries m)
    sum_insert m k x none = ap (sum_by f) (entries-insert o m k x) ∙ put_summed k x (map.entries m) (sym (get-entries m k) ∙ none)

    module _ (exact : IsAntisymmetric R) where
      sum_remove : (m : FinMap R X) (k : K) (x : X) → map.get m k ≡ Some x → sum_by f (map.entries m) ≡ f (k, x) + sum_by f (map.entries (map.remove m k))
      sum_remove m k x is = ap (λ (m : FinMap R X). sum_by f (map.entries m)) (sym (insert-remove o exact m k x is)) ∙ sum_insert (map.remove m k) k x (get-remove_same o m k)

      sum_set : (m : FinMap R X) (k : K) (x y : X) → map.get m k ≡ Some x → sum_by f (map.entries (map.insert m k y)) ≡ f (k, y) + sum_by f (map.entries (map.remove m k))
      sum_set m k x y is =
          ap (λ (m : FinMap R X). sum_by f (map.entries m)) (ap (λ (m : FinMap R X). map.insert m k y) (sym (insert-remove o exact m k x is)) ∙ insert-insert o exact (map.remove m k) k x y)
          ∙ sum_insert (map.remove m k) k y (get-remove_same o m k)

-- ---- the names of one object
-- names come at a label
more_by : (b : Bool) (old n sum new s : ℕ) → new ≡ cond b (sum + 1) 0 + s → sum + 1 ≡ (old + 1) + n → new ≡ cond b n 0 + (cond b (old + 1) 0 + s)
more_by true old n sum new s e f = omega arith
more_by false old n sum new s e f = omega arith

pub names_added : (counts : Counts) (label : Label) (w : Option ℕ) → map.get counts label ≡ w → (further sum : ℕ) → sum ≡ names_at w + further → HasMoreAt counts label (further + 1) (map.insert counts label sum)
names_added counts label None is further sum e test =
    let same : sum ≡ further = omega arith in
    sum_insert label_cmp (λ (e : Label × ℕ). cond (test e.0) (e.1 + 1) 0) label_cmp_total counts label sum is
    ∙ ap (λ n. cond (test label) (n + 1) 0 + labels_where test counts) same
names_added counts label (Some old) is further sum e test =
    let at = λ (e : Label × ℕ). cond (test e.0) (e.1 + 1) 0 in
    more_by (test label) old (further + 1) sum _ _ (sum_set label_cmp at label_cmp_total label_cmp_exact counts label old sum is) (omega arith)
    ∙ ap (λ n. cond (test label) (further + 1) 0 + n) (sym (sum_remove label_cmp at label_cmp_total label_cmp_exact counts label old is))

-- a further name goes at a label
less_by : (b : Bool) (old left before after s : ℕ) → before ≡ cond b (old + 1) 0 + s → after ≡ cond b (left + 1) 0 + s → old ≡ left + 1 → before ≡ cond b 1 0 + after
less_by true old left before after s e f g = omega arith
less_by false old left before after s e f g = omega arith

pub further_taken : (counts : Counts) (label : Label) (old left : ℕ) → map.get counts label ≡ Some old → old ≡ left + 1 → HasMoreAt (map.insert counts label left) label 1 counts
further_taken counts label old left is less test =
    let at = λ (e : Label × ℕ). cond (test e.0) (e.1 + 1) 0 in
    less_by (test label) old left _ _ (sum_by at (map.entries (map.remove counts label)))
    (sum_remove label_cmp at label_cmp_total label_cmp_exact counts label old is)
    (sum_set label_cmp at label_cmp_total label_cmp_exact counts label old left is) less

-- the last name goes at a label
pub last_taken : (counts : Counts) (label : Label) (old : ℕ) → map.get counts label ≡ Some old → old ≡ 0 → HasMoreAt (map.remove counts label) label 1 counts
last_taken counts label old is last test =
    sum_remove label_cmp (λ (e : Label × ℕ). cond (test e.0) (e.1 + 1) 0) label_cmp_total label_cmp_exact counts label old is
    ∙ ap (λ n. cond (test label) (n + 1) 0 + labels_where test (map.remove counts label)) last

-- no name stands anywhere at first
pub no_names : (test : Label → Bool) → labels_where test map.empty ≡ 0
no_names test = ap (sum_by (λ (e : Label × ℕ). cond (test e.0) (e.1 + 1) 0)) (no_entries label_cmp ℕ)

-- all labels pass where no name stands at one that does not
all_by : (b : Bool) (k n : ℕ) → (b && (n == 0)) ≡ (cond (not b) (k + 1) 0 + n == 0)
all_by true k n = ap (λ m. m == 0) (let same : n ≡ 0 + n = omega arith in same)
all_by false k n = let more : (k + 1 + n == 0) ≡ false = grind (arith, nat_tests) in sym more

all_labels : (p : Label → Bool) (es : List (Label × ℕ)) → list_all p (keys_of es) ≡ (sum_by (λ (e : Label × ℕ). cond (not (p e.0)) (e.1 + 1) 0) es == 0)
all_labels p [] = refl
all_labels p (e ∷ es) =
    let at = λ (e : Label × ℕ). cond (not (p e.0)) (e.1 + 1) 0 in
    ap (λ b. p e.0 && b) (all_labels p es) ∙ all_by (p e.0) e.1 (sum_by at es) ∙ ap (λ n. n == 0) (sym (sum_by-cons at e es))

pub all_below : (label : Label) (es : List (Label × ℕ)) → IsStrictlySortedBy label_cmp (keys_of es) → list_all (dominates label) (keys_of es) ≡ are_below label (map.from_entries es)
all_below label es sorted =
    all_labels (dominates label) es
    ∙ ap (λ (es : List (Label × ℕ)). sum_by (λ (e : Label × ℕ). cond (not (dominates label e.0)) (e.1 + 1) 0) es == 0) (sym (entries_view label_cmp_total label_cmp_exact es sorted))

-- ---- the names of all objects
-- no object is counted at first
pub none_counted : (names : Names) → AreCounted map.empty names
none_counted names q counts is = absurd (never_some (map.get map.empty q) counts (get-empty oid_cmp q) is)

-- what is counted are the names, however these are told
pub counted_as : (counted : FinMap oid_cmp Counts) (names others : Names) → ((q : Oid) (test : Label → Bool) → names q test ≡ others q test) → AreCounted counted names → AreCounted counted others
counted_as counted names others same are q counts is test = are q counts is test ∙ same q test

nothing_more : (n : ℕ) → n ≡ 0 + n
nothing_more n = omega arith

-- a table after another value is set at one key, or what is there goes
pub one_changed : (es fs : List (Oid × Counts)) (id : Oid) (new : Option Counts) → ((q : Oid) → lookup (is_at (oid_cmp q)) fs ≡ cond (is_at (oid_cmp id) q) new (lookup (is_at (oid_cmp q)) es))
    → (q : Oid) → map.get (map.from_entries {R = oid_cmp} fs) q ≡ cond (same_oid id q) new (map.get (map.from_entries {R = oid_cmp} es) q)
one_changed es fs id new h q = get_at oid_cmp_total fs q ∙ h q ∙ ap (cond (same_oid id q) new) (sym (get_at oid_cmp_total es q))

-- a table from which a key goes
pub one_gone : {K X : Type 0} {R : K → K → Ordering} (o : IsTotalOrder R) → IsAntisymmetric R → (es fs : List (K × X)) (k : K) → ((q : K) → lookup (is_at (R q)) fs ≡ cond (is_at (R k) q) None (lookup (is_at (R q)) es))
    → map.from_entries {R = R} fs ≡ map.remove (map.from_entries es) k
one_gone {R = R} o exact es fs k h = same_map o exact _ _ (λ q.
    get_at o fs q ∙ h q ∙ ap (λ b. cond b None (lookup (is_at (R q)) es)) ((eq_by_cmp_equiv o).symm k q)
    ∙ sym (get-remove o (map.from_entries es) k q ∙ ap (cond (is_at (R q) k) None) (get_at o es q)))

pub gone_at : (m : FinMap oid_cmp Counts) (id q : Oid) → map.get (map.remove m id) q ≡ cond (same_oid id q) None (map.get m q)
gone_at m id q = get-remove oid_cmp_total m id q ∙ ap (λ b. cond b None (map.get m q)) ((eq_by_cmp_equiv oid_cmp_total).symm q id)

-- and after what was set there goes
pub then_gone : (before middle after : FinMap oid_cmp Counts) (id : Oid) (new : Option Counts) → ((q : Oid) → map.get middle q ≡ cond (same_oid id q) new (map.get before q)) → ((q : Oid) → map.get after q ≡ cond (same_oid id q) None (map.get middle q))
    → (q : Oid) → map.get after q ≡ cond (same_oid id q) None (map.get before q)
then_gone before middle after id new set gone q =
    gone q ∙ ap (cond (same_oid id q) None) (set q)
    ∙ elim (same_oid id q) as (λ b. cond b None (cond b new (map.get before q)) ≡ cond b None (map.get before q)) [ true ↦ refl | false ↦ refl ]

module _ (before after : FinMap oid_cmp Counts) (id : Oid) (new : Option Counts) (at : (q : Oid) → map.get after q ≡ cond (same_oid id q) new (map.get before q)) where
  -- what is counted of all other objects stays, and that of one is right
  counted_at : (names others : Names) → ((q : Oid) → same_oid id q ≡ false → (test : Label → Bool) → names q test ≡ others q test) → ((counts : Counts) → new ≡ Some counts → AreNames counts (others id)) → AreCounted before names → AreCounted after others
  counted_at names others same here are q counts is test =
      elim (same_oid id q) as (λ b. same_oid id q ≡ b → cond b new (map.get before q) ≡ Some counts → labels_where test counts ≡ others q test) [
        | true ↦ λ t f. here counts f test ∙ ap (λ (q : Oid). others q test) (same_key oid_cmp_exact id q t)
        | false ↦ λ other f. are q counts f test ∙ same q other test
      ] refl (sym (at q) ∙ is)

  module _ (names : Names) (label : Label) where
    abbrev also : Names
    also = with_name names id label

    without : (q : Oid) → same_oid id q ≡ false → (test : Label → Bool) → names q test ≡ also q test
    without q other test = nothing_more (names q test) ∙ ap (λ b. cond {A = ℕ} (b && test label) 1 0 + names q test) (sym other)

    with_it : (test : Label → Bool) → also id test ≡ cond (test label) 1 0 + names id test
    with_it test = ap (λ r. cond {A = ℕ} (is_eq r && test label) 1 0 + names id test) (tied_itself oid_cmp_total id)

    -- a name more of an object is counted, or the object is not counted
    pub name_added : (old : Counts) → map.get before id ≡ Some old → ((counts : Counts) → new ≡ Some counts → HasMoreAt old label 1 counts) → AreCounted before names → AreCounted after also
    name_added old there more are =
        counted_at names also without (λ counts is test. more counts is test ∙ ap (λ n. cond (test label) 1 0 + n) (are id old there test) ∙ sym (with_it test)) are

    -- and a name less
    pub name_taken : (old : Counts) → map.get before id ≡ Some old → ((counts : Counts) → new ≡ Some counts → HasMoreAt counts label 1 old) → AreCounted before also → AreCounted after names
    name_taken old there less are =
        counted_at also names (λ q other test. sym (without q other test)) (λ counts is test.
        let one = less counts is test in
        let all = are id old there test ∙ with_it test in
        omega (arith, one, all)) are

  -- an object is counted
  pub object_counted : (names : Names) (counts : Counts) → new ≡ Some counts → AreNames counts (names id) → AreCounted before names → AreCounted after names
  object_counted names counts is here are = counted_at names names (λ q other test. refl) (λ others f. subst (λ (c : Counts). AreNames c (names id)) (some_same counts others (sym is ∙ f)) here) are

-- where an object is not counted, its names may be others
module _ (counted : FinMap oid_cmp Counts) (id : Oid) (none : map.get counted id ≡ None) where
  not_there : (q : Oid) → map.get counted q ≡ cond (same_oid id q) None (map.get counted q)
  not_there q = elim (same_oid id q) as (λ b. same_oid id q ≡ b → map.get counted q ≡ cond b None (map.get counted q)) [
    | true ↦ λ t. ap (map.get counted) (sym (same_key oid_cmp_exact id q t)) ∙ none
    | false ↦ λ _. refl
  ] refl

  pub uncounted_added : (names : Names) (label : Label) → AreCounted counted names → AreCounted counted (with_name names id label)
  uncounted_added names label = counted_at counted counted id None not_there names (with_name names id label) (without counted counted id None not_there names label) (λ counts f. absurd (never_some None counts refl f))

  pub uncounted_taken : (names : Names) (label : Label) → AreCounted counted (with_name names id label) → AreCounted counted names
  uncounted_taken names label = counted_at counted counted id None not_there (with_name names id label) names (λ q other test. sym (without counted counted id None not_there names label q other test)) (λ counts f. absurd (never_some None counts refl f))

-- a table that a list makes is empty where the list is
not_none : (n : ℕ) → (n ≡ 0 → ⊥) → (n == 0) ≡ false
not_none zero h = absurd (h refl)
not_none (suc n) h = grind (arith, nat_tests)

pub none_by_len : (es : List (Oid × Counts)) → (length es == 0) ≡ (map.len (map.from_entries {R = oid_cmp} es) == 0)
none_by_len [] = ap (λ n. n == 0) (sym (len-empty oid_cmp Counts))
none_by_len (e ∷ es) =
    let m = map.from_entries {R = oid_cmp} es in
    let some : (length (e ∷ es) == 0) ≡ false = grind (arith, nat_tests) in
    some ∙ sym (not_none (map.len (map.insert m e.0 e.1)) (λ none.
    never_some (map.get (map.insert m e.0 e.1) e.0) e.1 (ap (λ (m : FinMap oid_cmp Counts). map.get m e.0) (empty_of_len (map.insert m e.0 e.1) none) ∙ get-empty oid_cmp e.0) (get-insert_same oid_cmp_total m e.0 e.1)))

-- ---- answers
pub so_true : {P : Type 0} (b : Bool) → P → OnTrue b P
so_true true p = p
so_true false p = tt

pub true_where_ok : {X E A P : Type 0} (r : Result X E) (b : Bool) → b ≡ is_ok r → (A → P) → OnOk r A → OnTrue b P
true_where_ok {P = P} (Ok x) b e f a = subst (λ b. OnTrue b P) (sym e) (f a)
true_where_ok {P = P} (Err x) b e f a = subst (λ b. OnTrue b P) (sym e) tt

pub ok_where_not_err : {X E P : Type 0} (r : Result X E) → is_err r ≡ false → OnOk r P → P
ok_where_not_err (Ok x) e p = p
ok_where_not_err (Err x) e p = absurd (true≢false e)

pub true_where : {P : Type 0} (b : Bool) → b ≡ true → OnTrue b P → P
true_where {P = P} b e p = subst (λ b. OnTrue b P) e p

pub by_zero : (b : Bool) (n : ℕ) → IsTrue b ↔ (n ≡ 0) → b ≡ (n == 0)
by_zero true n h = ap (λ n. n == 0) (sym (h.0 refl))
by_zero false n h = sym (not_none n (λ e. true≢false (sym (h.1 e))))

pub no_value : {X : Type 0} (w : Option X) → is_some w ≡ false → w ≡ None
no_value None e = refl
no_value (Some x) e = absurd (true≢false e)

zero_by : (n : ℕ) → (n == 0) ≡ true → n ≡ 0
zero_by zero e = refl
zero_by (suc n) e = let more : (suc n == 0) ≡ false = grind (arith, nat_tests) in absurd (true≢false (sym e ∙ more))

-- a table without entries is empty
pub empty_by_len : (counted : FinMap oid_cmp Counts) → (map.len counted == 0) ≡ true → counted ≡ map.empty
empty_by_len counted e = empty_of_len counted (zero_by (map.len counted) e)
