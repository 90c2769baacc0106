-- Look-ups in maps and their selections, and how both change where an entry is inserted or removed.
use Rattle.std.specs.Prelude.{◌≡◌, ℕ, ◌+◌, ◌≤◌, Bool, true, false, List, [], ◌∷◌, Option, Some, None, refl, cond, count_by, ◌&&◌}
use Rattle.std.specs.declared.cmp.Ordering.{Ordering}
use Rattle.std.specs.declared.cmp.Ordering.TheVariants.{Less, Equal, Greater}
use Rattle.std.specs.Ordering.{eq_by_cmp, is_eq, is_lt}
use Rattle.std.specs.Option.{option_and_then, option_map}
use Rattle.std.specs.List.{AllByRecursion}
use Rattle.std.specs.Cmp.{IsTotalOrder}
use Rattle.std.specs.FinMap as map
use Rattle.std.specs.FinMap.{FinMap, IsAntisymmetric, find, is_sorted, get-from_entries, get-entries, entries_sorted, same_map, get-insert, get-remove}
use Rattle.std.specs.FinMap.Entries.{below_all}
use Rattle.std.proofs.Common.{sym, ◌∙◌, ap, subst, arith, T}
use Rattle.std.proofs.lemmas.Cmp.{tied_itself}
use Rattle.std.proofs.lemmas.List.Sums.{sum_by-cons}
use Rattle.kern_model.specs.Maps.{with_entry, selected, select, get_or, where_key, count_entries}

pub head_T : (a b : Bool) → T (a && b) → T a
head_T true b p = tt
head_T false b p = p

pub tail_T : (a b : Bool) → T (a && b) → T b
tail_T true b p = p
tail_T false b p = absurd p

module _ {K X : Type 0} (R : K → K → Ordering) where
  none_above : (q : K) (es : List (K × X)) → T (below_all R q es) → find R q es ≡ None
  none_above q [] h = refl
  none_above q (e ∷ es) h =
      elim (R q e.0) as (λ r. T (is_lt r && below_all R q es) → cond (is_eq r) (Some e.1) (find R q es) ≡ None) [
        | Less ↦ λ h. none_above q es h
        | Equal ↦ λ h. absurd h
        | Greater ↦ λ h. absurd h
      ] h

-- keys that compare equal are equal
pub same_key : {K : Type 0} {R : K → K → Ordering} → IsAntisymmetric R → (q k : K) → eq_by_cmp R q k ≡ true → q ≡ k
same_key {R = R} exact q k =
    elim (R q k) as (λ r. R q k ≡ r → is_eq r ≡ true → q ≡ k) [
      | Less ↦ λ _ e. cc
      | Equal ↦ λ h _. exact q k h
      | Greater ↦ λ _ e. cc
    ] refl

module _ {K X Y : Type 0} {R : K → K → Ordering} (exact : IsAntisymmetric R) (f : K → X → Option Y) where
  find-selected : (q : K) (es : List (K × X)) → T (is_sorted R es) → find R q (selected f es) ≡ option_and_then (f q) (find R q es)
  find-selected q [] h = refl
  find-selected q (e ∷ es) h =
      let rest = find-selected q es (tail_T _ _ h) in
      elim (eq_by_cmp R q e.0) as (λ b. eq_by_cmp R q e.0 ≡ b → find R q (with_entry e.0 (f e.0 e.1) (selected f es)) ≡ option_and_then (f q) (cond b (Some e.1) (find R q es))) [
        | true ↦ λ t.
            let same = same_key exact q e.0 t in
            let gone : find R q es ≡ None = none_above R q es (subst (λ k. T (below_all R k es)) (sym same) (head_T _ _ h)) in
            elim (f e.0 e.1) as (λ o. f e.0 e.1 ≡ o → find R q (with_entry e.0 o (selected f es)) ≡ f q e.1) [
              | None ↦ λ w. rest ∙ ap (option_and_then (f q)) gone ∙ sym w ∙ ap (λ k. f k e.1) (sym same)
              | Some y ↦ λ w. ap (λ b. cond b (Some y) (find R q (selected f es))) t ∙ sym w ∙ ap (λ k. f k e.1) (sym same)
            ] refl
        | false ↦ λ t.
            elim (f e.0 e.1) as (λ o. find R q (with_entry e.0 o (selected f es)) ≡ option_and_then (f q) (find R q es)) [
              | None ↦ rest
              | Some y ↦ ap (λ b. cond b (Some y) (find R q (selected f es))) t ∙ rest
            ]
      ] refl

  -- what the selection has at a key
  pub get-select : IsTotalOrder R → (m : FinMap R X) (q : K) → map.get (select f m) q ≡ option_and_then (f q) (map.get m q)
  unfolding select
  get-select o m q = get-from_entries o (selected f (map.entries m)) q ∙ find-selected q (map.entries m) (entries_sorted m) ∙ ap (option_and_then (f q)) (sym (get-entries m q))

-- a selection by the key alone, which keeps an entry or not and maps its value
module _ {K X Y : Type 0} {R : K → K → Ordering} (o : IsTotalOrder R) (exact : IsAntisymmetric R) (keep : K → Bool) (g : X → Y) where
  kept : (b : Bool) (w : Option X) → b ≡ true → option_and_then (λ x. cond b (Some (g x)) None) w ≡ option_map g w
  kept false w e = cc
  kept true None e = refl
  kept true (Some x) e = refl

  -- what the selection has at a key that it keeps
  pub get-select_kept : (m : FinMap R X) (k : K) → keep k ≡ true → map.get (select (where_key keep g) m) k ≡ option_map g (map.get m k)
  get-select_kept m k h = get-select exact (where_key keep g) o m k ∙ kept (keep k) (map.get m k) h

  pub select-insert_kept : (m : FinMap R X) (k : K) (x : X) → keep k ≡ true → select (where_key keep g) (map.insert m k x) ≡ map.insert (select (where_key keep g) m) k (g x)
  select-insert_kept m k x h = same_map o exact _ _ (λ q.
      get-select exact (where_key keep g) o (map.insert m k x) q ∙ ap (option_and_then (where_key keep g q)) (get-insert o m k x q)
      ∙ elim (eq_by_cmp R q k) as (λ b. eq_by_cmp R q k ≡ b → option_and_then (where_key keep g q) (cond b (Some x) (map.get m q)) ≡ cond b (Some (g x)) (option_and_then (where_key keep g q) (map.get m q))) [
        | true ↦ λ t. ap (λ j. cond (keep j) (Some (g x)) None) (same_key exact q k t) ∙ ap (λ b. cond b (Some (g x)) None) h
        | false ↦ λ t. refl
      ] refl
      ∙ ap (λ w. cond (eq_by_cmp R q k) (Some (g x)) w) (sym (get-select exact (where_key keep g) o m q))
      ∙ sym (get-insert o (select (where_key keep g) m) k (g x) q))

  dropped : (b : Bool) (w : Option X) → b ≡ false → option_and_then (λ x. cond b (Some (g x)) None) w ≡ None
  dropped true w e = cc
  dropped false None e = refl
  dropped false (Some x) e = refl

  pub get-select_dropped : (m : FinMap R X) (k : K) → keep k ≡ false → map.get (select (where_key keep g) m) k ≡ None
  get-select_dropped m k h = get-select exact (where_key keep g) o m k ∙ dropped (keep k) (map.get m k) h

  pub select-insert_dropped : (m : FinMap R X) (k : K) (x : X) → keep k ≡ false → select (where_key keep g) (map.insert m k x) ≡ select (where_key keep g) m
  select-insert_dropped m k x h = same_map o exact _ _ (λ q.
      get-select exact (where_key keep g) o (map.insert m k x) q ∙ ap (option_and_then (where_key keep g q)) (get-insert o m k x q)
      ∙ elim (eq_by_cmp R q k) as (λ b. eq_by_cmp R q k ≡ b → option_and_then (where_key keep g q) (cond b (Some x) (map.get m q)) ≡ option_and_then (where_key keep g q) (map.get m q)) [
        | true ↦ λ t.
            let gone : keep q ≡ false = ap keep (same_key exact q k t) ∙ h in
            dropped (keep q) (Some x) gone ∙ sym (dropped (keep q) (map.get m q) gone)
        | false ↦ λ t. refl
      ] refl
      ∙ sym (get-select exact (where_key keep g) o m q))

  pub select-remove_dropped : (m : FinMap R X) (k : K) → keep k ≡ false → select (where_key keep g) (map.remove m k) ≡ select (where_key keep g) m
  select-remove_dropped m k h = same_map o exact _ _ (λ q.
      get-select exact (where_key keep g) o (map.remove m k) q ∙ ap (option_and_then (where_key keep g q)) (get-remove o m k q)
      ∙ elim (eq_by_cmp R q k) as (λ b. eq_by_cmp R q k ≡ b → option_and_then (where_key keep g q) (cond b None (map.get m q)) ≡ option_and_then (where_key keep g q) (map.get m q)) [
        | true ↦ λ t. sym (dropped (keep q) (map.get m q) (ap keep (same_key exact q k t) ∙ h))
        | false ↦ λ t. refl
      ] refl
      ∙ sym (get-select exact (where_key keep g) o m q))

  pub select-remove_kept : (m : FinMap R X) (k : K) → select (where_key keep g) (map.remove m k) ≡ map.remove (select (where_key keep g) m) k
  select-remove_kept m k = same_map o exact _ _ (λ q.
      get-select exact (where_key keep g) o (map.remove m k) q ∙ ap (option_and_then (where_key keep g q)) (get-remove o m k q)
      ∙ elim (eq_by_cmp R q k) as (λ b. option_and_then (where_key keep g q) (cond b None (map.get m q)) ≡ cond b None (option_and_then (where_key keep g q) (map.get m q))) [ true ↦ refl | false ↦ refl ]
      ∙ ap (λ w. cond (eq_by_cmp R q k) None w) (sym (get-select exact (where_key keep g) o m q))
      ∙ sym (get-remove o (select (where_key keep g) m) k q))

-- a look-up with a default finds the value at the key
pub get_or-found : {K X : Type 0} {R : K → K → Ordering} (m : FinMap R X) (k : K) (d x : X) → map.get m k ≡ Some x → get_or m k d ≡ x
unfolding get_or
get_or-found {X = X} m k d x e = ap (λ (o : Option X). elim o [ None ↦ d | Some y ↦ y ]) e

-- a look-up with a default gives the default where nothing is at the key
pub get_or-absent : {K X : Type 0} {R : K → K → Ordering} (m : FinMap R X) (k : K) (d : X) → map.get m k ≡ None → get_or m k d ≡ d
unfolding get_or
get_or-absent {X = X} m k d e = ap (λ (o : Option X). elim o [ None ↦ d | Some y ↦ y ]) e

pub get_or-same : {K X : Type 0} {R : K → K → Ordering} (m n : FinMap R X) (k : K) (d : X) → map.get m k ≡ map.get n k → get_or m k d ≡ get_or n k d
unfolding get_or
get_or-same {X = X} m n k d e = ap (λ (o : Option X). elim o [ None ↦ d | Some y ↦ y ]) e

agree : {K X Y : Type 0} (f g : K → X → Option Y) (k : K) (o : Option X) → ((x : X) → o ≡ Some x → f k x ≡ g k x) → option_and_then (f k) o ≡ option_and_then (g k) o
agree f g k None h = refl
agree f g k (Some x) h = h x refl

-- selections that agree at each entry of a map are equal
pub select_agree : {K X Y : Type 0} {R : K → K → Ordering} → IsTotalOrder R → IsAntisymmetric R → (f g : K → X → Option Y) (m : FinMap R X) → ((k : K) (x : X) → map.get m k ≡ Some x → f k x ≡ g k x) → select f m ≡ select g m
select_agree o exact f g m h = same_map o exact _ _ (λ q. get-select exact f o m q ∙ agree f g q (map.get m q) (h q) ∙ sym (get-select exact g o m q))

-- `Some` is injective
pub some_same : {X : Type 0} (x y : X) → Some x ≡ Some y → x ≡ y
some_same x y e = cc

pub never_some : {X : Type 0} (w : Option X) (x : X) → w ≡ None → w ≡ Some x → ⊥
never_some w x none some = let no : None ≡ Some x = sym none ∙ some in cc

-- an insertion puts its value at the key
pub get-insert_same : {K X : Type 0} {R : K → K → Ordering} → IsTotalOrder R → (m : FinMap R X) (k : K) (x : X) → map.get (map.insert m k x) k ≡ Some x
get-insert_same o m k x = get-insert o m k x k ∙ ap (λ r. cond (is_eq r) (Some x) (map.get m k)) (tied_itself o k)

-- an insertion at a key where nothing was
module _ {K X : Type 0} {R : K → K → Ordering} (o : IsTotalOrder R) (exact : IsAntisymmetric R) (m : FinMap R X) (k : K) (x : X) (absent : map.get m k ≡ None) where
  -- each entry that was there has another key
  pub other_key : (q : K) (y : X) → map.get m q ≡ Some y → eq_by_cmp R q k ≡ false
  other_key q y e =
      elim (eq_by_cmp R q k) as (λ b. eq_by_cmp R q k ≡ b → b ≡ false) [
        | true ↦ λ t. absurd (never_some (map.get m q) y (ap (map.get m) (same_key exact q k t) ∙ absent) e)
        | false ↦ λ _. refl
      ] refl

  -- each entry that was there stays
  pub get-insert_kept : (q : K) (y : X) → map.get m q ≡ Some y → map.get (map.insert m k x) q ≡ Some y
  get-insert_kept q y e = get-insert o m k x q ∙ ap (λ b. cond b (Some x) (map.get m q)) (other_key q y e) ∙ e

  -- a removal undoes the insertion
  pub remove-insert : map.remove (map.insert m k x) k ≡ m
  remove-insert = same_map o exact _ _ (λ q. get-remove o (map.insert m k x) k q ∙ ap (cond (eq_by_cmp R q k) None) (get-insert o m k x q)
      ∙ elim (eq_by_cmp R q k) as (λ b. eq_by_cmp R q k ≡ b → cond b None (cond b (Some x) (map.get m q)) ≡ map.get m q) [
        | true ↦ λ t. sym (ap (map.get m) (same_key exact q k t) ∙ absent)
        | false ↦ λ _. refl
      ] refl)

-- a change that changes nothing
module _ {K X : Type 0} {R : K → K → Ordering} (o : IsTotalOrder R) (exact : IsAntisymmetric R) (m : FinMap R X) (k : K) where
  -- what is there may be set again
  pub insert-same : (x : X) → map.get m k ≡ Some x → map.insert m k x ≡ m
  insert-same x e = same_map o exact _ _ (λ q.
      get-insert o m k x q
      ∙ elim (eq_by_cmp R q k) as (λ b. eq_by_cmp R q k ≡ b → cond b (Some x) (map.get m q) ≡ map.get m q) [
        | true ↦ λ t. sym (ap (map.get m) (same_key exact q k t) ∙ e)
        | false ↦ λ _. refl
      ] refl)

  -- what is absent may be removed
  pub remove-absent : map.get m k ≡ None → map.remove m k ≡ m
  remove-absent e = same_map o exact _ _ (λ q.
      get-remove o m k q
      ∙ elim (eq_by_cmp R q k) as (λ b. eq_by_cmp R q k ≡ b → cond b None (map.get m q) ≡ map.get m q) [
        | true ↦ λ t. sym (ap (map.get m) (same_key exact q k t) ∙ e)
        | false ↦ λ _. refl
      ] refl)

-- what holds of each entry of a map, after a change of the map
module _ {K X : Type 0} {R : K → K → Ordering} (o : IsTotalOrder R) (exact : IsAntisymmetric R) (P : K → X → Type 0) (m : FinMap R X) (each : (k : K) (x : X) → map.get m k ≡ Some x → P k x) where
  pub each-insert : (k : K) (x : X) → P k x → (q : K) (y : X) → map.get (map.insert m k x) q ≡ Some y → P q y
  each-insert k x new q y e =
      elim (eq_by_cmp R q k) as (λ b. eq_by_cmp R q k ≡ b → cond b (Some x) (map.get m q) ≡ Some y → P q y) [
        | true ↦ λ t f. subst (λ z. P q z) (some_same x y f) (subst (λ j. P j x) (sym (same_key exact q k t)) new)
        | false ↦ λ t f. each q y f
      ] refl (sym (get-insert o m k x q) ∙ e)

  pub each-remove : (k : K) → (q : K) (y : X) → map.get (map.remove m k) q ≡ Some y → P q y
  each-remove k q y e =
      elim (eq_by_cmp R q k) as (λ b. cond b None (map.get m q) ≡ Some y → P q y) [
        | true ↦ λ f. absurd (never_some None y refl f)
        | false ↦ λ f. each q y f
      ] (sym (get-remove o m k q) ∙ e)

  each_listed : (es : List (K × X)) → T (is_sorted R es) → ((q : K) (y : X) → find R q es ≡ Some y → P q y) → AllByRecursion (λ (e : K × X). P e.0 e.1) es
  each_listed [] h found = tt
  each_listed (e ∷ es) h found = (
    found e.0 e.1 (ap (λ r. cond (is_eq r) (Some e.1) (find R e.0 es)) (tied_itself o e.0)),
    each_listed es (tail_T (below_all R e.0 es) (is_sorted R es) h) (λ q y f. found q y
        (elim (eq_by_cmp R q e.0) as (λ b. eq_by_cmp R q e.0 ≡ b → cond b (Some e.1) (find R q es) ≡ Some y) [
          | true ↦ λ t. absurd (never_some (find R q es) y (none_above R q es (subst (λ k. T (below_all R k es)) (sym (same_key exact q e.0 t)) (head_T (below_all R e.0 es) (is_sorted R es) h))) f)
          | false ↦ λ t. f
        ] refl)),
  )

  -- it holds of each entry in the map's list of entries
  pub each-entries : AllByRecursion (λ (e : K × X). P e.0 e.1) (map.entries m)
  each-entries = each_listed (map.entries m) (entries_sorted m) (λ q y f. each q y (get-entries m q ∙ f))

-- ---- how many entries pass a test
module _ {K X : Type 0} {R : K → K → Ordering} (o : IsTotalOrder R) (exact : IsAntisymmetric R) (p : K → X → Bool) where
  abbrev passing : List (K × X) → ℕ
  passing es = count_by (λ (e : K × X). p e.0 e.1) es

  passing-cons : (e : K × X) (es : List (K × X)) (b : Bool) → p e.0 e.1 ≡ b → passing (e ∷ es) ≡ cond b 1 0 + passing es
  passing-cons e es b t = sum_by-cons (λ (e : K × X). cond (p e.0 e.1) 1 0) e es ∙ ap (λ b. cond b 1 0 + passing es) t

  -- the first entry of a list is found by its key
  found_first : (e : K × X) (es : List (K × X)) → find R e.0 (e ∷ es) ≡ Some e.1
  found_first e es = ap (λ r. cond (is_eq r) (Some e.1) (find R e.0 es)) (tied_itself o e.0)

  not_after : (e : K × X) (es : List (K × X)) → T (is_sorted R (e ∷ es)) → (q : K) (y : X) → find R q es ≡ Some y → e.0 ≡ q → ⊥
  not_after e es h q y f same = never_some (find R q es) y (none_above R q es (subst (λ k. T (below_all R k es)) same (head_T (below_all R e.0 es) (is_sorted R es) h))) f

  found_after : (e : K × X) (es : List (K × X)) → T (is_sorted R (e ∷ es)) → (q : K) (y : X) → find R q es ≡ Some y → find R q (e ∷ es) ≡ Some y
  found_after e es h q y f =
      elim (eq_by_cmp R q e.0) as (λ b. eq_by_cmp R q e.0 ≡ b → cond b (Some e.1) (find R q es) ≡ Some y) [
        | true ↦ λ t. absurd (not_after e es h q y f (sym (same_key exact q e.0 t)))
        | false ↦ λ t. f
      ] refl

  none_passing : (es : List (K × X)) → T (is_sorted R es) → ((q : K) (y : X) → find R q es ≡ Some y → p q y ≡ false) → passing es ≡ 0
  none_passing [] h fails = refl
  none_passing (e ∷ es) h fails =
      let step : passing (e ∷ es) ≡ 0 + passing es = passing-cons e es false (fails e.0 e.1 (found_first e es)) in
      let none : passing es ≡ 0 = none_passing es (tail_T (below_all R e.0 es) (is_sorted R es) h) (λ q y f. fails q y (found_after e es h q y f)) in
      omega (arith, step, none)

  one_passing : (es : List (K × X)) → T (is_sorted R es) → ((a b : K) (x y : X) → find R a es ≡ Some x → find R b es ≡ Some y → p a x ≡ true → p b y ≡ true → a ≡ b) → passing es ≤ 1
  one_passing [] h alone = omega arith
  one_passing (e ∷ es) h alone =
      let rest = tail_T (below_all R e.0 es) (is_sorted R es) h in
      elim (p e.0 e.1) as (λ b. p e.0 e.1 ≡ b → passing (e ∷ es) ≤ 1) [
        | true ↦ λ t.
            let fails : (q : K) (y : X) → find R q es ≡ Some y → p q y ≡ false =
            λ q y f. elim (p q y) as (λ b. p q y ≡ b → b ≡ false) [
              | true ↦ λ v. absurd (not_after e es h q y f (alone e.0 q e.1 y (found_first e es) (found_after e es h q y f) t v))
              | false ↦ λ _. refl
            ] refl in
            let step : passing (e ∷ es) ≡ 1 + passing es = passing-cons e es true t in
            let none : passing es ≡ 0 = none_passing es rest fails in
            omega (arith, step, none)
        | false ↦ λ t.
            let step : passing (e ∷ es) ≡ 0 + passing es = passing-cons e es false t in
            let few : passing es ≤ 1 = one_passing es rest (λ a b x y f g. alone a b x y (found_after e es h a x f) (found_after e es h b y g)) in
            omega (arith, step, few)
      ] refl

  -- where no entry passes, there is none
  pub count_entries-none : (m : FinMap R X) → ((k : K) (x : X) → map.get m k ≡ Some x → p k x ≡ false) → count_entries p m ≡ 0
  unfolding count_entries
  count_entries-none m fails = none_passing (map.entries m) (entries_sorted m) (λ q y f. fails q y (get-entries m q ∙ f))

  -- where all entries that pass have one key, there is at most one
  pub count_entries-one : (m : FinMap R X) → ((a b : K) (x y : X) → map.get m a ≡ Some x → map.get m b ≡ Some y → p a x ≡ true → p b y ≡ true → a ≡ b) → count_entries p m ≤ 1
  unfolding count_entries
  count_entries-one m alone = one_passing (map.entries m) (entries_sorted m) (λ a b x y f g. alone a b x y (get-entries m a ∙ f) (get-entries m b ∙ g))
