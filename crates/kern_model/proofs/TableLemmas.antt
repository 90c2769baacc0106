-- A sorted list of entries, seen as a finite map.
use Rattle.std.specs.Prelude.{◌≡◌, ◌&&◌, Bool, true, false, List, [], ◌∷◌, Option, Some, None, cond, refl}
use Rattle.std.specs.declared.cmp.Ordering.{Ordering}
use Rattle.std.specs.declared.cmp.Ordering.TheVariants.{Less, Equal, Greater}
use Rattle.std.specs.Ordering.{is_lt, is_eq}
use Rattle.std.specs.Cmp.{IsTotalOrder, eq_by_cmp_equiv}
use Rattle.std.specs.BTreeMap.{is_at}
use Rattle.std.specs.List.{AllByRecursion}
use Rattle.std.specs.List.Sorted.{IsStrictlySortedBy}
use Rattle.std.specs.Map.{lookup, keys_of}
use Rattle.std.specs.FinMap.{FinMap, IsAntisymmetric, find, get, insert, from_entries, get-from_entries, get-insert, same_map, is_sorted, entries, from_sorted, entries-from_sorted, get-from_sorted}
use Rattle.std.specs.FinMap.Entries.{below_all}
use Rattle.std.proofs.Common.{ap, sym, ◌∙◌, subst, T}
use Rattle.kern_model.specs.Maps.{get_or}

module _ {K X : Type 0} {R : K → K → Ordering} (o : IsTotalOrder R) where
  find_at : (es : List (K × X)) (q : K) → find R q es ≡ lookup (is_at (R q)) es
  find_at [] q = refl
  find_at (e ∷ es) q = ap (cond (is_at (R q) e.0) (Some e.1)) (find_at es q)

  -- what the map that the entries make has at a key
  pub get_at : (es : List (K × X)) (q : K) → get (from_entries {R = R} es) q ≡ lookup (is_at (R q)) es
  get_at es q = get-from_entries o es q ∙ find_at es q

  -- a list of entries that differs from another at one key, by a value there, makes the map with that entry inserted
  pub one_set : IsAntisymmetric R → (es fs : List (K × X)) (k : K) (x : X) → ((q : K) → lookup (is_at (R q)) fs ≡ cond (is_at (R k) q) (Some x) (lookup (is_at (R q)) es)) → from_entries {R = R} fs ≡ insert (from_entries es) k x
  one_set exact es fs k x h = same_map o exact _ _ (λ q.
      get_at fs q ∙ h q ∙ ap (λ b. cond b (Some x) (lookup (is_at (R q)) es)) ((eq_by_cmp_equiv o).symm k q)
      ∙ sym (get-insert o (from_entries es) k x q ∙ ap (cond (is_at (R q) k) (Some x)) (get_at es q)))

-- ---- entries sorted by their keys
pub both_T : (a b : Bool) → T a → T b → T (a && b)
both_T true b p q = q
both_T false b p q = p

below : {K X : Type 0} (R : K → K → Ordering) (k : K) (es : List (K × X)) → AllByRecursion (λ y. R k y ≡ Less) (keys_of es) → T (below_all R k es)
below R k [] h = tt
below R k (e ∷ es) h = both_T _ _ (subst (λ r. T (is_lt r)) (sym h.0) tt) (below R k es h.1)

in_order : {K X : Type 0} (R : K → K → Ordering) (es : List (K × X)) → IsStrictlySortedBy R (keys_of es) → T (is_sorted R es)
unfolding IsStrictlySortedBy
in_order R [] h = tt
in_order R (e ∷ es) h = both_T _ _ (below R e.0 es h.0) (in_order R es h.1)

module _ {K X : Type 0} {R : K → K → Ordering} (o : IsTotalOrder R) (exact : IsAntisymmetric R) where
  -- sorted entries are those of the map that they make
  pub entries_view : (es : List (K × X)) → IsStrictlySortedBy R (keys_of es) → entries (from_entries {R = R} es) ≡ es
  entries_view es h =
      let sorted = in_order R es h in
      ap entries (same_map o exact (from_entries es) (from_sorted es) (λ q. get-from_entries o es q ∙ sym (get-from_sorted R es q sorted)))
      ∙ entries-from_sorted R es sorted

-- ---- a table with a default
abbrev or_default : {X : Type 0} → X → Option X → X
or_default d None = d
or_default d (Some x) = x

found_equal : (r : Ordering) → is_eq r ≡ true → r ≡ Equal
found_equal Less h = absurd (cc h)
found_equal Equal h = refl
found_equal Greater h = absurd (cc h)

module _ {K X : Type 0} {R : K → K → Ordering} (o : IsTotalOrder R) where
  is_default : (m : FinMap R X) (q : K) (d : X) → get_or m q d ≡ or_default d (get m q)
  unfolding get_or
  is_default m q d = elim (get m q) as (λ v. (elim v [ None ↦ d | Some x ↦ x ]) ≡ or_default d v) [ None ↦ refl | Some x ↦ refl ]

  there_at : (P : K → X → Type 0) (d x : X) (q k : K) (b : Bool) (old : Option X) → (b ≡ true → q ≡ k) → P k x → P q (or_default d old) → P q (or_default d (cond b (Some x) old))
  there_at P d x q k true old same h g = subst (λ z. P z x) (sym (same refl)) h
  there_at P d x q k false old same h g = g

  -- what holds of the new value at a key, and held of the value at each key before, holds of each after the insertion
  pub each_set_at : IsAntisymmetric R → (P : K → X → Type 0) (d : X) (m : FinMap R X) (k : K) (x : X) → P k x → ((q : K) → P q (get_or m q d)) → (q : K) → P q (get_or (insert m k x) q d)
  each_set_at exact P d m k x h g q =
      subst (P q) (sym (is_default (insert m k x) q d)) (subst (λ v. P q (or_default d v)) (sym (get-insert o m k x q))
      (there_at P d x q k _ (get m q) (λ e. exact q k (found_equal (R q k) e)) h (subst (P q) (is_default m q d) (g q))))
