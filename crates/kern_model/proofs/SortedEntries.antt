-- Lists of entries that are sorted by their keys, and the maps that they make.
use Rattle.std.specs.Prelude.{◌≡◌, List, [], ◌∷◌, ◌++◌, Option, None, Some, true, false, cond, refl}
use Rattle.std.specs.declared.cmp.Ordering.{Ordering}
use Rattle.std.specs.declared.cmp.Ordering.TheVariants.{Less, Equal, Greater}
use Rattle.std.specs.Ordering.{eq_by_cmp, is_eq, is_lt}
use Rattle.std.specs.Option.{option_or}
use Rattle.std.specs.Cmp.{IsTotalOrder}
use Rattle.std.specs.FinMap.{IsAntisymmetric, entries, entries-from_sorted, find, from_entries, from_sorted, get-from_entries, get-from_sorted, is_sorted, same_map}
use Rattle.std.specs.FinMap.Entries.{below_all}
use Rattle.std.proofs.Common.{ap, sym, ◌∙◌, T}
use Rattle.std.proofs.lemmas.Cmp.{tied_itself}
use Rattle.kern_model.proofs.MapLemmas.{head_T, same_key, tail_T}

pub is_less : (r : Ordering) → T (is_lt r) → r ≡ Less
is_less Less h = refl
is_less Equal h = absurd h
is_less Greater h = absurd h

-- a key is itself
pub same_itself : {K : Type 0} {R : K → K → Ordering} → IsTotalOrder R → (k : K) → eq_by_cmp R k k ≡ true
same_itself o k = ap is_eq (tied_itself o k)

-- ---- what is found
pub or_none : {X : Type 0} (w v : Option X) → v ≡ None → option_or w v ≡ w
or_none None v e = e
or_none (Some x) v e = refl

pub find_both : {K X : Type 0} (R : K → K → Ordering) (q : K) (xs ys : List (K × X)) → find R q (xs ++ ys) ≡ option_or (find R q xs) (find R q ys)
find_both R q [] ys = refl
find_both R q (x ∷ xs) ys = elim (eq_by_cmp R q x.0) as (λ b. cond b (Some x.1) (find R q (xs ++ ys)) ≡ option_or (cond b (Some x.1) (find R q xs)) (find R q ys)) [
  | true ↦ refl
  | false ↦ find_both R q xs ys
]

-- a key that is below all entries has none
pub below_none : {K X : Type 0} {R : K → K → Ordering} → IsAntisymmetric R → (q k : K) (es : List (K × X)) → eq_by_cmp R q k ≡ true → T (below_all R k es) → find R q es ≡ None
below_none exact q k [] same h = refl
below_none {R = R} exact q k (e ∷ es) same h =
    ap (λ r. cond (is_eq r) (Some e.1) (find R q es)) (ap (λ x. R x e.0) (same_key exact q k same) ∙ is_less _ (head_T _ _ h))
    ∙ below_none exact q k es same (tail_T _ _ h)

-- ---- the map that entries make
pub entries_sorted_list : {K X : Type 0} {R : K → K → Ordering} → IsTotalOrder R → IsAntisymmetric R → (es : List (K × X)) → T (is_sorted R es) → entries (from_entries {R = R} es) ≡ es
entries_sorted_list {R = R} o exact es sorted =
    ap entries (same_map o exact (from_entries es) (from_sorted es) (λ q. get-from_entries o es q ∙ sym (get-from_sorted R es q sorted))) ∙ entries-from_sorted R es sorted
