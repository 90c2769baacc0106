-- Tables by the numbers of processes, objects or descriptions, after one of them is changed.
pub use Rattle.kern_model.proofs.NumberLaws.{dids, oids, pids}
use Rattle.std.specs.Prelude.{◌≡◌, ◌&&◌, List, [], ◌∷◌, Option, None, Some, cond, map as map_list, refl}
use Rattle.std.specs.declared.cmp.Ordering.{Ordering}
use Rattle.std.specs.Ordering.{eq_by_cmp, is_eq, is_lt}
use Rattle.std.specs.Cmp.{IsTotalOrder}
use Rattle.std.specs.FinMap as map
use Rattle.std.specs.FinMap.{FinMap, IsAntisymmetric, entries_sorted, find, get-empty, get-entries, get-from_entries, get-insert, get-remove, is_sorted, same_map}
use Rattle.std.specs.FinMap.Entries.{below_all}
use Rattle.std.proofs.Common.{ap, sym, ◌∙◌, subst, T}
use Rattle.kern_model.specs.ByNumber.{AreNumbers, by_number}
use Rattle.kern_model.specs.LabelLists.{IsSet, Lists, item_at, items_in, list_at}
use Rattle.kern_model.specs.Numbers.{Num, num_cmp}
use Rattle.kern_model.proofs.ListItems.{get-items_in, item_set, items_in-set}
use Rattle.kern_model.proofs.NumberLaws.{num_cmp_total}
use Rattle.kern_model.proofs.SortedEntries.{entries_sorted_list}

-- ---- tables
module _ {K : Type 0} {R : K → K → Ordering} {of_parts : Num → K} {parts : K → Num} (agree : AreNumbers R of_parts parts) where
  same_order : (a b : Num) → R (of_parts a) (of_parts b) ≡ num_cmp a b
  same_order a b = agree.in_order (of_parts a) (of_parts b) ∙ ap (λ n. num_cmp n (parts (of_parts b))) (agree.parts_back a) ∙ ap (num_cmp a) (agree.parts_back b)

  pub same_number : (a b : K) → eq_by_cmp R a b ≡ eq_by_cmp num_cmp (parts a) (parts b)
  same_number a b = ap is_eq (agree.in_order a b)

module _ {K X : Type 0} {R : K → K → Ordering} (o : IsTotalOrder R) (exact : IsAntisymmetric R) {of_parts : Num → K} {parts : K → Num} (agree : AreNumbers R of_parts parts) where
  abbrev with_number : Num × X → K × X
  with_number e = (of_parts e.0, e.1)

  find_by_number : (q : K) (es : List (Num × X)) → find R q (map_list with_number es) ≡ find num_cmp (parts q) es
  find_by_number q [] = refl
  find_by_number q (e ∷ es) =
      ap (λ r. cond (is_eq r) (Some e.1) (find R q (map_list with_number es))) (agree.in_order q (of_parts e.0) ∙ ap (num_cmp (parts q)) (agree.parts_back e.0))
      ∙ ap (cond (is_eq (num_cmp (parts q) e.0)) (Some e.1)) (find_by_number q es)

  -- a number has what its label and count have
  pub get-by_number : (m : FinMap num_cmp X) (q : K) → map.get (by_number {R = R} of_parts m) q ≡ map.get m (parts q)
  unfolding by_number
  get-by_number m q = get-from_entries o (map_list with_number (map.entries m)) q ∙ find_by_number q (map.entries m) ∙ sym (get-entries m (parts q))

  pub by_number-empty : by_number {X = X} {R = R} of_parts map.empty ≡ map.empty
  by_number-empty = same_map o exact _ _ (λ q. get-by_number map.empty q ∙ get-empty num_cmp (parts q) ∙ sym (get-empty R q))

  pub by_number-insert : (m : FinMap num_cmp X) (k : K) (x : X) → by_number {R = R} of_parts (map.insert m (parts k) x) ≡ map.insert (by_number of_parts m) k x
  by_number-insert m k x = same_map o exact _ _ (λ q.
      get-by_number (map.insert m (parts k) x) q ∙ get-insert num_cmp_total m (parts k) x (parts q)
      ∙ ap (λ b. cond b (Some x) (map.get m (parts q))) (sym (same_number agree q k)) ∙ ap (cond (eq_by_cmp R q k) (Some x)) (sym (get-by_number m q))
      ∙ sym (get-insert o (by_number of_parts m) k x q))

  pub by_number-remove : (m : FinMap num_cmp X) (k : K) → by_number {R = R} of_parts (map.remove m (parts k)) ≡ map.remove (by_number of_parts m) k
  by_number-remove m k = same_map o exact _ _ (λ q.
      get-by_number (map.remove m (parts k)) q ∙ get-remove num_cmp_total m (parts k) (parts q)
      ∙ ap (λ b. cond b None (map.get m (parts q))) (sym (same_number agree q k)) ∙ ap (cond (eq_by_cmp R q k) None) (sym (get-by_number m q))
      ∙ sym (get-remove o (by_number of_parts m) k q))

  -- ---- in order
  below_by_number : (n : Num) (es : List (Num × X)) → below_all R (of_parts n) (map_list with_number es) ≡ below_all num_cmp n es
  below_by_number n [] = refl
  below_by_number n (e ∷ es) = ap (λ r. is_lt r && below_all R (of_parts n) (map_list with_number es)) (same_order agree n e.0) ∙ ap (λ b. is_lt (num_cmp n e.0) && b) (below_by_number n es)

  sorted_by_number : (es : List (Num × X)) → is_sorted R (map_list with_number es) ≡ is_sorted num_cmp es
  sorted_by_number [] = refl
  sorted_by_number (e ∷ es) = ap (λ b. b && is_sorted R (map_list with_number es)) (below_by_number e.0 es) ∙ ap (λ b. below_all num_cmp e.0 es && b) (sorted_by_number es)

  keys_of_by_number : (es : List (Num × X)) → map_list (λ (e : K × X). e.0) (map_list with_number es) ≡ map_list of_parts (map_list (λ (e : Num × X). e.0) es)
  keys_of_by_number [] = refl
  keys_of_by_number (e ∷ es) = ap (λ ks. of_parts e.0 ∷ ks) (keys_of_by_number es)

  -- the numbers are those of the labels and counts, in their order
  pub keys-by_number : (m : FinMap num_cmp X) → map.keys (by_number {R = R} of_parts m) ≡ map_list of_parts (map.keys m)
  unfolding by_number
  keys-by_number m =
      ap (map_list (λ (e : K × X). e.0)) (entries_sorted_list o exact (map_list with_number (map.entries m)) (subst T (sym (sorted_by_number (map.entries m))) (entries_sorted m)))
      ∙ keys_of_by_number (map.entries m)

-- ---- what the table by labels and counts says of a number
module _ {K X : Type 0} {R : K → K → Ordering} (o : IsTotalOrder R) (exact : IsAntisymmetric R) {of_parts : Num → K} {parts : K → Num} (agree : AreNumbers R of_parts parts)
    (m : FinMap num_cmp X) (k : K) (n : Num) (is : n ≡ parts k) where
  pub number_found : (w : Option X) → w ≡ map.get m n → w ≡ map.get (by_number {R = R} of_parts m) k
  number_found w found = found ∙ ap (map.get m) is ∙ sym (get-by_number o exact agree m k)

  pub number_set : (new : FinMap num_cmp X) (x : X) → new ≡ map.insert m n x → by_number {R = R} of_parts new ≡ map.insert (by_number of_parts m) k x
  number_set new x set = ap (by_number of_parts) (set ∙ ap (λ (n : Num). map.insert m n x) is) ∙ by_number-insert o exact agree m k x

  pub number_removed : (new : FinMap num_cmp X) → new ≡ map.remove m n → by_number {R = R} of_parts new ≡ map.remove (by_number of_parts m) k
  number_removed new left = ap (by_number of_parts) (left ∙ ap (map.remove m) is) ∙ by_number-remove o exact agree m k

-- ---- lists for labels, as tables by these numbers
module _ {K X : Type 0} {R : K → K → Ordering} {of_parts : Num → K} {parts : K → Num} (agree : AreNumbers R of_parts parts) (lists : Lists X) (k : K) (list : List X) where
  -- a number whose item is set
  pub item_set_by : (none item : X) → IsSet none (list_at lists (parts k).0) (parts k).1 item list → (q : K) → item_at none (map.insert lists (parts k).0 list) (parts q) ≡ cond (eq_by_cmp R q k) item (item_at none lists (parts q))
  item_set_by none item set q =
      item_set none lists (parts k).0 list (parts k).1 item set (parts q)
      ∙ ap (λ b. cond b item (item_at none lists (parts q))) (sym (same_number agree q k))

module _ {K X : Type 0} {R : K → K → Ordering} (o : IsTotalOrder R) (exact : IsAntisymmetric R) {of_parts : Num → K} {parts : K → Num} (agree : AreNumbers R of_parts parts) (lists : Lists (Option X)) where
  -- a number has what stands at its label and count
  pub get-items_by : (q : K) → map.get (by_number {R = R} of_parts (items_in lists)) q ≡ item_at None lists (parts q)
  get-items_by q = get-by_number o exact agree (items_in lists) q ∙ get-items_in lists (parts q)

  pub items_by-set : (k : K) (list : List (Option X)) (x : X) → IsSet None (list_at lists (parts k).0) (parts k).1 (Some x) list → by_number {R = R} of_parts (items_in (map.insert lists (parts k).0 list)) ≡ map.insert (by_number of_parts (items_in lists)) k x
  items_by-set k list x set =
      ap (by_number of_parts) (items_in-set lists (parts k).0 list (parts k).1 x set) ∙ by_number-insert o exact agree (items_in lists) k x
