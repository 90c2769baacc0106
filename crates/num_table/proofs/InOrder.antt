-- The numbers of a table in order.
use Rattle.std.specs.Prelude.{◌≡◌, ℕ, ◌+◌, ◌<◌, ◌≤◌, List, [], ◌∷◌, ◌++◌, Option, None, Some, drop, get_or, length, refl}
use Rattle.std.specs.declared.cmp.Ordering.{Ordering}
use Rattle.std.specs.declared.cmp.Ordering.TheVariants.{Less, Equal, Greater}
use Rattle.std.specs.Ordering.{is_lt, nat_cmp, ordering_then}
use Rattle.std.specs.Cmp.{nat_cmp_is}
use Rattle.std.specs.List.{AllByRecursion, flat_map}
use Rattle.std.specs.Map.{keys_of}
use Rattle.std.specs.FinMap as map
use Rattle.std.specs.FinMap.{entries_sorted, is_sorted}
use Rattle.std.specs.FinMap.Entries.{below_all}
use Rattle.std.proofs.Common.{ap, append_assoc, arith, sym, subst, ◌∙◌, T}
use Rattle.std.proofs.lemmas.List.{append-nil, at_drop_all, at_drop_more, map-append}
use Rattle.std.proofs.lemmas.Cmp.{tied_itself}
use Rattle.lab_lattice.specs.Label.{Label, label_cmp}
use Rattle.lab_lattice.proofs.Labels.{label_cmp_total, label_cmp_exact}
use Rattle.kern_model.proofs.MapLemmas.{each-entries, get_or-found, head_T, tail_T}
use Rattle.kern_model.proofs.TableLemmas.{both_T}
use Rattle.kern_model.specs.Numbers.{Num, num_cmp}
use Rattle.kern_model.specs.LabelLists.{Lists, items_in, entries_from, list_at}
use Rattle.num_table.proofs.Lists.{list_is, list_or_none}
use Rattle.kern_model.proofs.NumberLaws.{num_cmp_total, num_cmp_exact}
use Rattle.kern_model.proofs.ListItems.{placed}
use Rattle.kern_model.proofs.SortedEntries.{entries_sorted_list}

-- ---- one number is below another
lower_by : (r s : Ordering) → T (is_lt r) → T (is_lt (ordering_then r s))
lower_by Less s h = tt
lower_by Equal s h = absurd h
lower_by Greater s h = absurd h

later : (l : Label) (m n : ℕ) → m < n → T (is_lt (num_cmp (l, m) (l, n)))
unfolding num_cmp
later l m n less =
    subst (λ r. T (is_lt r)) (ap (ordering_then (label_cmp l l)) (nat_cmp_is m n Less less)) (subst (λ r. T (is_lt (ordering_then r Less))) (sym (tied_itself label_cmp_total l)) tt)

lower : (l k : Label) (m n : ℕ) → T (is_lt (label_cmp l k)) → T (is_lt (num_cmp (l, m) (k, n)))
unfolding num_cmp
lower l k m n = lower_by (label_cmp l k) (nat_cmp m n)

module _ {X : Type 0} where
  -- a number is below a list that goes on with greater numbers of its label
  below_later : (l : Label) (m n : ℕ) (ws : List (Option X)) (es : List (Num × X)) → m < n → T (below_all num_cmp (l, m) es) → T (below_all num_cmp (l, m) (entries_from l n ws ++ es))
  below_later l m n [] es less h = h
  below_later l m n (None ∷ ws) es less h = below_later l m (n + 1) ws es (omega (arith, less)) h
  below_later l m n (Some x ∷ ws) es less h = both_T _ _ (later l m n less) (below_later l m (n + 1) ws es (omega (arith, less)) h)

  -- or with numbers of a greater label
  below_lower : (l k : Label) (m n : ℕ) (ws : List (Option X)) (es : List (Num × X)) → T (is_lt (label_cmp l k)) → T (below_all num_cmp (l, m) es) → T (below_all num_cmp (l, m) (entries_from k n ws ++ es))
  below_lower l k m n [] es less h = h
  below_lower l k m n (None ∷ ws) es less h = below_lower l k m (n + 1) ws es less h
  below_lower l k m n (Some x ∷ ws) es less h = both_T _ _ (lower l k m n less) (below_lower l k m (n + 1) ws es less h)

  below_lists : (l : Label) (m : ℕ) (lists : List (Label × List (Option X))) → T (below_all label_cmp l lists) → T (below_all num_cmp (l, m) (flat_map placed lists))
  below_lists l m [] h = tt
  below_lists l m (r ∷ lists) h = below_lower l r.0 m 0 r.1 (flat_map placed lists) (head_T _ _ h) (below_lists l m lists (tail_T _ _ h))

  sorted_list : (l : Label) (n : ℕ) (ws : List (Option X)) (es : List (Num × X)) → ((m : ℕ) → T (below_all num_cmp (l, m) es)) → T (is_sorted num_cmp es) → T (is_sorted num_cmp (entries_from l n ws ++ es))
  sorted_list l n [] es below h = h
  sorted_list l n (None ∷ ws) es below h = sorted_list l (n + 1) ws es below h
  sorted_list l n (Some x ∷ ws) es below h = both_T _ _ (below_later l n (n + 1) ws es (omega arith) (below n)) (sorted_list l (n + 1) ws es below h)

  sorted_lists : (lists : List (Label × List (Option X))) → T (is_sorted label_cmp lists) → T (is_sorted num_cmp (flat_map placed lists))
  sorted_lists [] h = tt
  sorted_lists (r ∷ lists) h = sorted_list r.0 0 r.1 (flat_map placed lists) (λ m. below_lists r.0 m lists (head_T _ _ h)) (sorted_lists lists (tail_T _ _ h))

  -- the numbers of a label
  abbrev pub placed_at : Lists (Option X) → Label → List (Num × X)
  placed_at lists label = entries_from label 0 (list_at lists label)

  by_label : (lists : Lists (Option X)) (es : List (Label × List (Option X))) → AllByRecursion (λ (e : Label × List (Option X)). list_at lists e.0 ≡ e.1) es → flat_map placed es ≡ flat_map (placed_at lists) (keys_of es)
  by_label lists [] all = refl
  by_label lists (e ∷ es) all = ap (λ r. entries_from e.0 0 r ++ flat_map placed es) (sym all.0) ∙ ap (λ ns. placed_at lists e.0 ++ ns) (by_label lists es all.1)

  -- the numbers of all labels, one label after another
  pub keys-items_in : (lists : Lists (Option X)) → map.keys (items_in lists) ≡ keys_of (flat_map (placed_at lists) (map.keys lists))
  unfolding items_in
  keys-items_in lists =
      ap keys_of (entries_sorted_list num_cmp_total num_cmp_exact (flat_map placed (map.entries lists)) (sorted_lists (map.entries lists) (entries_sorted lists)))
      ∙ ap keys_of (by_label lists (map.entries lists)
      (each-entries label_cmp_total label_cmp_exact (λ (label : Label) (list : List (Option X)). list_at lists label ≡ list) lists (λ label list is. get_or-found lists label [] list is)))

  -- the numbers of labels from a place on
  abbrev pub left : Lists (Option X) → List Label → ℕ → List Num
  left lists labels i = keys_of (flat_map (placed_at lists) (drop i labels))

  -- those of the next label, and of the labels after it
  next_label : (lists : Lists (Option X)) (labels : List Label) (i : ℕ) (label : Label) → i < length labels → label ≡ get_or labels i label → left lists labels i ≡ keys_of (placed_at lists label) ++ left lists labels (i + 1)
  next_label lists labels i label low is =
      at_drop_more (λ (ls : List Label). keys_of (flat_map (placed_at lists) ls)) labels i label low
      ∙ ap (λ (l : Label). keys_of (placed_at lists l ++ flat_map (placed_at lists) (drop (i + 1) labels))) (sym is)
      ∙ map-append _ (placed_at lists label) (flat_map (placed_at lists) (drop (i + 1) labels))

  module _ (lists : Lists (Option X)) (labels : List Label) (i : ℕ) (before all : List Num) (is : before ++ left lists labels i ≡ all) where
    -- one label on
    pub one_more : (label : Label) → i < length labels → label ≡ get_or labels i label → (o : Option (List (Option X))) → o ≡ map.get lists label
        → (new : List Num) → new ≡ before ++ keys_of (entries_from label 0 (list_or_none o)) → new ++ left lists labels (i + 1) ≡ all
    one_more label low at o kept new more =
        ap (λ ns. ns ++ left lists labels (i + 1)) more ∙ append_assoc before (keys_of (entries_from label 0 (list_or_none o))) (left lists labels (i + 1))
        ∙ ap (λ (r : List (Option X)). before ++ (keys_of (entries_from label 0 r) ++ left lists labels (i + 1))) (sym (list_is lists label o kept))
        ∙ ap (λ ns. before ++ ns) (sym (next_label lists labels i label low at)) ∙ is

    -- after the last label
    pub no_more : length labels ≤ i → before ≡ all
    no_more high = sym (append-nil before) ∙ ap (λ ns. before ++ ns) (sym (at_drop_all (λ (ls : List Label). keys_of (flat_map (placed_at lists) ls)) labels i high)) ∙ is
