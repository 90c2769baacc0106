-- What stands at the numbers of a table, after one of them is set.
use Rattle.std.specs.Prelude.{◌≡◌, ◌&&◌, ℕ, ◌+◌, ◌<◌, ◌==◌, Bool, true, false, List, [], ◌∷◌, Option, Some, None, cond, get_or, refl, zero, suc}
use Rattle.std.specs.declared.cmp.Ordering.{Ordering}
use Rattle.std.specs.Ordering.{eq_by_cmp}
use Rattle.std.specs.Option.{option_or}
use Rattle.std.specs.List.{flat_map}
use Rattle.std.specs.FinMap as map
use Rattle.std.specs.FinMap.{find, is_sorted, entries_sorted, get-entries, get-empty, get-from_entries, get-insert, get-remove, same_map}
use Rattle.std.proofs.Common.{ap, sym, ◌∙◌, arith, T}
use Rattle.std.proofs.lemmas.Bool.Decides.{nat_tests}
use Rattle.lab_lattice.specs.Label.{Label, label_cmp}
use Rattle.lab_lattice.proofs.Labels.{label_cmp_total, label_cmp_exact}
use Rattle.kern_model.specs.Maps.{with_entry}
use Rattle.kern_model.proofs.MapLemmas.{get_or-absent, get_or-found, get_or-same, head_T, same_key, tail_T}
use Rattle.kern_model.specs.Numbers.{Num, num_cmp}
use Rattle.kern_model.specs.LabelLists.{IsSet, Lists, item_at, items_in, entries_from, list_at}
use Rattle.kern_model.proofs.SortedEntries.{below_none, find_both, or_none}
use Rattle.kern_model.proofs.NumberLaws.{num_cmp_total, num_cmp_exact, same_label, same_num, same_parts}

-- ---- one of them is set
module _ {X : Type 0} (none : X) (lists : Lists X) (label : Label) (list : List X) where
  list_set : (q : Label) → list_at (map.insert lists label list) q ≡ cond (same_label q label) list (list_at lists q)
  list_set q = elim (same_label q label) as (λ b. same_label q label ≡ b → list_at (map.insert lists label list) q ≡ cond b list (list_at lists q)) [
    | true ↦ λ t. get_or-found (map.insert lists label list) q [] list (get-insert label_cmp_total lists label list q ∙ ap (λ b. cond b (Some list) (map.get lists q)) t)
    | false ↦ λ t. get_or-same (map.insert lists label list) lists q [] (get-insert label_cmp_total lists label list q ∙ ap (λ b. cond b (Some list) (map.get lists q)) t)
  ] refl

  pub item_set : (n : ℕ) (item : X) → IsSet none (list_at lists label) n item list → (q : Num) → item_at none (map.insert lists label list) q ≡ cond (same_num q (label, n)) item (item_at none lists q)
  item_set n item set q =
      ap (λ (r : List X). get_or r q.1 none) (list_set q.0)
      ∙ elim (same_label q.0 label) as (λ b. same_label q.0 label ≡ b → get_or (cond b list (list_at lists q.0)) q.1 none ≡ cond (b && (q.1 == n)) item (item_at none lists q)) [
        | true ↦ λ t. set q.1 ∙ ap (λ (l : Label). cond (q.1 == n) item (get_or (list_at lists l) q.1 none)) (sym (same_key label_cmp_exact q.0 label t))
        | false ↦ λ _. refl
      ] refl
      ∙ ap (λ b. cond b item (item_at none lists q)) (sym (same_parts q (label, n)))

  -- and where the list of a label says the same, nothing changes
  pub item_same : ((k : ℕ) → get_or list k none ≡ get_or (list_at lists label) k none) → (q : Num) → item_at none (map.insert lists label list) q ≡ item_at none lists q
  item_same same q =
      ap (λ (r : List X). get_or r q.1 none) (list_set q.0)
      ∙ elim (same_label q.0 label) as (λ b. same_label q.0 label ≡ b → get_or (cond b list (list_at lists q.0)) q.1 none ≡ item_at none lists q) [
        | true ↦ λ t. same q.1 ∙ ap (λ (l : Label). get_or (list_at lists l) q.1 none) (sym (same_key label_cmp_exact q.0 label t))
        | false ↦ λ _. refl
      ] refl

-- ---- what stands at each number
module _ {K X : Type 0} (R : K → K → Ordering) where
  find_with : (q k : K) (w : Option X) (es : List (K × X)) → find R q (with_entry k w es) ≡ cond (eq_by_cmp R q k) (option_or w (find R q es)) (find R q es)
  find_with q k None es = elim (eq_by_cmp R q k) as (λ b. find R q es ≡ cond b (find R q es) (find R q es)) [ true ↦ refl | false ↦ refl ]
  find_with q k (Some x) es = refl

module _ {X : Type 0} where
  -- one step along a list
  step : (q : Num) (label : Label) (n : ℕ) (w : Option X) (ws : List (Option X))
      → find num_cmp q (entries_from label n (w ∷ ws)) ≡ cond (same_label q.0 label && (q.1 == n)) (option_or w (find num_cmp q (entries_from label (n + 1) ws))) (find num_cmp q (entries_from label (n + 1) ws))
  step q label n w ws =
      find_with num_cmp q (label, n) w (entries_from label (n + 1) ws)
      ∙ ap (λ b. cond b (option_or w (find num_cmp q (entries_from label (n + 1) ws))) (find num_cmp q (entries_from label (n + 1) ws))) (same_parts q (label, n))

  -- a list of another label has no such number
  find_other : (q : Num) (label : Label) (n : ℕ) (ws : List (Option X)) → same_label q.0 label ≡ false → find num_cmp q (entries_from label n ws) ≡ None
  find_other q label n [] other = refl
  find_other q label n (w ∷ ws) other =
      step q label n w ws
      ∙ ap (λ b. cond (b && (q.1 == n)) (option_or w (find num_cmp q (entries_from label (n + 1) ws))) (find num_cmp q (entries_from label (n + 1) ws))) other
      ∙ find_other q label (n + 1) ws other

  module _ (q : Num) (label : Label) (same : same_label q.0 label ≡ true) where
    here : (n : ℕ) (w : Option X) (ws : List (Option X)) (b : Bool) → (q.1 == n) ≡ b
        → find num_cmp q (entries_from label n (w ∷ ws)) ≡ cond b (option_or w (find num_cmp q (entries_from label (n + 1) ws))) (find num_cmp q (entries_from label (n + 1) ws))
    here n w ws b is =
        step q label n w ws
        ∙ ap (λ b. cond (b && (q.1 == n)) (option_or w (find num_cmp q (entries_from label (n + 1) ws))) (find num_cmp q (entries_from label (n + 1) ws))) same
        ∙ ap (λ b. cond b (option_or w (find num_cmp q (entries_from label (n + 1) ws))) (find num_cmp q (entries_from label (n + 1) ws))) is

    -- nor has the rest of a list a number before it
    find_before : (n : ℕ) (ws : List (Option X)) → q.1 < n → find num_cmp q (entries_from label n ws) ≡ None
    find_before n [] low = refl
    find_before n (w ∷ ws) low = here n w ws false (grind (arith, nat_tests, low)) ∙ find_before (n + 1) ws (omega (arith, low))

    find_after : (n i : ℕ) (ws : List (Option X)) → q.1 ≡ n + i → find num_cmp q (entries_from label n ws) ≡ get_or ws i None
    find_after n i [] is = refl
    find_after n zero (w ∷ ws) is =
        here n w ws true (grind (arith, nat_tests, is)) ∙ or_none w _ (find_before (n + 1) ws (omega (arith, is)))
    find_after n (suc i) (w ∷ ws) is =
        here n w ws false (grind (arith, nat_tests, is)) ∙ find_after (n + 1) i ws (omega (arith, is))

  -- what a list says of a number
  find_numbered : (q : Num) (label : Label) (ws : List (Option X)) → find num_cmp q (entries_from label 0 ws) ≡ cond (same_label q.0 label) (get_or ws q.1 None) None
  find_numbered q label ws = elim (same_label q.0 label) as (λ b. same_label q.0 label ≡ b → find num_cmp q (entries_from label 0 ws) ≡ cond b (get_or ws q.1 None) None) [
    | true ↦ λ t. find_after q label t 0 q.1 ws (omega arith)
    | false ↦ λ f. find_other q label 0 ws f
  ] refl

  abbrev in_list : ℕ → Option (List (Option X)) → Option X
  in_list n None = None
  in_list n (Some ws) = get_or ws n None

  abbrev pub placed : Label × List (Option X) → List (Num × X)
  placed list = entries_from list.0 0 list.1

  find_all : (q : Num) (lists : List (Label × List (Option X))) → T (is_sorted label_cmp lists) → find num_cmp q (flat_map placed lists) ≡ in_list q.1 (find label_cmp q.0 lists)
  find_all q [] h = refl
  find_all q (r ∷ lists) h =
      let rest = find_all q lists (tail_T _ _ h) in
      find_both num_cmp q (placed r) (flat_map placed lists)
      ∙ ap (λ w. option_or w (find num_cmp q (flat_map placed lists))) (find_numbered q r.0 r.1)
      ∙ elim (same_label q.0 r.0) as (λ b. same_label q.0 r.0 ≡ b → option_or (cond b (get_or r.1 q.1 None) None) (find num_cmp q (flat_map placed lists)) ≡ in_list q.1 (cond b (Some r.1) (find label_cmp q.0 lists))) [
        | true ↦ λ t.
            let gone = below_none label_cmp_exact q.0 r.0 lists t (head_T _ _ h) in
            or_none _ _ (rest ∙ ap (in_list q.1) gone)
        | false ↦ λ _. rest
      ] refl

  list_says : (lists : Lists (Option X)) (q : Num) → in_list q.1 (map.get lists q.0) ≡ item_at None lists q
  list_says lists q = elim (map.get lists q.0) as (λ w. map.get lists q.0 ≡ w → in_list q.1 w ≡ item_at None lists q) [
    | None ↦ λ e. sym (ap (λ (r : List (Option X)). get_or r q.1 None) (get_or-absent lists q.0 [] e))
    | Some r ↦ λ e. sym (ap (λ (r : List (Option X)). get_or r q.1 None) (get_or-found lists q.0 [] r e))
  ] refl

  -- the map has what stands at a number
  pub get-items_in : (lists : Lists (Option X)) (q : Num) → map.get (items_in lists) q ≡ item_at None lists q
  unfolding items_in
  get-items_in lists q =
      get-from_entries num_cmp_total (flat_map placed (map.entries lists)) q ∙ find_all q (map.entries lists) (entries_sorted lists)
      ∙ ap (in_list q.1) (sym (get-entries lists q.0)) ∙ list_says lists q

  -- no list, nothing
  pub items_in-empty : items_in {X = X} map.empty ≡ map.empty
  items_in-empty = same_map num_cmp_total num_cmp_exact _ _ (λ q.
      get-items_in map.empty q ∙ ap (λ (r : List (Option X)). get_or r q.1 None) (get_or-absent map.empty q.0 [] (get-empty label_cmp q.0)) ∙ sym (get-empty num_cmp q))

  module _ (lists : Lists (Option X)) (label : Label) (list : List (Option X)) where
    pub items_in-set : (n : ℕ) (x : X) → IsSet None (list_at lists label) n (Some x) list → items_in (map.insert lists label list) ≡ map.insert (items_in lists) (label, n) x
    items_in-set n x set = same_map num_cmp_total num_cmp_exact _ _ (λ q.
        get-items_in (map.insert lists label list) q ∙ item_set None lists label list n (Some x) set q
        ∙ ap (cond (same_num q (label, n)) (Some x)) (sym (get-items_in lists q)) ∙ sym (get-insert num_cmp_total (items_in lists) (label, n) x q))

    pub items_in-cleared : (n : ℕ) → IsSet None (list_at lists label) n None list → items_in (map.insert lists label list) ≡ map.remove (items_in lists) (label, n)
    items_in-cleared n set = same_map num_cmp_total num_cmp_exact _ _ (λ q.
        get-items_in (map.insert lists label list) q ∙ item_set None lists label list n None set q
        ∙ ap (cond (same_num q (label, n)) None) (sym (get-items_in lists q)) ∙ sym (get-remove num_cmp_total (items_in lists) (label, n) q))

    -- a list that says of each count what the list of its label said
    pub items_in-same : ((k : ℕ) → get_or list k None ≡ get_or (list_at lists label) k None) → items_in (map.insert lists label list) ≡ items_in lists
    items_in-same same = same_map num_cmp_total num_cmp_exact _ _ (λ q.
        get-items_in (map.insert lists label list) q ∙ item_same None lists label list same q ∙ sym (get-items_in lists q))

-- ---- the list of a label, as it is looked up
module _ {X : Type 0} (lists : Lists X) (label : Label) where
  pub list_found : (list : List X) → Some list ≡ map.get lists label → list_at lists label ≡ list
  list_found list is = get_or-found lists label [] list (sym is)

  pub list_absent : None ≡ map.get lists label → list_at lists label ≡ []
  list_absent is = get_or-absent lists label [] (sym is)
