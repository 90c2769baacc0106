-- The entries of all directories, by what each one contains.
use Rattle.std.specs.Prelude.{◌≡◌, ◌&&◌, ◌==◌, ◌≤◌, ℕ, zero, suc, Bool, true, false, List, [], ◌∷◌, ◌++◌, Option, Some, None, cond, get_or, length, map, option_copied, refl, unwrap_or}
use Rattle.std.specs.Borrow.{Bor}
use Rattle.std.specs.declared.cmp.Ordering.{Ordering}
use Rattle.std.specs.declared.cmp.Ordering.TheVariants.{Less, Equal, Greater}
use Rattle.std.specs.Ordering.{nat_cmp, is_lt, is_eq, eq_by_cmp, ordering_then}
use Rattle.std.specs.Option.{option_or, option_and_then, option_map}
use Rattle.std.specs.List.{flat_map}
use Rattle.std.specs.Cmp.{eq_by_cmp_equiv}
use Rattle.std.specs.Cmp.Lexicographic.{slice_cmp}
use Rattle.std.specs.FinMap as table
use Rattle.std.specs.FinMap.{FinMap, same_map, get-empty, get-insert, get-remove, find, is_sorted, entries_sorted, get-entries, len-entries, entries-from_sorted}
use Rattle.std.specs.FinMap.Entries.{below_all}
use Rattle.std.proofs.Common.{ap, sym, ◌∙◌, subst, T}
use Rattle.std.proofs.lemmas.Cmp.{tied_itself, nat_list_cmp_total}
use Rattle.std.proofs.lemmas.Map.Lookups.{exact_bytes}
use Rattle.std.proofs.lemmas.List.{append-nil, get_or_past, length-map}
use Rattle.std.proofs.lemmas.List.Concat.{flat_map-append}
use Rattle.fs_path.specs.Name.{Name}
use Rattle.kern_model.specs.declared.numbers.Oid.{Oid}
use Rattle.kern_model.specs.Keys.{Spot, oid_cmp, spot_cmp, same_oid}
use Rattle.kern_model.proofs.KeyLaws.{oid_cmp_total, oid_cmp_exact, spot_cmp_total, spot_cmp_exact}
use Rattle.kern_model.proofs.MapLemmas.{same_key, get_or-found, get_or-absent, get-select_kept, head_T, remove-absent, tail_T}
use Rattle.kern_model.specs.Entries.{entry_count, names_in}
use Rattle.kern_model.specs.Maps as maps
use Rattle.kern_model.specs.Maps.{count_entries, select, where_key}
use Rattle.lab_lattice.specs.Label.{label_cmp}
use Rattle.lab_lattice.proofs.Labels.{label_cmp_total, label_cmp_exact}
use Rattle.kern_model.specs.LabelLists.{IsSet, Lists, item_at, list_at}
use Rattle.fs_nodes.proofs.Places.{one_number}
use Rattle.kern_model.proofs.ByNumber.{get-items_by, item_set_by}
use Rattle.kern_model.proofs.NumberLaws.{oids}
use Rattle.kern_model.proofs.SortedEntries.{below_none, find_both, is_less, or_none}
use Rattle.fs_dirs.specs.Directory.{name_cmp}
use Rattle.fs_dirs.specs.Entries.{Contents, at_spots, contents_of, dirs_in, entries_alone, entries_of, objects_in}
use Rattle.fs_dirs.proofs.CountLemmas.{count_chosen, no_entries}

-- ---- lists of entries in order
both : (a b : Bool) → T a → T b → T (a && b)
both true b p q = q
both false b p q = p

module _ {K X : Type 0} (R : K → K → Ordering) where
  below_both : (k : K) (xs ys : List (K × X)) → T (below_all R k xs) → T (below_all R k ys) → T (below_all R k (xs ++ ys))
  below_both k [] ys p q = q
  below_both k (x ∷ xs) ys p q = both _ _ (head_T _ _ p) (below_both k xs ys (tail_T _ _ p) q)

  -- where each key of the first list is below all of the second
  abbrev all_below : List (K × X) → List (K × X) → Bool
  all_below [] ys = true
  all_below (x ∷ xs) ys = below_all R x.0 ys && all_below xs ys

  sorted_both : (xs ys : List (K × X)) → T (is_sorted R xs) → T (is_sorted R ys) → T (all_below xs ys) → T (is_sorted R (xs ++ ys))
  sorted_both [] ys p q h = q
  sorted_both (x ∷ xs) ys p q h = both _ _ (below_both x.0 xs ys (head_T _ _ p) (head_T _ _ h)) (sorted_both xs ys (tail_T _ _ p) q (tail_T _ _ h))

-- ---- spots
-- entries of one directory, at their spots
abbrev placed : Oid → List (Name × Oid) → List (Spot × Oid)
placed d es = map (λ (e : Name × Oid). ((d, e.0), e.1)) es

-- in one directory the names decide
by_name : (d : Oid) (m n : Name) → spot_cmp (d, m) (d, n) ≡ slice_cmp nat_cmp m n
unfolding spot_cmp
by_name d m n = ap (λ r. ordering_then r (slice_cmp nat_cmp m n)) (tied_itself oid_cmp_total d)

-- else the directories do
by_directory : (c d : Oid) (m n : Name) → T (is_lt (oid_cmp c d)) → T (is_lt (spot_cmp (c, m) (d, n)))
unfolding spot_cmp
by_directory c d m n h = subst (λ r. T (is_lt (ordering_then r (slice_cmp nat_cmp m n)))) (sym (is_less _ h)) tt

below_placed : (d : Oid) (n : Name) (es : List (Name × Oid)) → T (below_all (slice_cmp nat_cmp) n es) → T (below_all spot_cmp (d, n) (placed d es))
below_placed d n [] h = tt
below_placed d n (e ∷ es) h = both _ _ (subst (λ r. T (is_lt r)) (sym (by_name d n e.0)) (head_T _ _ h)) (below_placed d n es (tail_T _ _ h))

sorted_placed : (d : Oid) (es : List (Name × Oid)) → T (is_sorted (slice_cmp nat_cmp) es) → T (is_sorted spot_cmp (placed d es))
sorted_placed d [] h = tt
sorted_placed d (e ∷ es) h = both _ _ (below_placed d e.0 es (head_T _ _ h)) (sorted_placed d es (tail_T _ _ h))

-- a directory that is below others has each entry below theirs
below_other : (c d : Oid) (n : Name) (es : List (Name × Oid)) → T (is_lt (oid_cmp c d)) → T (below_all spot_cmp (c, n) (placed d es))
below_other c d n [] h = tt
below_other c d n (e ∷ es) h = both _ _ (by_directory c d n e.0 h) (below_other c d n es h)

below_others : (c : Oid) (n : Name) (ds : List (Oid × Contents)) → T (below_all oid_cmp c ds) → T (below_all spot_cmp (c, n) (flat_map at_spots ds))
below_others c n [] h = tt
below_others c n (d ∷ ds) h = below_both spot_cmp (c, n) (at_spots d) (flat_map at_spots ds) (below_other c d.0 n (table.entries d.1) (head_T _ _ h)) (below_others c n ds (tail_T _ _ h))

all_below_others : (c : Oid) (es : List (Name × Oid)) (ds : List (Oid × Contents)) → T (below_all oid_cmp c ds) → T (all_below spot_cmp (placed c es) (flat_map at_spots ds))
all_below_others c [] ds h = tt
all_below_others c (e ∷ es) ds h = both _ _ (below_others c e.0 ds h) (all_below_others c es ds h)

sorted_all : (ds : List (Oid × Contents)) → T (is_sorted oid_cmp ds) → T (is_sorted spot_cmp (flat_map at_spots ds))
sorted_all [] h = tt
sorted_all (d ∷ ds) h = sorted_both spot_cmp (at_spots d) (flat_map at_spots ds) (sorted_placed d.0 (table.entries d.1) (entries_sorted d.1)) (sorted_all ds (tail_T _ _ h)) (all_below_others d.0 (table.entries d.1) ds (head_T _ _ h))

-- the entries in order
pub entries_in_turn : (dirs : FinMap oid_cmp Contents) → table.entries (entries_of dirs) ≡ flat_map at_spots (table.entries dirs)
unfolding entries_of
entries_in_turn dirs = entries-from_sorted spot_cmp (flat_map at_spots (table.entries dirs)) (sorted_all (table.entries dirs) (entries_sorted dirs))

-- ---- what is found
spot_is : (d c : Oid) (m n : Name) → spot_cmp (d, m) (c, n) ≡ ordering_then (oid_cmp d c) (slice_cmp nat_cmp m n)
unfolding spot_cmp
spot_is d c m n = refl

picked : (r t : Ordering) (x : Oid) (w : Option Oid) → cond (is_eq (ordering_then r t)) (Some x) (cond (is_eq r) w None) ≡ cond (is_eq r) (cond (is_eq t) (Some x) w) None
picked Less t x w = refl
picked Equal t x w = refl
picked Greater t x w = refl

find_placed : (d c : Oid) (n : Name) (es : List (Name × Oid)) → find spot_cmp (d, n) (placed c es) ≡ cond (same_oid d c) (find (slice_cmp nat_cmp) n es) None
find_placed d c n [] = elim (same_oid d c) as (λ b. ◌≡◌ {A = Option Oid} None (cond b None None)) [ true ↦ refl | false ↦ refl ]
find_placed d c n (e ∷ es) =
    ap (λ r. cond (is_eq r) (Some e.1) (find spot_cmp (d, n) (placed c es))) (spot_is d c n e.0)
    ∙ ap (cond (is_eq (ordering_then (oid_cmp d c) (slice_cmp nat_cmp n e.0))) (Some e.1)) (find_placed d c n es)
    ∙ picked (oid_cmp d c) (slice_cmp nat_cmp n e.0) e.1 (find (slice_cmp nat_cmp) n es)

find_all : (d : Oid) (n : Name) (ds : List (Oid × Contents)) → T (is_sorted oid_cmp ds) → find spot_cmp (d, n) (flat_map at_spots ds) ≡ option_and_then (λ (m : Contents). table.get m n) (find oid_cmp d ds)
find_all d n [] h = refl
find_all d n (c ∷ ds) h =
    find_both spot_cmp (d, n) (at_spots c) (flat_map at_spots ds)
    ∙ ap (λ w. option_or w (find spot_cmp (d, n) (flat_map at_spots ds))) (find_placed d c.0 n (table.entries c.1))
    ∙ elim (same_oid d c.0) as (λ b. same_oid d c.0 ≡ b → option_or (cond b (find (slice_cmp nat_cmp) n (table.entries c.1)) None) (find spot_cmp (d, n) (flat_map at_spots ds)) ≡ option_and_then (λ (m : Contents). table.get m n) (cond b (Some c.1) (find oid_cmp d ds))) [
      | true ↦ λ t. or_none _ _ (find_all d n ds (tail_T _ _ h) ∙ ap (option_and_then (λ (m : Contents). table.get m n)) (below_none oid_cmp_exact d c.0 ds t (head_T _ _ h))) ∙ sym (get-entries c.1 n)
      | false ↦ λ _. find_all d n ds (tail_T _ _ h)
    ] refl

in_contents : (dirs : FinMap oid_cmp Contents) (d : Oid) (n : Name) → option_and_then (λ (m : Contents). table.get m n) (table.get dirs d) ≡ table.get (contents_of dirs d) n
in_contents dirs d n = elim (table.get dirs d) as (λ w. table.get dirs d ≡ w → option_and_then (λ (m : Contents). table.get m n) w ≡ table.get (contents_of dirs d) n) [
  | None ↦ λ e. sym (ap (λ (m : Contents). table.get m n) (get_or-absent dirs d table.empty e) ∙ get-empty (slice_cmp nat_cmp) n)
  | Some m ↦ λ e. ap (λ (m : Contents). table.get m n) (sym (get_or-found dirs d table.empty m e))
] refl

-- where an entry leads is what its directory says
pub get-entries_of : (dirs : FinMap oid_cmp Contents) (d : Oid) (n : Name) → table.get (entries_of dirs) (d, n) ≡ table.get (contents_of dirs d) n
get-entries_of dirs d n =
    get-entries (entries_of dirs) (d, n) ∙ ap (find spot_cmp (d, n)) (entries_in_turn dirs) ∙ find_all d n (table.entries dirs) (entries_sorted dirs)
    ∙ ap (option_and_then (λ (m : Contents). table.get m n)) (sym (get-entries dirs d)) ∙ in_contents dirs d n

spots_alike : (q d : Oid) (m n : Name) → eq_by_cmp spot_cmp (q, m) (d, n) ≡ (same_oid q d && eq_by_cmp (slice_cmp nat_cmp) m n)
unfolding spot_cmp
spots_alike q d m n = elim (oid_cmp q d) as (λ r. is_eq (ordering_then r (slice_cmp nat_cmp m n)) ≡ (is_eq r && is_eq (slice_cmp nat_cmp m n))) [
  | Less ↦ refl
  | Equal ↦ refl
  | Greater ↦ refl
]

-- where there is no directory, there is no entry
pub entries_of-empty : entries_of table.empty ≡ table.empty
entries_of-empty = same_map spot_cmp_total spot_cmp_exact _ _ (λ q.
    get-entries_of table.empty q.0 q.1 ∙ ap (λ (m : Contents). table.get m q.1) (get_or-absent table.empty q.0 table.empty (get-empty oid_cmp q.0))
    ∙ get-empty name_cmp q.1 ∙ sym (get-empty spot_cmp q))

-- a name that is set or removed in one directory
module _ (dirs dirs' : FinMap oid_cmp Contents) (d : Oid) (m : Contents) (set : (q : Oid) → contents_of dirs' q ≡ cond (same_oid q d) m (contents_of dirs q)) where
  changed_one : (n : Name) (w : Option Oid) → ((k : Name) → table.get m k ≡ cond (eq_by_cmp (slice_cmp nat_cmp) k n) w (table.get (contents_of dirs d) k))
      → (q : Spot) → table.get (entries_of dirs') (q.0, q.1) ≡ cond (eq_by_cmp spot_cmp (q.0, q.1) (d, n)) w (table.get (entries_of dirs) (q.0, q.1))
  changed_one n w h q =
      get-entries_of dirs' q.0 q.1
      ∙ ap (λ (c : Contents). table.get c q.1) (set q.0)
      ∙ elim (same_oid q.0 d) as (λ b. same_oid q.0 d ≡ b → table.get (cond b m (contents_of dirs q.0)) q.1 ≡ cond (b && eq_by_cmp (slice_cmp nat_cmp) q.1 n) w (table.get (entries_of dirs) (q.0, q.1))) [
        | true ↦ λ t. h q.1 ∙ ap (λ v. cond (eq_by_cmp (slice_cmp nat_cmp) q.1 n) w v) (ap (λ (c : Oid). table.get (contents_of dirs c) q.1) (sym (same_key oid_cmp_exact q.0 d t)) ∙ sym (get-entries_of dirs q.0 q.1))
        | false ↦ λ _. sym (get-entries_of dirs q.0 q.1)
      ] refl
      ∙ ap (λ b. cond b w (table.get (entries_of dirs) (q.0, q.1))) (sym (spots_alike q.0 d q.1 n))

  entries_of-insert : (n : Name) (x : Oid) → m ≡ table.insert (contents_of dirs d) n x → entries_of dirs' ≡ table.insert (entries_of dirs) (d, n) x
  entries_of-insert n x is = same_map spot_cmp_total spot_cmp_exact _ _ (λ q.
      changed_one n (Some x) (λ k. ap (λ (c : Contents). table.get c k) is ∙ get-insert nat_list_cmp_total (contents_of dirs d) n x k) q ∙ sym (get-insert spot_cmp_total (entries_of dirs) (d, n) x q))

  entries_of-remove : (n : Name) → m ≡ table.remove (contents_of dirs d) n → entries_of dirs' ≡ table.remove (entries_of dirs) (d, n)
  entries_of-remove n is = same_map spot_cmp_total spot_cmp_exact _ _ (λ q.
      changed_one n None (λ k. ap (λ (c : Contents). table.get c k) is ∙ get-remove nat_list_cmp_total (contents_of dirs d) n k) q ∙ sym (get-remove spot_cmp_total (entries_of dirs) (d, n) q))

-- where all directories contain the same, the entries are the same
entries_of-same : (dirs dirs' : FinMap oid_cmp Contents) → ((q : Oid) → contents_of dirs' q ≡ contents_of dirs q) → entries_of dirs' ≡ entries_of dirs
entries_of-same dirs dirs' same = same_map spot_cmp_total spot_cmp_exact _ _ (λ q.
    get-entries_of dirs' q.0 q.1 ∙ ap (λ (c : Contents). table.get c q.1) (same q.0) ∙ sym (get-entries_of dirs q.0 q.1))

-- ---- what one directory contains
module _ {X : Type 0} (of : Name × Oid → X) where
  -- what is taken of each entry of a directory
  abbrev chosen : Oid → List (Spot × Oid) → List X
  chosen dir es = flat_map (λ (e : Spot × Oid). cond (same_oid e.0.0 dir) (of (e.0.1, e.1) ∷ []) []) es

  abbrev taken : Contents → List X
  taken m = map of (table.entries m)

  chosen_placed : (d dir : Oid) (es : List (Name × Oid)) → chosen dir (placed d es) ≡ cond (same_oid d dir) (map of es) []
  chosen_placed d dir [] = elim (same_oid d dir) as (λ b. ◌≡◌ {A = List X} [] (cond b [] [])) [ true ↦ refl | false ↦ refl ]
  chosen_placed d dir (e ∷ es) =
      ap (λ (xs : List X). cond (same_oid d dir) (of e ∷ []) [] ++ xs) (chosen_placed d dir es)
      ∙ elim (same_oid d dir) as (λ b. cond b (of e ∷ []) [] ++ cond b (map of es) [] ≡ cond b (of e ∷ map of es) []) [ true ↦ refl | false ↦ refl ]

  abbrev taken_if : Option Contents → List X
  taken_if None = []
  taken_if (Some m) = taken m

  chosen_all : (dir : Oid) (ds : List (Oid × Contents)) → T (is_sorted oid_cmp ds) → chosen dir (flat_map at_spots ds) ≡ taken_if (find oid_cmp dir ds)
  chosen_all dir [] h = refl
  chosen_all dir (c ∷ ds) h =
      flat_map-append (λ (e : Spot × Oid). cond (same_oid e.0.0 dir) (of (e.0.1, e.1) ∷ []) []) (at_spots c) (flat_map at_spots ds)
      ∙ ap (λ (xs : List X). xs ++ chosen dir (flat_map at_spots ds)) (chosen_placed c.0 dir (table.entries c.1))
      ∙ ap (λ b. cond b (taken c.1) [] ++ chosen dir (flat_map at_spots ds)) ((eq_by_cmp_equiv oid_cmp_total).symm c.0 dir)
      ∙ elim (same_oid dir c.0) as (λ b. same_oid dir c.0 ≡ b → cond b (taken c.1) [] ++ chosen dir (flat_map at_spots ds) ≡ taken_if (cond b (Some c.1) (find oid_cmp dir ds))) [
        | true ↦ λ t. ap (λ (xs : List X). taken c.1 ++ xs) (chosen_all dir ds (tail_T _ _ h) ∙ ap taken_if (below_none oid_cmp_exact dir c.0 ds t (head_T _ _ h))) ∙ append-nil (taken c.1)
        | false ↦ λ _. chosen_all dir ds (tail_T _ _ h)
      ] refl

  taken_none : taken table.empty ≡ []
  taken_none = ap (map of) (no_entries name_cmp Oid)

  taken_contained : (dirs : FinMap oid_cmp Contents) (dir : Oid) → taken_if (table.get dirs dir) ≡ taken (contents_of dirs dir)
  taken_contained dirs dir = elim (table.get dirs dir) as (λ w. table.get dirs dir ≡ w → taken_if w ≡ taken (contents_of dirs dir)) [
    | None ↦ λ e. sym taken_none ∙ ap (λ (m : Contents). taken m) (sym (get_or-absent dirs dir table.empty e))
    | Some m ↦ λ e. ap (λ (m : Contents). taken m) (sym (get_or-found dirs dir table.empty m e))
  ] refl

  chosen-entries_of : (dirs : FinMap oid_cmp Contents) (dir : Oid) → chosen dir (table.entries (entries_of dirs)) ≡ taken (contents_of dirs dir)
  chosen-entries_of dirs dir =
      ap (chosen dir) (entries_in_turn dirs) ∙ chosen_all dir (table.entries dirs) (entries_sorted dirs)
      ∙ ap taken_if (sym (get-entries dirs dir)) ∙ taken_contained dirs dir

-- a directory that contains nothing has no names
pub no_names : table.keys (table.empty {K = Name} {X = Oid} {R = name_cmp}) ≡ []
no_names = taken_none (λ (e : Name × Oid). e.0)

-- and leads to no object
pub no_objects : table.values (table.empty {K = Name} {X = Oid} {R = name_cmp}) ≡ []
no_objects = taken_none (λ (e : Name × Oid). e.1)

-- the names in a directory are those that it contains
pub names_in-entries_of : (dirs : FinMap oid_cmp Contents) (dir : Oid) → names_in (entries_alone (entries_of dirs)) dir ≡ table.keys (contents_of dirs dir)
unfolding names_in
names_in-entries_of dirs dir = chosen-entries_of (λ (e : Name × Oid). e.0) dirs dir

-- and so are the objects to which they lead
pub objects_in-entries_of : (dirs : FinMap oid_cmp Contents) (dir : Oid) → objects_in (entries_alone (entries_of dirs)) dir ≡ table.values (contents_of dirs dir)
unfolding objects_in
objects_in-entries_of dirs dir = chosen-entries_of (λ (e : Name × Oid). e.1) dirs dir

-- and so is the number of the names
pub entry_count-entries_of : (dirs : FinMap oid_cmp Contents) (dir : Oid) → entry_count (entries_alone (entries_of dirs)) dir ≡ table.len (contents_of dirs dir)
unfolding count_entries names_in
entry_count-entries_of dirs dir =
    count_chosen (λ (e : Spot × Oid). same_oid e.0.0 dir) (λ (e : Spot × Oid). e.0.1) (table.entries (entries_of dirs))
    ∙ ap length (names_in-entries_of dirs dir) ∙ length-map (table.entries (contents_of dirs dir)) (λ (e : Name × Oid). e.0) ∙ sym (len-entries (contents_of dirs dir))

-- ---- the lists of the labels
some_at : (list : List Contents) (n : ℕ) → unwrap_or (get_or (map Some list) n None) table.empty ≡ get_or list n table.empty
some_at [] n = refl
some_at (m ∷ list) zero = refl
some_at (m ∷ list) (suc n) = some_at list n

some_list : (w : Option (List Contents)) (d : List Contents) (n : ℕ) → unwrap_or (get_or (unwrap_or (option_map (map Some) w) []) n None) table.empty ≡ get_or (unwrap_or w []) n table.empty
some_list None d n = refl
some_list (Some list) d n = some_at list n

is_unwrapped : {K X : Type 0} {R : K → K → Ordering} (m : FinMap R X) (k : K) (d : X) → maps.get_or m k d ≡ unwrap_or (table.get m k) d
is_unwrapped m k d = elim (table.get m k) as (λ w. table.get m k ≡ w → maps.get_or m k d ≡ unwrap_or w d) [
  | None ↦ λ e. get_or-absent m k d e
  | Some x ↦ λ e. get_or-found m k d x e
] refl

-- what a directory contains is what stands at its number
pub contents_in : (lists : Lists Contents) (dir : Oid) → contents_of (dirs_in lists) dir ≡ item_at table.empty lists (dir.label, dir.n)
contents_in lists dir =
    let some : Lists (Option Contents) = select (where_key (λ _. true) (map Some)) lists in
    is_unwrapped (dirs_in lists) dir table.empty
    ∙ ap (λ (w : Option Contents). unwrap_or w table.empty) (get-items_by oid_cmp_total oid_cmp_exact oids some dir)
    ∙ ap (λ (r : List (Option Contents)). unwrap_or (get_or r dir.n None) table.empty) (is_unwrapped some dir.label [] ∙ ap (λ (w : Option (List (Option Contents))). unwrap_or w []) (get-select_kept label_cmp_total label_cmp_exact (λ _. true) (map Some) lists dir.label refl))
    ∙ some_list (table.get lists dir.label) [] dir.n
    ∙ ap (λ (r : List Contents). get_or r dir.n table.empty) (sym (is_unwrapped lists dir.label []))

-- by the list of its label
pub contained : (lists : Lists Contents) (dirs : FinMap oid_cmp Contents) → dirs_in lists ≡ dirs → (dir : Oid) (list : List Contents) → list_at lists dir.label ≡ list → contents_of dirs dir ≡ get_or list dir.n table.empty
contained lists dirs view dir list found =
    ap (λ (d : FinMap oid_cmp Contents). contents_of d dir) (sym view) ∙ contents_in lists dir ∙ ap (λ (r : List Contents). get_or r dir.n table.empty) found

-- where there is no list, there is no directory
pub dirs_in-empty : dirs_in table.empty ≡ table.empty
dirs_in-empty =
    let some : Lists (Option Contents) = select (where_key (λ _. true) (map Some)) table.empty in
    same_map oid_cmp_total oid_cmp_exact _ _ (λ q.
    get-items_by oid_cmp_total oid_cmp_exact oids some q
    ∙ ap (λ (r : List (Option Contents)). get_or r q.n None) (is_unwrapped some q.label [] ∙ ap (λ (w : Option (List (Option Contents))). unwrap_or w [])
    (get-select_kept label_cmp_total label_cmp_exact (λ _. true) (map Some) table.empty q.label refl ∙ ap (option_map (map Some)) (get-empty label_cmp q.label)))
    ∙ sym (get-empty oid_cmp q))

-- a name that goes from a directory for which the list has no place
pub removed_past : (list : List Contents) (n : ℕ) (name : Name) → length list ≤ n → IsSet table.empty list n (table.remove (get_or list n table.empty) name) list
removed_past list n name h m = elim (m == n) as (λ b. (m == n) ≡ b → get_or list m table.empty ≡ cond b (table.remove (get_or list n table.empty) name) (get_or list m table.empty)) [
  | true ↦ λ t.
      let none : get_or list n table.empty ≡ table.empty = get_or_past list n table.empty h in
      ap (λ k. get_or list k table.empty) (one_number m n t) ∙ none
      ∙ sym (ap (λ (c : Contents). table.remove c name) none ∙ remove-absent nat_list_cmp_total exact_bytes table.empty name (get-empty name_cmp name))
  | false ↦ λ _. refl
] refl

module _ (lists : Lists Contents) (dir : Oid) {list : List Contents} {after : Lists Contents} (left : List Contents) (found : list_at lists dir.label ≡ list) (is : after ≡ table.insert lists dir.label left) where
  -- where one directory alone is another one in the list of its label, it alone is another one
  contents_set : (m : Contents) → IsSet table.empty list dir.n m left → (q : Oid) → contents_of (dirs_in after) q ≡ cond (same_oid q dir) m (contents_of (dirs_in lists) q)
  contents_set m set q =
      contents_in after q ∙ ap (λ (r : Lists Contents). item_at table.empty r (q.label, q.n)) is
      ∙ item_set_by oids lists dir left table.empty m (subst (λ (r : List Contents). IsSet table.empty r dir.n m left) (sym found) set) q
      ∙ ap (cond (same_oid q dir) m) (sym (contents_in lists q))

  -- and where the list says the same, all are as before
  contents_same : ((m : ℕ) → get_or left m table.empty ≡ get_or list m table.empty) → (q : Oid) → contents_of (dirs_in after) q ≡ contents_of (dirs_in lists) q
  contents_same same q =
      let set : IsSet table.empty list dir.n (get_or list dir.n table.empty) left = λ m. same m ∙ elim (m == dir.n) as (λ b. (m == dir.n) ≡ b → get_or list m table.empty ≡ cond b (get_or list dir.n table.empty) (get_or list m table.empty)) [
        | true ↦ λ t. ap (λ k. get_or list k table.empty) (one_number m dir.n t)
        | false ↦ λ _. refl
      ] refl in
      contents_set (get_or list dir.n table.empty) set q
      ∙ elim (same_oid q dir) as (λ b. same_oid q dir ≡ b → cond b (get_or list dir.n table.empty) (contents_of (dirs_in lists) q) ≡ contents_of (dirs_in lists) q) [
        | true ↦ λ t. ap (λ (r : List Contents). get_or r dir.n table.empty) (sym found) ∙ sym (contents_in lists dir) ∙ ap (contents_of (dirs_in lists)) (sym (same_key oid_cmp_exact q dir t))
        | false ↦ λ _. refl
      ] refl

  module _ {dirs : FinMap oid_cmp Contents} (view : dirs_in lists ≡ dirs) where
    pub inserted_at : (name : Name) (id : Oid) → IsSet table.empty list dir.n (table.insert (get_or list dir.n table.empty) name id) left → entries_of (dirs_in after) ≡ table.insert (entries_of dirs) (dir, name) id
    inserted_at name id set =
        let m : Contents = table.insert (get_or list dir.n table.empty) name id in
        entries_of-insert (dirs_in lists) (dirs_in after) dir m (contents_set m set) name id (ap (λ (t : Contents). table.insert t name id) (sym (contained lists (dirs_in lists) refl dir list found)))
        ∙ ap (λ (d : FinMap oid_cmp Contents). table.insert (entries_of d) (dir, name) id) view

    pub removed_at : (name : Name) → IsSet table.empty list dir.n (table.remove (get_or list dir.n table.empty) name) left → entries_of (dirs_in after) ≡ table.remove (entries_of dirs) (dir, name)
    removed_at name set =
        let m : Contents = table.remove (get_or list dir.n table.empty) name in
        entries_of-remove (dirs_in lists) (dirs_in after) dir m (contents_set m set) name (ap (λ (t : Contents). table.remove t name) (sym (contained lists (dirs_in lists) refl dir list found)))
        ∙ ap (λ (d : FinMap oid_cmp Contents). table.remove (entries_of d) (dir, name)) view

    pub entries_same : ((m : ℕ) → get_or left m table.empty ≡ get_or list m table.empty) → entries_of (dirs_in after) ≡ entries_of dirs
    entries_same same = entries_of-same (dirs_in lists) (dirs_in after) (contents_same same) ∙ ap (λ (d : FinMap oid_cmp Contents). entries_of d) view

-- a directory that is found contains what is there
pub directory_is : (w : Option (Bor Contents)) {v : Option (Bor Contents)} {m : Contents} → w ≡ v → unwrap_or (option_copied w) table.empty ≡ m → unwrap_or (option_copied v) table.empty ≡ m
directory_is w is same = ap (λ (x : Option (Bor Contents)). unwrap_or (option_copied x) table.empty) (sym is) ∙ same
