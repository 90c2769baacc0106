-- The slots of a process, seen as its descriptors.
use Rattle.std.specs.Prelude.{◌≡◌, ℕ, zero, suc, ◌+◌, ◌<◌, ◌==◌, Bool, true, false, List, [], ◌∷◌, Option, None, Some, cond, count_by, drop, get_or, is_none, is_some, length, map, not, replicate, refl}
use Rattle.std.specs.Option.{option_flatten}
use Rattle.std.specs.List.{slice_get, position_or_len}
use Rattle.std.specs.Ordering.{nat_cmp, is_lt, eq_by_cmp}
use Rattle.std.specs.Cmp.{nat_cmp_total, nat_cmp_is, unsigned_tied}
use Rattle.std.specs.declared.cmp.Ordering.TheVariants.{Less}
use Rattle.std.proofs.Math.ListN.{set}
use Rattle.std.specs.FinMap as table
use Rattle.std.specs.FinMap.{find, is_sorted, empty_of_len, len-entries, entries-from_sorted, get-from_sorted, get-insert, get-remove, same_map, nat_cmp-IsAntisymmetric}
use Rattle.std.specs.FinMap.Entries.{below_all}
use Rattle.std.proofs.Common.{ap, sym, ◌∙◌, subst, T, arith}
use Rattle.std.proofs.lemmas.Bool.{false≢true}
use Rattle.std.proofs.lemmas.Bool.Decides.{nat_tests}
use Rattle.std.proofs.lemmas.List.Sums.{sum_by-cons}
use Rattle.kern_model.specs.declared.numbers.Did.{Did}
use Rattle.kern_model.specs.Descriptors.{first_gap, lowest_free}
use Rattle.kern_model.proofs.TableLemmas.{both_T}
use Rattle.lab_lattice.specs.Label.{Label, bottom}
use Rattle.fd_table.specs.Fds.{Fds, fd_count, fds_in, in_slots, slots_of}

less : (a b : ℕ) → a < b → T (is_lt (nat_cmp a b))
less a b h = subst (λ r. T (is_lt r)) (nat_cmp_is a b Less h) tt

-- descriptors are above what is below their slots
below : (k n : ℕ) (slots : List (Option Did)) → k < n → T (below_all nat_cmp k (in_slots n slots))
below k n [] h = tt
below k n (None ∷ slots) h = below k (n + 1) slots (omega arith)
below k n (Some did ∷ slots) h = both_T _ _ (less k n h) (below k (n + 1) slots (omega arith))

in_order : (n : ℕ) (slots : List (Option Did)) → T (is_sorted nat_cmp (in_slots n slots))
in_order n [] = tt
in_order n (None ∷ slots) = in_order (n + 1) slots
in_order n (Some did ∷ slots) = both_T _ _ (below n (n + 1) slots (omega arith)) (in_order (n + 1) slots)

-- the descriptors in order
pub entries-fds : (slots : List (Option Did)) → table.entries (fds_in slots) ≡ in_slots 0 slots
unfolding fds_in
entries-fds slots = entries-from_sorted nat_cmp (in_slots 0 slots) (in_order 0 slots)

-- ---- what a descriptor refers to
not_below : (k n : ℕ) (slots : List (Option Did)) → k < n → find nat_cmp k (in_slots n slots) ≡ None
not_below k n [] h = refl
not_below k n (None ∷ slots) h = not_below k (n + 1) slots (omega arith)
not_below k n (Some did ∷ slots) h =
    let apart : eq_by_cmp nat_cmp k n ≡ false = let other : (k == n) ≡ false = grind (arith, nat_tests) in unsigned_tied k n ∙ other in
    ap (λ b. cond b (Some did) (find nat_cmp k (in_slots (n + 1) slots))) apart ∙ not_below k (n + 1) slots (omega arith)

found : (n k : ℕ) (slots : List (Option Did)) → find nat_cmp (n + k) (in_slots n slots) ≡ option_flatten (slice_get slots k)
found n k [] = refl
found n zero (None ∷ slots) = not_below (n + 0) (n + 1) slots (omega arith)
found n zero (Some did ∷ slots) =
    let same : eq_by_cmp nat_cmp (n + 0) n ≡ true = let here : (n + 0 == n) ≡ true = grind (arith, nat_tests) in unsigned_tied (n + 0) n ∙ here in
    ap (λ b. cond b (Some did) (find nat_cmp (n + 0) (in_slots (n + 1) slots))) same
found n (suc k) (None ∷ slots) = let next : n + suc k ≡ n + 1 + k = omega arith in ap (λ j. find nat_cmp j (in_slots (n + 1) slots)) next ∙ found (n + 1) k slots
found n (suc k) (Some did ∷ slots) =
    let apart : eq_by_cmp nat_cmp (n + suc k) n ≡ false = let other : (n + suc k == n) ≡ false = grind (arith, nat_tests) in unsigned_tied (n + suc k) n ∙ other in
    let next : n + suc k ≡ n + 1 + k = omega arith in
    ap (λ b. cond b (Some did) (find nat_cmp (n + suc k) (in_slots (n + 1) slots))) apart ∙ ap (λ j. find nat_cmp j (in_slots (n + 1) slots)) next ∙ found (n + 1) k slots

pub get-fds : (slots : List (Option Did)) (fd : ℕ) → table.get (fds_in slots) fd ≡ option_flatten (slice_get slots fd)
unfolding fds_in
get-fds slots fd = get-from_sorted nat_cmp (in_slots 0 slots) fd (in_order 0 slots) ∙ ap (λ k. find nat_cmp k (in_slots 0 slots)) (omega arith) ∙ found 0 fd slots

-- ---- how many there are
counted : (n : ℕ) (slots : List (Option Did)) → length (in_slots n slots) ≡ count_by is_some slots
counted n [] = refl
counted n (None ∷ slots) = let rest = counted (n + 1) slots in let step = sum_by-cons (λ (s : Option Did). cond (is_some s) 1 0) None slots in omega (arith, rest, step)
counted n (Some did ∷ slots) = let rest = counted (n + 1) slots in let step = sum_by-cons (λ (s : Option Did). cond (is_some s) 1 0) (Some did) slots in omega (arith, rest, step)

count-fds : (slots : List (Option Did)) → fd_count (fds_in slots) ≡ count_by is_some slots
count-fds slots = ap length (entries-fds slots) ∙ counted 0 slots

-- ---- the lowest that is free
gap_above : (k n : ℕ) (slots : List (Option Did)) → k < n → first_gap k (map (λ (e : ℕ × Did). e.0) (in_slots n slots)) ≡ k
gap_above k n [] h = refl
gap_above k n (None ∷ slots) h = gap_above k (n + 1) slots (omega arith)
gap_above k n (Some did ∷ slots) h = let apart : (n == k) ≡ false = grind (arith, nat_tests) in ap (λ b. cond b (first_gap (k + 1) (map (λ (e : ℕ × Did). e.0) (in_slots (n + 1) slots))) k) apart

first_none : (n : ℕ) (slots : List (Option Did)) → first_gap n (map (λ (e : ℕ × Did). e.0) (in_slots n slots)) ≡ n + position_or_len is_none slots
first_none n [] = omega arith
first_none n (None ∷ slots) = gap_above n (n + 1) slots (omega arith) ∙ omega arith
first_none n (Some did ∷ slots) =
    let same : (n == n) ≡ true = grind (arith, nat_tests) in
    let rest = first_none (n + 1) slots in
    ap (λ b. cond b (first_gap (n + 1) (map (λ (e : ℕ × Did). e.0) (in_slots (n + 1) slots))) n) same ∙ rest ∙ omega arith

pub lowest-fds : (slots : List (Option Did)) → lowest_free (fds_in slots) ≡ position_or_len is_none slots
unfolding lowest_free
lowest-fds slots = ap (λ (es : List (ℕ × Did)). first_gap 0 (map (λ (e : ℕ × Did). e.0) es)) (entries-fds slots) ∙ first_none 0 slots ∙ omega arith

-- the first slot that is not taken is free
pub first_is_free : (slots : List (Option Did)) → option_flatten (slice_get slots (position_or_len is_none slots)) ≡ None
first_is_free [] = refl
first_is_free (None ∷ slots) = refl
first_is_free (Some did ∷ slots) = let one : 1 + position_or_len is_none slots ≡ suc (position_or_len is_none slots) = omega arith in ap (λ k. option_flatten (slice_get (Some did ∷ slots) k)) one ∙ first_is_free slots

-- ---- the same by which slots are taken
abbrev first_did : List Label → List ℕ → Did
first_did labels counts = record { label = get_or labels 0 bottom; n = get_or counts 0 0 }

count-taken : (taken : List Bool) (labels : List Label) (counts : List ℕ) → count_by is_some (slots_of taken labels counts) ≡ count_by (λ b. b) taken
count-taken [] labels counts = refl
count-taken (true ∷ taken) labels counts =
    let rest = count-taken taken (drop 1 labels) (drop 1 counts) in
    let bit = sum_by-cons (λ (b : Bool). cond b 1 0) true taken in
    let step = sum_by-cons (λ (t : Option Did). cond (is_some t) 1 0) (Some (first_did labels counts)) (slots_of taken (drop 1 labels) (drop 1 counts)) in omega (arith, rest, bit, step)
count-taken (false ∷ taken) labels counts =
    let rest = count-taken taken (drop 1 labels) (drop 1 counts) in
    let bit = sum_by-cons (λ (b : Bool). cond b 1 0) false taken in
    let step = sum_by-cons (λ (t : Option Did). cond (is_some t) 1 0) None (slots_of taken (drop 1 labels) (drop 1 counts)) in omega (arith, rest, bit, step)

-- as many slots are taken as there are descriptors
pub count-seen : (taken : List Bool) (labels : List Label) (counts : List ℕ) (fds : Fds) → fds_in (slots_of taken labels counts) ≡ fds → count_by (λ b. b) taken ≡ fd_count fds
count-seen taken labels counts fds view = sym (count-taken taken labels counts) ∙ sym (count-fds (slots_of taken labels counts)) ∙ ap fd_count view

pub lowest-taken : (taken : List Bool) (labels : List Label) (counts : List ℕ) → position_or_len is_none (slots_of taken labels counts) ≡ position_or_len not taken
lowest-taken [] labels counts = refl
lowest-taken (true ∷ taken) labels counts = ap (λ n. 1 + n) (lowest-taken taken (drop 1 labels) (drop 1 counts))
lowest-taken (false ∷ taken) labels counts = refl

pub length-slots : (taken : List Bool) (labels : List Label) (counts : List ℕ) → length (slots_of taken labels counts) ≡ length taken
length-slots [] labels counts = refl
length-slots (b ∷ taken) labels counts = ap suc (length-slots taken (drop 1 labels) (drop 1 counts))

-- a slot that is not taken
pub free_slot : (taken : List Bool) (labels : List Label) (counts : List ℕ) (i : ℕ) → get_or taken i false ≡ false → option_flatten (slice_get (slots_of taken labels counts) i) ≡ None
free_slot [] labels counts i free = refl
free_slot (b ∷ taken) labels counts zero free = ap (λ b. cond b (Some (first_did labels counts)) None) free
free_slot (b ∷ taken) labels counts (suc i) free = free_slot taken (drop 1 labels) (drop 1 counts) i free

-- a slot that is taken
pub taken_slot : (taken : List Bool) (labels : List Label) (counts : List ℕ) (i : ℕ) (l : Label) → get_or taken i false ≡ true → i < length labels
    → option_flatten (slice_get (slots_of taken labels counts) i) ≡ Some (record { label = get_or labels i l; n = get_or counts i 0 })
taken_slot [] labels counts i l is h = absurd (false≢true is)
taken_slot (b ∷ taken) [] counts i l is h = absurd (omega arith)
taken_slot (b ∷ taken) (m ∷ labels) counts zero l is h = ap (λ b. cond b (Some (record { label = m; n = get_or counts 0 0 })) None) is
taken_slot (b ∷ taken) (m ∷ labels) [] (suc i) l is h = taken_slot taken labels [] i l is (omega arith)
taken_slot (b ∷ taken) (m ∷ labels) (n ∷ counts) (suc i) l is h = taken_slot taken labels counts i l is (omega arith)

-- ---- a slot that is set
slice_get-set : (slots : List (Option Did)) (i q : ℕ) (w : Option Did) → i < length slots → slice_get (set slots i w) q ≡ cond (q == i) (Some w) (slice_get slots q)
slice_get-set [] i q w h = absurd (omega arith)
slice_get-set (s ∷ slots) zero zero w h = refl
slice_get-set (s ∷ slots) zero (suc q) w h = let apart : (suc q == 0) ≡ false = grind (arith, nat_tests) in ap (λ b. cond b (Some w) (slice_get slots q)) (sym apart)
slice_get-set (s ∷ slots) (suc i) zero w h = let apart : (0 == suc i) ≡ false = grind (arith, nat_tests) in ap (λ b. cond b (Some w) (Some s)) (sym apart)
slice_get-set (s ∷ slots) (suc i) (suc q) w h =
    let same : (q == i) ≡ (suc q == suc i) = grind (arith, nat_tests) in
    slice_get-set slots i q w (omega arith) ∙ ap (λ b. cond b (Some w) (slice_get slots q)) same

flat : (b : Bool) (w : Option Did) (o : Option (Option Did)) → option_flatten (cond b (Some w) o) ≡ cond b w (option_flatten o)
flat true w o = refl
flat false w o = refl

module _ (slots : List (Option Did)) (i : ℕ) (within : i < length slots) where
  get-set : (w : Option Did) (q : ℕ) → table.get (fds_in (set slots i w)) q ≡ cond (eq_by_cmp nat_cmp q i) w (table.get (fds_in slots) q)
  get-set w q =
      get-fds (set slots i w) q ∙ ap option_flatten (slice_get-set slots i q w within) ∙ flat (q == i) w (slice_get slots q)
      ∙ ap (λ b. cond b w (option_flatten (slice_get slots q))) (sym (unsigned_tied q i)) ∙ ap (cond (eq_by_cmp nat_cmp q i) w) (sym (get-fds slots q))

  pub fds-set : (did : Did) → fds_in (set slots i (Some did)) ≡ table.insert (fds_in slots) i did
  fds-set did = same_map nat_cmp_total nat_cmp-IsAntisymmetric _ _ (λ q. get-set (Some did) q ∙ sym (get-insert nat_cmp_total (fds_in slots) i did q))

  pub fds-clear : fds_in (set slots i None) ≡ table.remove (fds_in slots) i
  fds-clear = same_map nat_cmp_total nat_cmp-IsAntisymmetric _ _ (λ q. get-set None q ∙ sym (get-remove nat_cmp_total (fds_in slots) i q))

-- ---- the same, by what is written
pub slots-set : (taken : List Bool) (labels : List Label) (counts : List ℕ) (i : ℕ) (did : Did) → i < length labels → i < length counts
    → slots_of (set taken i true) (set labels i did.label) (set counts i did.n) ≡ set (slots_of taken labels counts) i (Some did)
slots-set [] labels counts i did h k = refl
slots-set (b ∷ taken) [] counts i did h k = absurd (omega arith)
slots-set (b ∷ taken) (l ∷ labels) [] i did h k = absurd (omega arith)
slots-set (b ∷ taken) (l ∷ labels) (n ∷ counts) zero did h k = refl
slots-set (b ∷ taken) (l ∷ labels) (n ∷ counts) (suc i) did h k = ap (λ slots. cond b (Some (record { label = l; n = n })) None ∷ slots) (slots-set taken labels counts i did (omega arith) (omega arith))

pub slots-clear : (taken : List Bool) (labels : List Label) (counts : List ℕ) (i : ℕ) → slots_of (set taken i false) labels counts ≡ set (slots_of taken labels counts) i None
slots-clear [] labels counts i = refl
slots-clear (b ∷ taken) labels counts zero = refl
slots-clear (b ∷ taken) labels counts (suc i) = ap (λ slots. cond b (Some (first_did labels counts)) None ∷ slots) (slots-clear taken (drop 1 labels) (drop 1 counts) i)

-- no slot is taken
none_in : (m n : ℕ) (labels : List Label) (counts : List ℕ) → in_slots n (slots_of (replicate m false) labels counts) ≡ []
none_in zero n labels counts = refl
none_in (suc m) n labels counts = none_in m (n + 1) (drop 1 labels) (drop 1 counts)

pub no_fds : (taken : List Bool) (labels : List Label) (counts : List ℕ) (m : ℕ) → taken ≡ replicate m false → fds_in (slots_of taken labels counts) ≡ table.empty
no_fds taken labels counts m is =
    let slots = slots_of taken labels counts in
    let none : in_slots 0 slots ≡ [] = ap (λ (bs : List Bool). in_slots 0 (slots_of bs labels counts)) is ∙ none_in m 0 labels counts in
    empty_of_len (fds_in slots) (len-entries (fds_in slots) ∙ ap length (entries-fds slots ∙ none))
