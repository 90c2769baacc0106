-- How many descriptors refer to each description, after one of them is opened or closed.
use Rattle.std.specs.Prelude.{◌≡◌, ℕ, ◌+◌, ◌-◌, ◌*◌, ◌<◌, ◌≤◌, nat_le, Bool, true, false, List, [], ◌∷◌, Option, Some, None, Result, Ok, Err, OnOk, OnErr, cond, is_some, length, refl}
use Rattle.std.specs.Ordering.{nat_cmp, eq_by_cmp, is_eq, is_lt}
use Rattle.std.specs.Cmp.{eq_by_cmp_equiv, nat_cmp_is, nat_cmp_total}
use Rattle.std.specs.declared.cmp.Ordering.TheVariants.{Equal, Greater}
use Rattle.std.specs.FinMap as map
use Rattle.std.specs.FinMap.{FinMap, find, is_sorted, entries_sorted, get-empty, get-entries, get-insert, get-remove, len-empty, len-entries, len-insert, len-remove, nat_cmp-IsAntisymmetric}
use Rattle.std.specs.FinMap.Entries.{below_all}
use Rattle.std.proofs.Common.{ap, sym, ◌∙◌, subst, arith, T, inl, inr}
use Rattle.std.proofs.lemmas.Bool.{cases_lt, true≢false}
use Rattle.std.proofs.lemmas.Bool.Decides.{nat_tests}
use Rattle.std.proofs.lemmas.Cmp.{tied_itself}
use Rattle.std.proofs.lemmas.List.Elements.{All-from_recursion}
use Rattle.std.proofs.lemmas.List.Sums.{count_by-le-length, sum_by-le}
use Rattle.lab_lattice.specs.Label.{Label, label_cmp}
use Rattle.lab_lattice.proofs.Labels.{label_cmp_total, label_cmp_exact}
use Rattle.kern_model.specs.declared.limits.TheConstants.{MAX_DESCRIPTORS}
use Rattle.kern_model.specs.declared.numbers.Did.{Did}
use Rattle.kern_model.specs.declared.numbers.Pid.{Pid}
use Rattle.kern_model.specs.Keys.{did_cmp, pid_cmp, same_did}
use Rattle.kern_model.specs.Maps.{count_entries}
use Rattle.kern_model.specs.State.{last_drawn}
use Rattle.kern_model.specs.Valid.{IsThere}
use Rattle.kern_model.proofs.KeyLaws.{did_cmp_total, did_cmp_exact, pid_cmp_total, pid_cmp_exact}
use Rattle.kern_model.proofs.MapLemmas.{each-entries, each-insert, each-remove, get-insert_same, get_or-absent, get_or-found, get_or-same, head_T, never_some, same_key, tail_T}
use Rattle.kern_model.proofs.TableLemmas.{each_set_at}
use Rattle.fd_table.specs.declared.process_fds.TheConstants.{MAX_PROCESSES}
use Rattle.fd_table.specs.declared.shared.Shared.{Shared}
use Rattle.fd_table.specs.Descriptions.{SharedTable, holders_kept, with_one_less}
use Rattle.fd_table.specs.Files.{AreHeld}
use Rattle.fd_table.specs.Fds.{AllFds, Fds, fd_count, holders, holders_in, fds_of}
use Rattle.num_table.proofs.Sums.{sum-empty, sum-insert, sum-remove, sum-replace}

-- ---- counts
abbrev on_it : Did → ℕ → Did → ℕ
on_it did fd d = cond (same_did d did) 1 0

abbrev in_fds : Did → Pid → Fds → ℕ
in_fds did who fds = holders_in fds did

pub in-empty : (did : Did) → holders_in map.empty did ≡ 0
unfolding count_entries
in-empty did = sum-empty (on_it did) nat_cmp

module _ (fds : Fds) (fd : ℕ) (d did : Did) where
  pub in-insert : map.get fds fd ≡ None → holders_in (map.insert fds fd d) did ≡ cond (same_did d did) 1 0 + holders_in fds did
  unfolding count_entries
  in-insert none = sum-insert (on_it did) nat_cmp_total fds fd d none

  pub in-remove : map.get fds fd ≡ Some d → holders_in fds did ≡ cond (same_did d did) 1 0 + holders_in (map.remove fds fd) did
  unfolding count_entries
  in-remove there = sum-remove (on_it did) nat_cmp_total nat_cmp-IsAntisymmetric fds fd d there

pub holders-empty : (did : Did) → holders map.empty did ≡ 0
unfolding holders
holders-empty did = sum-empty (in_fds did) pid_cmp

module _ (processes : AllFds) (who : Pid) (did : Did) where
  pub holders-insert : (fds : Fds) → map.get processes who ≡ None → holders (map.insert processes who fds) did ≡ holders_in fds did + holders processes did
  unfolding holders
  holders-insert fds none = sum-insert (in_fds did) pid_cmp_total processes who fds none

  pub holders-remove : (fds : Fds) → map.get processes who ≡ Some fds → holders processes did ≡ holders_in fds did + holders (map.remove processes who) did
  unfolding holders
  holders-remove fds there = sum-remove (in_fds did) pid_cmp_total pid_cmp_exact processes who fds there

  pub holders-replace : (old new : Fds) → map.get processes who ≡ Some old → holders_in old did + holders (map.insert processes who new) did ≡ holders_in new did + holders processes did
  unfolding holders
  holders-replace old new there = sum-replace (in_fds did) pid_cmp_total pid_cmp_exact processes who old new there

-- the descriptors of a process that is there
pub fds_are : (processes : AllFds) (who : Pid) → IsThere processes who → map.get processes who ≡ Some (fds_of processes who)
fds_are processes who there = there.is ∙ ap Some (sym (get_or-found processes who map.empty there.value there.is))

-- a process with a descriptor is there
pub has_fds : (processes : AllFds) (who : Pid) (fd : ℕ) (did : Did) → map.get (fds_of processes who) fd ≡ Some did → IsThere processes who
has_fds processes who fd did is =
    elim (map.get processes who) as (λ w. map.get processes who ≡ w → IsThere processes who) [
      | None ↦ λ e. absurd (never_some (map.get (fds_of processes who) fd) did (ap (λ (fds : Fds). map.get fds fd) (get_or-absent processes who map.empty e) ∙ get-empty {X = Did} nat_cmp fd) is)
      | Some fds ↦ λ e. record { value = fds; is = e }
    ] refl

pub there_if : (processes : AllFds) (who : Pid) → is_some (map.get processes who) ≡ true → IsThere processes who
there_if processes who has =
    elim (map.get processes who) as (λ w. map.get processes who ≡ w → is_some w ≡ true → IsThere processes who) [
      | None ↦ λ e (no : false ≡ true). absurd (cc)
      | Some fds ↦ λ e _. record { value = fds; is = e }
    ] refl has

-- what is not there
pub none_if : {X : Type 0} (w : Option X) → is_some w ≡ false → w ≡ None
none_if None e = refl
none_if (Some x) e = absurd (true≢false e)

-- a process without descriptors is as one that is not there
module _ (processes : AllFds) (who : Pid) (absent : map.get processes who ≡ None) where
  pub fds_with : (q : Pid) → fds_of (map.insert processes who map.empty) q ≡ fds_of processes q
  fds_with q =
      elim (eq_by_cmp pid_cmp q who) as (λ b. eq_by_cmp pid_cmp q who ≡ b → fds_of (map.insert processes who map.empty) q ≡ fds_of processes q) [
        | true ↦ λ t.
            let same = same_key pid_cmp_exact q who t in
            ap (fds_of (map.insert processes who map.empty)) same
            ∙ get_or-found (map.insert processes who map.empty) who map.empty map.empty (get-insert_same pid_cmp_total processes who map.empty)
            ∙ sym (ap (fds_of processes) same ∙ get_or-absent processes who map.empty absent)
        | false ↦ λ t. get_or-same (map.insert processes who map.empty) processes q map.empty (get-insert pid_cmp_total processes who map.empty q ∙ ap (λ b. cond b (Some map.empty) (map.get processes q)) t)
      ] refl

  pub fds_as_before : {X E : Type 0} (r : Result X E) (new : AllFds) → OnOk r (new ≡ map.insert processes who map.empty) → OnErr r (new ≡ processes) → (q : Pid) → fds_of new q ≡ fds_of processes q
  fds_as_before (Ok x) new is same q = ap (λ (m : AllFds). fds_of m q) is ∙ fds_with q
  fds_as_before (Err e) new is same q = ap (λ (m : AllFds). fds_of m q) same

-- ---- a process has few descriptors
more_than : (k e : ℕ) → T (is_lt (nat_cmp k e)) → k < e
more_than k e h = elim (cases_lt k e) [
  | inl less ↦ less
  | inr more ↦ elim (cases_lt e k) [
    | inl above ↦ absurd (subst (λ r. T (is_lt r)) (sym (nat_cmp_is k e Greater above)) h)
    | inr other ↦ let same : k ≡ e = omega (arith, more, other) in absurd (subst (λ r. T (is_lt r)) (sym (nat_cmp_is k e Equal same)) h)
  ]
]

above_found : (k : ℕ) (es : List (ℕ × Did)) → T (below_all nat_cmp k es) → (q : ℕ) (y : Did) → find nat_cmp q es ≡ Some y → k < q
above_found k [] h q y f = absurd (never_some None y refl f)
above_found k (e ∷ es) h q y f =
    elim (eq_by_cmp nat_cmp q e.0) as (λ b. eq_by_cmp nat_cmp q e.0 ≡ b → cond b (Some e.1) (find nat_cmp q es) ≡ Some y → k < q) [
      | true ↦ λ t _. subst (λ j. k < j) (sym (same_key nat_cmp-IsAntisymmetric q e.0 t)) (more_than k e.0 (head_T _ _ h))
      | false ↦ λ _ g. above_found k es (tail_T _ _ h) q y g
    ] refl f

few_sorted : (a : ℕ) (es : List (ℕ × Did)) → T (is_sorted nat_cmp es) → a ≤ 32 → ((q : ℕ) (y : Did) → find nat_cmp q es ≡ Some y → (a ≤ q) × (q < 32)) → length es + a ≤ 32
few_sorted a [] h few all = omega (arith, few)
few_sorted a (e ∷ es) h few all =
    let here = all e.0 e.1 (ap (λ r. cond (is_eq r) (Some e.1) (find nat_cmp e.0 es)) (tied_itself nat_cmp_total e.0)) in
    let low : a ≤ e.0 = here.0 in
    let high : e.0 < 32 = here.1 in
    let later : (q : ℕ) (y : Did) → find nat_cmp q es ≡ Some y → (e.0 + 1 ≤ q) × (q < 32) =
    λ q y f. let above = above_found e.0 es (head_T _ _ h) q y f in (
      omega (arith, above),
      elim (eq_by_cmp nat_cmp q e.0) as (λ b. eq_by_cmp nat_cmp q e.0 ≡ b → q < 32) [
        | true ↦ λ t. subst (λ j. j < 32) (sym (same_key nat_cmp-IsAntisymmetric q e.0 t)) high
        | false ↦ λ t. (all q y (ap (λ b. cond b (Some e.1) (find nat_cmp q es)) t ∙ f)).1
      ] refl,
    ) in
    let rest : length es + (e.0 + 1) ≤ 32 = few_sorted (e.0 + 1) es (tail_T _ _ h) (omega (arith, high)) later in
    omega (arith, rest, low)

pub fds_few : (fds : Fds) → ((fd : ℕ) (did : Did) → map.get fds fd ≡ Some did → fd < MAX_DESCRIPTORS) → fd_count fds ≤ 32
fds_few fds below = let few = few_sorted 0 (map.entries fds) (entries_sorted fds) (omega arith) (λ q y f. (omega arith, below q y (get-entries fds q ∙ f))) in omega (arith, few)

in_few : (fds : Fds) (did : Did) → ((fd : ℕ) (did : Did) → map.get fds fd ≡ Some did → fd < MAX_DESCRIPTORS) → holders_in fds did ≤ 32
unfolding count_entries
in_few fds did below =
    let few = fds_few fds below in
    let part = count_by-le-length (λ (e : ℕ × Did). same_did e.1 did) (map.entries fds) in
    omega (arith, few, part)

-- ---- what is kept
symmetric : (a b : Did) → same_did a b ≡ same_did b a
symmetric a b = (eq_by_cmp_equiv did_cmp_total).symm a b

-- what is counted of the description that changes, and of the others
counted_at : (shared m : SharedTable) (did : Did) (w : Option Shared) → ((q : Did) → map.get m q ≡ cond (same_did q did) w (map.get shared q)) → (q : Did) (b : Bool) → same_did did q ≡ b
    → holders_kept (map.get m q) ≡ cond b (holders_kept w) (holders_kept (map.get shared q))
counted_at shared m did w h q b t = ap holders_kept (h q) ∙ ap (λ c. holders_kept (cond c w (map.get shared q))) (symmetric q did ∙ t) ∙ elim b as (λ c. holders_kept (cond c w (map.get shared q)) ≡ cond c (holders_kept w) (holders_kept (map.get shared q))) [ true ↦ refl | false ↦ refl ]

one_more : (b : Bool) (h n k m : ℕ) → m ≡ cond b 1 0 + h → (b ≡ true → n ≡ h + 1) → k ≡ h → cond b n k ≡ m
one_more true h n k m e f g = let here = f refl in omega (arith, e, here)
one_more false h n k m e f g = omega (arith, e, g)

one_less : (b : Bool) (h n k m : ℕ) → h ≡ cond b 1 0 + m → (b ≡ true → n + 1 ≡ h) → k ≡ h → cond b n k ≡ m
one_less true h n k m e f g = let here = f refl in omega (arith, e, here)
one_less false h n k m e f g = omega (arith, e, g)

-- the table with one descriptor less of a description
abbrev pub less : Shared → Option Shared
less s = cond (nat_le s.holders 1) None (Some (record s { holders = s.holders - 1 }))

pub get-less : (shared : SharedTable) (did : Did) (s : Shared) (q : Did) → map.get (with_one_less shared did s) q ≡ cond (same_did q did) (less s) (map.get shared q)
get-less shared did s q = elim (nat_le s.holders 1) as (λ b. map.get (cond b (map.remove shared did) (map.insert shared did (record s { holders = s.holders - 1 }))) q ≡ cond (same_did q did) (cond b None (Some (record s { holders = s.holders - 1 }))) (map.get shared q)) [
  | true ↦ get-remove did_cmp_total shared did q
  | false ↦ get-insert did_cmp_total shared did (record s { holders = s.holders - 1 }) q
]

less_kept : (s : Shared) → 1 ≤ s.holders → holders_kept (less s) + 1 ≡ s.holders
less_kept s h = elim (nat_le s.holders 1) as (λ b. nat_le s.holders 1 ≡ b → holders_kept (cond b None (Some (record s { holders = s.holders - 1 }))) + 1 ≡ s.holders) [
  | true ↦ λ t. let few : s.holders ≤ 1 = grind (arith, nat_tests) in omega (arith, few, h)
  | false ↦ λ t. omega (arith, h)
] refl

module _ (processes : AllFds) (shared : SharedTable) (numbers : FinMap label_cmp ℕ) (are : AreHeld processes shared numbers) where
  -- a description has few descriptors
  pub holders_few : (did : Did) → holders processes did ≤ map.len processes * 32
  unfolding holders
  holders_few did =
      let size = len-entries processes in
      let few = sum_by-le (λ (entry : Pid × Fds). holders_in entry.1 did) 32 (map.entries processes) (All-from_recursion (λ (entry : Pid × Fds). holders_in entry.1 did ≤ 32) (map.entries processes) (each-entries pid_cmp_total pid_cmp_exact (λ (who : Pid) (fds : Fds). holders_in fds did ≤ 32) processes (λ who fds is. in_few fds did (are.below who fds is)))) in
      omega (arith, size, few)

  pub few_more : (did : Did) (s : Shared) → map.get shared did ≡ Some s → s.holders < 18446744073709551615
  few_more did s is =
      let all : s.holders ≡ holders processes did = ap holders_kept (sym is) ∙ are.counted did in
      let few = holders_few did in
      let rooms : map.len processes ≤ 576460752303423487 = are.few in
      omega (arith, all, few, rooms)

  -- the next number is of no description
  pub fresh : (did : Did) (label : Label) → did ≡ record { label = label; n = last_drawn numbers label + 1 } → map.get shared did ≡ None
  fresh did label next = elim (map.get shared did) as (λ w. map.get shared did ≡ w → w ≡ None) [
    | None ↦ λ _. refl
    | Some s ↦ λ is.
        let low = are.drawn_already did s is in
        let same : last_drawn numbers did.label ≡ last_drawn numbers label = ap (λ (d : Did). last_drawn numbers d.label) next in
        let above : did.n ≡ last_drawn numbers label + 1 = ap (λ (d : Did). d.n) next in
        absurd (omega (arith, low, same, above))
  ] refl

  -- a process that is added
  pub held-add : (who : Pid) → map.get processes who ≡ None → map.len processes < MAX_PROCESSES → AreHeld (map.insert processes who map.empty) shared numbers
  held-add who none room = record {
    counted = λ q. let all = are.counted q in let new = holders-insert processes who q map.empty none in let nothing = in-empty q in omega (arith, all, new, nothing);
    held = are.held;
    below = each-insert pid_cmp_total pid_cmp_exact (λ (q : Pid) (fds : Fds). (fd : ℕ) (did : Did) → map.get fds fd ≡ Some did → fd < MAX_DESCRIPTORS) processes are.below who map.empty (λ fd did e. absurd (never_some (map.get map.empty fd) did (get-empty nat_cmp fd) e));
    few = let size = len-insert pid_cmp_total processes who map.empty ∙ ap (λ (w : Option Fds). cond (is_some w) (map.len processes) (map.len processes + 1)) none in omega (arith, size, room);
    drawn_already = are.drawn_already;
  }

  module _ (who : Pid) (fds : Fds) (there : map.get processes who ≡ Some fds) where
    same_size : (new : Fds) → map.len (map.insert processes who new) ≡ map.len processes
    same_size new = len-insert pid_cmp_total processes who new ∙ ap (λ (w : Option Fds). cond (is_some w) (map.len processes) (map.len processes + 1)) there

    fds_below : (new : Fds) → ((fd : ℕ) (did : Did) → map.get new fd ≡ Some did → fd < MAX_DESCRIPTORS) → (q : Pid) (fs : Fds) → map.get (map.insert processes who new) q ≡ Some fs → (fd : ℕ) (did : Did) → map.get fs fd ≡ Some did → fd < MAX_DESCRIPTORS
    fds_below new h = each-insert pid_cmp_total pid_cmp_exact (λ (q : Pid) (fs : Fds). (fd : ℕ) (did : Did) → map.get fs fd ≡ Some did → fd < MAX_DESCRIPTORS) processes are.below who new h

    -- a process without descriptors that goes
    pub held-drop : fds ≡ map.empty → AreHeld (map.remove processes who) shared numbers
    held-drop empty = record {
      counted = λ q. let all = are.counted q in let old = holders-remove processes who q fds there in let nothing = ap (λ (fs : Fds). holders_in fs q) empty ∙ in-empty q in omega (arith, all, old, nothing);
      held = are.held;
      below = each-remove pid_cmp_total pid_cmp_exact (λ (q : Pid) (fs : Fds). (fd : ℕ) (did : Did) → map.get fs fd ≡ Some did → fd < MAX_DESCRIPTORS) processes are.below who;
      few = let size = len-remove pid_cmp_total processes who ∙ ap (λ (w : Option Fds). cond (is_some w) (map.len processes - 1) (map.len processes)) there in let room = are.few in omega (arith, size, room);
      drawn_already = are.drawn_already;
    }

    module _ (fd : ℕ) (did : Did) where
      -- a descriptor that is opened
      counted_more : map.get fds fd ≡ None → (q : Did) → holders (map.insert processes who (map.insert fds fd did)) q ≡ cond (same_did did q) 1 0 + holders processes q
      counted_more none q =
          let rest = holders-replace processes who q fds (map.insert fds fd did) there in
          let own = in-insert fds fd did q none in
          omega (arith, rest, own)

      fds_more : fd < MAX_DESCRIPTORS → (k : ℕ) (d : Did) → map.get (map.insert fds fd did) k ≡ Some d → k < MAX_DESCRIPTORS
      fds_more low = each-insert nat_cmp_total nat_cmp-IsAntisymmetric (λ (k : ℕ) (d : Did). k < MAX_DESCRIPTORS) fds (are.below who fds there) fd did low

      -- on a description that is there
      pub held-set : (s : Shared) → map.get shared did ≡ Some s → map.get fds fd ≡ None → fd < MAX_DESCRIPTORS → AreHeld (map.insert processes who (map.insert fds fd did)) (map.insert shared did (record s { holders = s.holders + 1 })) numbers
      held-set s is none low = record {
        counted = λ q. counted_at shared (map.insert shared did (record s { holders = s.holders + 1 })) did (Some (record s { holders = s.holders + 1 })) (get-insert did_cmp_total shared did (record s { holders = s.holders + 1 })) q (same_did did q) refl
            ∙ one_more (same_did did q) (holders processes q) (s.holders + 1) (holders_kept (map.get shared q)) (holders (map.insert processes who (map.insert fds fd did)) q) (counted_more none q)
            (λ t. ap (λ n. n + 1) (ap holders_kept (sym is) ∙ are.counted did ∙ ap (holders processes) (same_key did_cmp_exact did q t))) (are.counted q);
        held = each-insert did_cmp_total did_cmp_exact (λ (q : Did) (x : Shared). 1 ≤ x.holders) shared are.held did (record s { holders = s.holders + 1 }) (omega arith);
        below = fds_below (map.insert fds fd did) (fds_more low);
        few = let size = same_size (map.insert fds fd did) in let room = are.few in omega (arith, size, room);
        drawn_already = each-insert did_cmp_total did_cmp_exact (λ (q : Did) (x : Shared). q.n ≤ last_drawn numbers q.label) shared are.drawn_already did (record s { holders = s.holders + 1 }) (are.drawn_already did s is);
      }

      -- on a new one
      pub held-new : (label : Label) → did ≡ record { label = label; n = last_drawn numbers label + 1 } → (s : Shared) → s.holders ≡ 1 → map.get fds fd ≡ None → fd < MAX_DESCRIPTORS → AreHeld (map.insert processes who (map.insert fds fd did)) (map.insert shared did s) (map.insert numbers label did.n)
      held-new label next s one none low = record {
        counted = λ q. counted_at shared (map.insert shared did s) did (Some s) (get-insert did_cmp_total shared did s) q (same_did did q) refl
            ∙ one_more (same_did did q) (holders processes q) s.holders (holders_kept (map.get shared q)) (holders (map.insert processes who (map.insert fds fd did)) q) (counted_more none q)
            (λ t.
            let nothing : 0 ≡ holders processes q = ap holders_kept (sym (fresh did label next)) ∙ are.counted did ∙ ap (holders processes) (same_key did_cmp_exact did q t) in
            omega (arith, nothing, one)) (are.counted q);
        held = each-insert did_cmp_total did_cmp_exact (λ (q : Did) (x : Shared). 1 ≤ x.holders) shared are.held did s (omega (arith, one));
        below = fds_below (map.insert fds fd did) (fds_more low);
        few = let size = same_size (map.insert fds fd did) in let room = are.few in omega (arith, size, room);
        drawn_already = each-insert did_cmp_total did_cmp_exact (λ (q : Did) (x : Shared). q.n ≤ last_drawn (map.insert numbers label did.n) q.label) shared
            (λ q x e. let low = are.drawn_already q x e in let rise = rises label (ap (λ (d : Did). d.n) next) q.label in omega (arith, low, rise)) did s
            (let now = now_drawn label in let same : last_drawn (map.insert numbers label did.n) did.label ≡ last_drawn (map.insert numbers label did.n) label = ap (λ (d : Did). last_drawn (map.insert numbers label did.n) d.label) next in omega (arith, now, same));
      }
        where
          rises : (label : Label) → did.n ≡ last_drawn numbers label + 1 → (l : Label) → last_drawn numbers l ≤ last_drawn (map.insert numbers label did.n) l
          rises label next = each_set_at label_cmp_total label_cmp_exact (λ l n. last_drawn numbers l ≤ n) 0 numbers label did.n (omega (arith, next)) (λ l. omega arith)

          now_drawn : (label : Label) → last_drawn (map.insert numbers label did.n) label ≡ did.n
          now_drawn label = get_or-found (map.insert numbers label did.n) label 0 did.n (get-insert_same label_cmp_total numbers label did.n)

      -- a descriptor that is closed
      pub held-free : (s : Shared) → map.get shared did ≡ Some s → map.get fds fd ≡ Some did → AreHeld (map.insert processes who (map.remove fds fd)) (with_one_less shared did s) numbers
      held-free s is at = record {
        counted = λ q. counted_at shared (with_one_less shared did s) did (less s) (get-less shared did s) q (same_did did q) refl
            ∙ one_less (same_did did q) (holders processes q) (holders_kept (less s)) (holders_kept (map.get shared q)) (holders (map.insert processes who (map.remove fds fd)) q)
            (let rest = holders-replace processes who q fds (map.remove fds fd) there in let own = in-remove fds fd did q at in omega (arith, rest, own))
            (λ t. less_kept s (are.held did s is) ∙ ap holders_kept (sym is) ∙ are.counted did ∙ ap (holders processes) (same_key did_cmp_exact did q t)) (are.counted q);
        held = still_held (nat_le s.holders 1) refl;
        below = fds_below (map.remove fds fd) (each-remove nat_cmp_total nat_cmp-IsAntisymmetric (λ (k : ℕ) (d : Did). k < MAX_DESCRIPTORS) fds (are.below who fds there) fd);
        few = let size = same_size (map.remove fds fd) in let room = are.few in omega (arith, size, room);
        drawn_already = still_drawn (nat_le s.holders 1);
      }
        where
          still_held : (b : Bool) → nat_le s.holders 1 ≡ b → (q : Did) (x : Shared) → map.get (cond b (map.remove shared did) (map.insert shared did (record s { holders = s.holders - 1 }))) q ≡ Some x → 1 ≤ x.holders
          still_held true t = each-remove did_cmp_total did_cmp_exact (λ (q : Did) (x : Shared). 1 ≤ x.holders) shared are.held did
          still_held false t =
              let many : 1 < s.holders = grind (arith, nat_tests) in
              each-insert did_cmp_total did_cmp_exact (λ (q : Did) (x : Shared). 1 ≤ x.holders) shared are.held did (record s { holders = s.holders - 1 }) (omega (arith, many))

          still_drawn : (b : Bool) → (q : Did) (x : Shared) → map.get (cond b (map.remove shared did) (map.insert shared did (record s { holders = s.holders - 1 }))) q ≡ Some x → q.n ≤ last_drawn numbers q.label
          still_drawn true = each-remove did_cmp_total did_cmp_exact (λ (q : Did) (x : Shared). q.n ≤ last_drawn numbers q.label) shared are.drawn_already did
          still_drawn false = each-insert did_cmp_total did_cmp_exact (λ (q : Did) (x : Shared). q.n ≤ last_drawn numbers q.label) shared are.drawn_already did (record s { holders = s.holders - 1 }) (are.drawn_already did s is)

  -- a description whose offset is set
  pub held-moved : (did : Did) (s new : Shared) → map.get shared did ≡ Some s → new.holders ≡ s.holders → AreHeld processes (map.insert shared did new) numbers
  held-moved did s new is same = record {
    counted = λ q. counted_at shared (map.insert shared did new) did (Some new) (get-insert did_cmp_total shared did new) q (same_did did q) refl
        ∙ kept_same q (same_did did q) refl ∙ are.counted q;
    held = each-insert did_cmp_total did_cmp_exact (λ (q : Did) (x : Shared). 1 ≤ x.holders) shared are.held did new (let one = are.held did s is in omega (arith, one, same));
    below = are.below;
    few = are.few;
    drawn_already = each-insert did_cmp_total did_cmp_exact (λ (q : Did) (x : Shared). q.n ≤ last_drawn numbers q.label) shared are.drawn_already did new (are.drawn_already did s is);
  }
    where
      kept_same : (q : Did) (b : Bool) → same_did did q ≡ b → cond b new.holders (holders_kept (map.get shared q)) ≡ holders_kept (map.get shared q)
      kept_same q true t = same ∙ ap holders_kept (sym is) ∙ ap (λ (d : Did). holders_kept (map.get shared d)) (same_key did_cmp_exact did q t)
      kept_same q false t = refl

  -- the descriptors of a process refer to descriptions that are there
  held_there : (who : Pid) (fds : Fds) → map.get processes who ≡ Some fds → (fd : ℕ) (did : Did) → map.get fds fd ≡ Some did → (w : Option Shared) → map.get shared did ≡ w → IsThere shared did
  held_there who fds there fd did at None none =
      let nothing : 0 ≡ holders processes did = ap holders_kept (sym none) ∙ are.counted did in
      let rest = holders-remove processes who did fds there in
      let own = in-remove fds fd did did at in
      let one : ◌≡◌ {A = ℕ} (cond (same_did did did) 1 0) 1 = ap (λ r. cond {A = ℕ} (is_eq r) 1 0) (tied_itself did_cmp_total did) in
      absurd (omega (arith, nothing, rest, own, one))
  held_there who fds there fd did at (Some s) is = record { value = s; is = is }

  pub open_there : (who : Pid) (fd : ℕ) (did : Did) → map.get (fds_of processes who) fd ≡ Some did → IsThere shared did
  open_there who fd did at = elim (map.get processes who) as (λ w. map.get processes who ≡ w → IsThere shared did) [
    | None ↦ λ none. absurd (never_some (map.get (fds_of processes who) fd) did (ap (λ (fds : Fds). map.get fds fd) (get_or-absent processes who map.empty none) ∙ get-empty nat_cmp fd) at)
    | Some fds ↦ λ there. held_there who fds there fd did (ap (λ (fds : Fds). map.get fds fd) (sym (get_or-found processes who map.empty fds there)) ∙ at) (map.get shared did) refl
  ] refl

-- nothing is kept
pub none_held : AreHeld map.empty map.empty map.empty
none_held = record {
  counted = λ q. ap holders_kept (get-empty did_cmp q) ∙ sym (holders-empty q);
  held = λ q s e. absurd (never_some (map.get map.empty q) s (get-empty did_cmp q) e);
  below = λ q fds e. absurd (never_some (map.get map.empty q) fds (get-empty pid_cmp q) e);
  few = let size = len-empty pid_cmp Fds in omega (arith, size);
  drawn_already = λ q s e. absurd (never_some (map.get map.empty q) s (get-empty did_cmp q) e);
}
