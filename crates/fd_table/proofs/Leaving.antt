-- The descriptions that are left where descriptors close, and the FIFOs that lose their last one.
use Rattle.std.specs.Prelude.{◌≡◌, ◌==◌, ◌&&◌, not, ℕ, ◌-◌, nat_le, Bool, true, false, [], Option, Some, None, cond, refl}
use Rattle.std.specs.Option.{option_and_then, option_map}
use Rattle.std.specs.List.{list_any}
use Rattle.std.specs.Cmp.{eq_by_cmp_equiv}
use Rattle.std.specs.FinMap as map
use Rattle.std.specs.FinMap.{FinMap, get-empty, get-insert, same_map}
use Rattle.std.proofs.Common.{ap, sym, ◌∙◌, arith}
use Rattle.std.proofs.lemmas.Bool.Decides.{nat_tests}
use Rattle.std.proofs.Math.Bool.{and-false, and-true, not-not}
use Rattle.kern_model.specs.declared.numbers.Did.{Did}
use Rattle.kern_model.specs.declared.numbers.Oid.{Oid}
use Rattle.kern_model.specs.declared.numbers.Pid.{Pid}
use Rattle.kern_model.specs.declared.objects.Object.{Object}
use Rattle.kern_model.specs.Keys.{did_cmp, oid_cmp, same_did, same_oid}
use Rattle.kern_model.specs.Kinds.{is_fifo}
use Rattle.kern_model.specs.Maps.{any_entry, count_entries, select, where_key}
use Rattle.kern_model.specs.State.{Description}
use Rattle.kern_model.specs.Valid.{IsThere}
use Rattle.kern_model.proofs.KeyLaws.{did_cmp_total, did_cmp_exact, oid_cmp_total, oid_cmp_exact}
use Rattle.kern_model.proofs.MapLemmas.{get-select, get-select_dropped, get-select_kept, select-insert_kept, same_key, some_same, never_some, insert-same}
use Rattle.kern_model.proofs.Selections.{any_entry-select}
use Rattle.fd_table.specs.declared.shared.Shared.{Shared}
use Rattle.fd_table.specs.Descriptions.{SharedTable, description_of, descriptions_of, has_user, holders_kept, uses_of, with_one_less}
use Rattle.fd_table.specs.Files.{AreHeld, objects_after_close, emptied_if, is_held, is_open, is_unused}
use Rattle.fd_table.specs.Fifo.{fifo_emptied, without_bytes}
use Rattle.fd_table.specs.Fds.{AllFds, Fds, holders, holders_in}
use Rattle.fd_table.proofs.Holding.{get-less, less}
use Rattle.num_table.proofs.Sums.{any-sum}
use Rattle.fd_table.proofs.UseLemmas.{on_object, once, some-number, uses-remove, uses-replace, uses_some}
use Rattle.lab_lattice.specs.Label.{label_cmp}

-- ---- descriptions without their counts
pub get-descriptions : (shared : SharedTable) (did : Did) → map.get (descriptions_of shared) did ≡ option_map description_of (map.get shared did)
unfolding descriptions_of
get-descriptions shared did = get-select_kept did_cmp_total did_cmp_exact (λ d. true) description_of shared did refl

pub descriptions-empty : descriptions_of map.empty ≡ map.empty
descriptions-empty = same_map did_cmp_total did_cmp_exact _ _ (λ q. get-descriptions map.empty q ∙ ap (option_map description_of) (get-empty did_cmp q) ∙ sym (get-empty did_cmp q))

pub descriptions-insert : (shared : SharedTable) (did : Did) (s : Shared) → descriptions_of (map.insert shared did s) ≡ map.insert (descriptions_of shared) did (description_of s)
unfolding descriptions_of
descriptions-insert shared did s = select-insert_kept did_cmp_total did_cmp_exact (λ d. true) description_of shared did s refl

-- ---- whether a description is held
pub held-count : (processes : AllFds) (did : Did) → is_held processes did ≡ not (holders processes did == 0)
unfolding is_held holders any_entry count_entries
held-count processes did = any-sum (λ (entry : Pid × Fds). list_any (λ (e : ℕ × Did). same_did e.1 did) (map.entries entry.1)) (λ (entry : Pid × Fds). holders_in entry.1 did)
    (λ entry. any-sum (λ (e : ℕ × Did). same_did e.1 did) (λ (e : ℕ × Did). cond (same_did e.1 did) 1 0) (λ e. once (same_did e.1 did)) (map.entries entry.1)) (map.entries processes)

-- ---- what is there with its count and without
pub there_without : (shared : SharedTable) (did : Did) → IsThere shared did → IsThere (descriptions_of shared) did
there_without shared did there = record { value = description_of there.value; is = get-descriptions shared did ∙ ap (option_map description_of) there.is }

pub there_with : (shared : SharedTable) (did : Did) → IsThere (descriptions_of shared) did → IsThere shared did
there_with shared did there = elim (map.get shared did) as (λ w. map.get shared did ≡ w → IsThere shared did) [
  | None ↦ λ none. absurd (never_some (map.get (descriptions_of shared) did) there.value (get-descriptions shared did ∙ ap (option_map description_of) none) there.is)
  | Some s ↦ λ is. record { value = s; is = is }
] refl

-- another count leaves the description as it is
pub descriptions-count : (shared : SharedTable) (did : Did) (s new : Shared) → map.get shared did ≡ Some s → description_of new ≡ description_of s → descriptions_of (map.insert shared did new) ≡ descriptions_of shared
descriptions-count shared did s new is same =
    descriptions-insert shared did new ∙ ap (map.insert (descriptions_of shared) did) same
    ∙ insert-same did_cmp_total did_cmp_exact (descriptions_of shared) did (description_of s) (get-descriptions shared did ∙ ap (option_map description_of) is)

-- the description that is there
pub description_is : (shared : SharedTable) (did : Did) (s : Shared) (d : Description) → map.get shared did ≡ Some s → map.get (descriptions_of shared) did ≡ Some d → description_of s ≡ d
description_is shared did s d is at = some_same (description_of s) d (sym (get-descriptions shared did ∙ ap (option_map description_of) is) ∙ at)

-- ---- which objects have descriptions
abbrev of_object : Oid → Did → Description → Bool
of_object id did d = same_oid d.object id

open_alike : (shared : SharedTable) (id : Oid) → is_open (descriptions_of shared) id ≡ any_entry (on_object id) shared
unfolding descriptions_of
open_alike shared id = any_entry-select did_cmp_total did_cmp_exact (where_key (λ (did : Did). true) description_of) (on_object id) (of_object id) shared (λ k s e. refl)

-- what passes a test without its count
pub users_alike : (test : Description → Bool) (shared : SharedTable) (id : Oid) → has_user (λ s. test (description_of s)) shared id ≡ any_entry (λ (did : Did) (d : Description). same_oid d.object id && test d) (descriptions_of shared)
unfolding descriptions_of
users_alike test shared id = sym (any_entry-select did_cmp_total did_cmp_exact (where_key (λ (did : Did). true) description_of) (λ (did : Did) (s : Shared). same_oid s.object id && test (description_of s)) (λ (did : Did) (d : Description). same_oid d.object id && test d) shared (λ k s e. refl))

-- an object has a description where their number is not 0
pub open-count : (shared : SharedTable) (id : Oid) → is_open (descriptions_of shared) id ≡ not (uses_of shared id == 0)
open-count shared id = open_alike shared id ∙ some-number (on_object id) shared

-- ---- the descriptions that are left
pub left_held : (processes : AllFds) (old : FinMap did_cmp Description) (new : SharedTable) (numbers : FinMap label_cmp ℕ) → AreHeld processes new numbers
    → ((q : Did) (s : Shared) → map.get new q ≡ Some s → map.get old q ≡ Some (description_of s)) → descriptions_of new ≡ select (where_key (is_held processes) (λ d. d)) old
left_held processes old new numbers are same = same_map did_cmp_total did_cmp_exact _ _ (λ q.
    get-descriptions new q
    ∙ elim (map.get new q) as (λ w. map.get new q ≡ w → option_map description_of w ≡ map.get (select (where_key (is_held processes) (λ d. d)) old) q) [
      | None ↦ λ none.
          let nothing : 0 ≡ holders processes q = ap holders_kept (sym none) ∙ are.counted q in
          sym (get-select_dropped did_cmp_total did_cmp_exact (is_held processes) (λ d. d) old q (held-count processes q ∙ ap (λ n. not (n == 0)) (sym nothing)))
      | Some s ↦ λ is.
          let all : s.holders ≡ holders processes q = ap holders_kept (sym is) ∙ are.counted q in
          let one = are.held q s is in
          let more : (holders processes q == 0) ≡ false = grind (arith, nat_tests) in
          sym (get-select_kept did_cmp_total did_cmp_exact (is_held processes) (λ d. d) old q (held-count processes q ∙ ap not more) ∙ ap (option_map (λ d. d)) (same q s is))
    ] refl)

-- what one descriptor less leaves of each description
pub less_same : (shared : SharedTable) (did : Did) (s : Shared) → map.get shared did ≡ Some s → (q : Did) (x : Shared) → map.get (with_one_less shared did s) q ≡ Some x → map.get (descriptions_of shared) q ≡ Some (description_of x)
less_same shared did s is q x e =
    get-descriptions shared q
    ∙ elim (same_did q did) as (λ b. same_did q did ≡ b → cond b (less s) (map.get shared q) ≡ Some x → option_map description_of (map.get shared q) ≡ Some (description_of x)) [
      | true ↦ λ t f. ap (λ (d : Did). option_map description_of (map.get shared d)) (same_key did_cmp_exact q did t) ∙ ap (option_map description_of) is ∙ lessened s x f
      | false ↦ λ _ f. ap (option_map description_of) f
    ] refl (sym (get-less shared did s q) ∙ e)
  where
    lessened : (s x : Shared) → less s ≡ Some x → ◌≡◌ {A = Option Description} (Some (description_of s)) (Some (description_of x))
    lessened s x = elim (nat_le s.holders 1) as (λ b. cond b None (Some (record s { holders = s.holders - 1 })) ≡ Some x → ◌≡◌ {A = Option Description} (Some (description_of s)) (Some (description_of x))) [
      | true ↦ λ f. absurd (never_some None x refl f)
      | false ↦ λ f. ap (λ (y : Shared). Some (description_of y)) (some_same (record s { holders = s.holders - 1 }) x f)
    ]

-- ---- FIFOs that lose their last description
module _ (old new : FinMap did_cmp Description) (objects : FinMap oid_cmp Object) where
  pub get-drained : (q : Oid) → map.get (objects_after_close old new objects) q ≡ option_map (λ (o : Object). emptied_if (is_fifo o.kind && is_unused old new q) o) (map.get objects q)
  unfolding objects_after_close
  get-drained q = get-select oid_cmp_exact (λ (id : Oid) (o : Object). Some (emptied_if (is_fifo o.kind && is_unused old new id) o)) oid_cmp_total objects q
      ∙ elim (map.get objects q) as (λ w. option_and_then (λ (o : Object). Some (emptied_if (is_fifo o.kind && is_unused old new q) o)) w ≡ option_map (λ (o : Object). emptied_if (is_fifo o.kind && is_unused old new q) o) w) [ None ↦ refl | Some o ↦ refl ]

untouched : (w : Option Object) → option_map (λ (o : Object). emptied_if (is_fifo o.kind && false) o) w ≡ w
untouched None = refl
untouched (Some o) = elim (is_fifo o.kind) as (λ b. ◌≡◌ {A = Option Object} (Some (emptied_if (b && false) o)) (Some o)) [ true ↦ refl | false ↦ refl ]

get-emptied : (objects : FinMap oid_cmp Object) (id : Oid) (w : Option Object) → map.get objects id ≡ w → (q : Oid) → map.get (fifo_emptied objects id w) q ≡ option_map (λ (o : Object). emptied_if (is_fifo o.kind && same_oid id q) o) (map.get objects q)
get-emptied objects id w is q =
    elim (same_oid q id) as (λ b. same_oid q id ≡ b → map.get (fifo_emptied objects id w) q ≡ option_map (λ (o : Object). emptied_if (is_fifo o.kind && same_oid id q) o) (map.get objects q)) [
      | true ↦ λ t. here w is t
      | false ↦ λ t. there w t ∙ sym (ap (λ b. option_map (λ (o : Object). emptied_if (is_fifo o.kind && b) o) (map.get objects q)) (turn ∙ t) ∙ untouched (map.get objects q))
    ] refl
  where
    turn : same_oid id q ≡ same_oid q id
    turn = (eq_by_cmp_equiv oid_cmp_total).symm id q

    there : (w : Option Object) → same_oid q id ≡ false → map.get (fifo_emptied objects id w) q ≡ map.get objects q
    there None t = refl
    there (Some o) t = elim (is_fifo o.kind) as (λ b. map.get (cond b (map.insert objects id (record o { bytes = [] })) objects) q ≡ map.get objects q) [
      | true ↦ get-insert oid_cmp_total objects id (record o { bytes = [] }) q ∙ ap (λ b. cond b (Some (record o { bytes = [] })) (map.get objects q)) t
      | false ↦ refl
    ]

    here : (w : Option Object) → map.get objects id ≡ w → same_oid q id ≡ true → map.get (fifo_emptied objects id w) q ≡ option_map (λ (o : Object). emptied_if (is_fifo o.kind && same_oid id q) o) (map.get objects q)
    here None is t = let none : map.get objects q ≡ None = ap (map.get objects) (same_key oid_cmp_exact q id t) ∙ is in none ∙ sym (ap (option_map (λ (o : Object). emptied_if (is_fifo o.kind && same_oid id q) o)) none)
    here (Some o) is t =
        let at : map.get objects q ≡ Some o = ap (map.get objects) (same_key oid_cmp_exact q id t) ∙ is in
        elim (is_fifo o.kind) as (λ b. map.get (cond b (map.insert objects id (record o { bytes = [] })) objects) q ≡ Some (emptied_if (b && true) o)) [
          | true ↦ get-insert oid_cmp_total objects id (record o { bytes = [] }) q ∙ ap (λ b. cond b (Some (record o { bytes = [] })) (map.get objects q)) t
          | false ↦ at
        ]
        ∙ ap (λ b. Some (emptied_if (is_fifo o.kind && b) o)) (sym (turn ∙ t))
        ∙ sym (ap (option_map (λ (o : Object). emptied_if (is_fifo o.kind && same_oid id q) o)) at)

-- where one object alone may have lost its last description
pub drained_one : (old new : FinMap did_cmp Description) (objects : FinMap oid_cmp Object) (id : Oid) (b : Bool) → ((q : Oid) → is_unused old new q ≡ (same_oid id q && b)) → objects_after_close old new objects ≡ without_bytes objects (cond b (Some id) None)
drained_one old new objects id true h = same_map oid_cmp_total oid_cmp_exact _ _ (λ q.
    get-drained old new objects q ∙ ap (λ b. option_map (λ (o : Object). emptied_if (is_fifo o.kind && b) o) (map.get objects q)) (h q ∙ and-true (same_oid id q))
    ∙ sym (get-emptied objects id (map.get objects id) refl q))
drained_one old new objects id false h = same_map oid_cmp_total oid_cmp_exact _ _ (λ q.
    get-drained old new objects q ∙ ap (λ b. option_map (λ (o : Object). emptied_if (is_fifo o.kind && b) o) (map.get objects q)) (h q ∙ and-false (same_oid id q))
    ∙ untouched (map.get objects q))

-- the object of the description with one descriptor less
module _ (shared : SharedTable) (did : Did) (s : Shared) (is : map.get shared did ≡ Some s) where
  uses_less : (q : Oid) → same_oid s.object q ≡ false → uses_of (with_one_less shared did s) q ≡ uses_of shared q
  uses_less q apart = elim (nat_le s.holders 1) as (λ b. uses_of (cond b (map.remove shared did) (map.insert shared did (record s { holders = s.holders - 1 }))) q ≡ uses_of shared q) [
    | true ↦ let gone = uses-remove shared did s q is in let none : ◌≡◌ {A = ℕ} (cond (same_oid s.object q) 1 0) 0 = ap (λ b. cond {A = ℕ} b 1 0) apart in omega (arith, gone, none)
    | false ↦ uses-replace shared did s q is (record s { holders = s.holders - 1 }) refl
  ]

  pub unused_one : (q : Oid) → is_unused (descriptions_of shared) (descriptions_of (with_one_less shared did s)) q ≡ (same_oid s.object q && (uses_of (with_one_less shared did s) s.object == 0))
  unused_one q =
      ap (λ b. b && not (is_open (descriptions_of (with_one_less shared did s)) q)) (open-count shared q) ∙ ap (λ b. not (uses_of shared q == 0) && not b) (open-count (with_one_less shared did s) q)
      ∙ elim (same_oid s.object q) as (λ b. same_oid s.object q ≡ b → (not (uses_of shared q == 0) && not (not (uses_of (with_one_less shared did s) q == 0))) ≡ (b && (uses_of (with_one_less shared did s) s.object == 0))) [
        | true ↦ λ t.
            let same : s.object ≡ q = same_key oid_cmp_exact s.object q t in
            let some = uses_some shared did s q is (sym same) in
            let more : (uses_of shared q == 0) ≡ false = grind (arith, nat_tests) in
            ap (λ b. not b && not (not (uses_of (with_one_less shared did s) q == 0))) more ∙ not-not (uses_of (with_one_less shared did s) q == 0) ∙ ap (λ (i : Oid). uses_of (with_one_less shared did s) i == 0) (sym same)
        | false ↦ λ t. ap (λ n. not (uses_of shared q == 0) && not (not (n == 0))) (uses_less q t) ∙ never (uses_of shared q == 0)
      ] refl
    where
      never : (b : Bool) → (not b && not (not b)) ≡ false
      never true = refl
      never false = refl

  -- what the objects are where that was the last one of its object
  pub drained_less : (new : SharedTable) → new ≡ with_one_less shared did s → (w : Option Oid) → w ≡ cond (uses_of new s.object == 0) (Some s.object) None → (objects : FinMap oid_cmp Object)
      → without_bytes objects w ≡ objects_after_close (descriptions_of shared) (descriptions_of new) objects
  drained_less new less w unused objects =
      ap (without_bytes objects) (unused ∙ ap (λ (m : SharedTable). cond (uses_of m s.object == 0) (Some s.object) None) less)
      ∙ sym (drained_one (descriptions_of shared) (descriptions_of (with_one_less shared did s)) objects s.object (uses_of (with_one_less shared did s) s.object == 0) unused_one)
      ∙ ap (λ (m : SharedTable). objects_after_close (descriptions_of shared) (descriptions_of m) objects) (sym less)
