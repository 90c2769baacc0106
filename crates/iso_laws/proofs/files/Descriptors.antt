-- The lowest free descriptor, and which descriptions of an object are open, in the state and in its part.
use Rattle.std.specs.Prelude.{◌≡◌, ℕ, ◌+◌, ◌<◌, ◌≤◌, ◌==◌, ◌&&◌, nat_lt, Bool, true, false, List, [], ◌∷◌, Some, None, refl, cond, length, map}
use Rattle.std.specs.List.{AllByRecursion}
use Rattle.std.specs.Ordering.{nat_cmp, is_lt}
use Rattle.std.specs.declared.cmp.Ordering.TheVariants.{Less, Equal, Greater}
use Rattle.std.specs.FinMap as table
use Rattle.std.specs.FinMap.{FinMap, find, is_sorted, get-entries, entries_sorted, nat_cmp-IsAntisymmetric}
use Rattle.std.specs.FinMap.Entries.{below_all}
use Rattle.std.proofs.Common.{sym, ◌∙◌, ap, arith, T}
use Rattle.std.proofs.lemmas.Bool.{and_parts, ltb-true, eqb-true, eqb-false, false_from_ne_true}
use Rattle.std.proofs.lemmas.List.{length-map}
use Rattle.lab_lattice.specs.Label.{Label}
use Rattle.kern_model.specs.declared.limits.TheConstants.{MAX_DESCRIPTORS}
use Rattle.kern_model.specs.declared.numbers.Did.{Did}
use Rattle.kern_model.specs.declared.numbers.Oid.{Oid}
use Rattle.kern_model.specs.Descriptors.{open_count, first_gap, lowest_free, any_open}
use Rattle.kern_model.specs.Isolation.{low, Kept}
use Rattle.kern_model.specs.Keys.{same_oid}
use Rattle.kern_model.specs.Kinds.{is_stream}
use Rattle.kern_model.specs.Maps.{where_key}
use Rattle.kern_model.specs.State.{State, Process, Description, object_at, stub_object}
use Rattle.kern_model.specs.Valid.{IsValid}
use Rattle.kern_model.proofs.KeyLaws.{oid_cmp_exact, did_cmp_total, did_cmp_exact}
use Rattle.kern_model.proofs.MapLemmas.{head_T, tail_T, same_key, get_or-found}
use Rattle.iso_laws.proofs.Part.{part_by_number, low_did, as_is}
use Rattle.kern_model.proofs.Selections.{test_after, any_entry-select}
use Rattle.iso_laws.proofs.KeyLemmas.{distinct}

-- ---- the lowest free descriptor
gap_few : (n : ℕ) (ks : List ℕ) → first_gap n ks ≤ n + length ks
gap_few n [] = omega arith
gap_few n (k ∷ ks) =
    let rest = gap_few (n + 1) ks in
    elim (k == n) as (λ b. cond b (first_gap (n + 1) ks) n ≤ n + length (k ∷ ks)) [ true ↦ omega (arith, rest) | false ↦ omega arith ]

gap_from : (n : ℕ) (ks : List ℕ) → n ≤ first_gap n ks
gap_from n [] = omega arith
gap_from n (k ∷ ks) =
    let rest = gap_from (n + 1) ks in
    elim (k == n) as (λ b. n ≤ cond b (first_gap (n + 1) ks) n) [ true ↦ omega (arith, rest) | false ↦ omega arith ]

module _ {X : Type 0} where
  abbrev AreFrom : ℕ → List (ℕ × X) → Type 0
  AreFrom n es = AllByRecursion (λ (e : ℕ × X). n ≤ e.0) es

  -- entries after a key have greater keys
  after_key : (k : ℕ) (es : List (ℕ × X)) → T (below_all nat_cmp k es) → AreFrom (k + 1) es
  after_key k [] h = tt
  after_key k (e ∷ es) h =
      let less : k < e.0 =
      elim (nat_lt k e.0) as (λ b. nat_lt k e.0 ≡ b → T (is_lt (cond b Less (cond (k == e.0) Equal Greater))) → k < e.0) [
        | true ↦ λ t _. ltb-true k e.0 t
        | false ↦ λ _. elim (k == e.0) as (λ b. T (is_lt (cond b Equal Greater)) → k < e.0) [ true ↦ λ none. absurd none | false ↦ λ none. absurd none ]
      ] refl (head_T _ _ h) in
      (omega (arith, less), after_key k es (tail_T _ _ h))

  from_less : (n m : ℕ) → n ≤ m → (es : List (ℕ × X)) → AreFrom m es → AreFrom n es
  from_less n m less [] h = tt
  from_less n m less (e ∷ es) h = (omega (arith, less, h.0), from_less n m less es h.1)

  absent_below : (n : ℕ) (es : List (ℕ × X)) → AreFrom (n + 1) es → find nat_cmp n es ≡ None
  absent_below n [] h = refl
  absent_below n (e ∷ es) h = ap (λ b. cond b (Some e.1) (find nat_cmp n es)) (distinct nat_cmp-IsAntisymmetric n e.0 (λ same. omega (arith, same, h.0))) ∙ absent_below n es h.1

  gap_absent : (n : ℕ) (es : List (ℕ × X)) → T (is_sorted nat_cmp es) → AreFrom n es → find nat_cmp (first_gap n (map (λ (e : ℕ × X). e.0) es)) es ≡ None
  gap_absent n [] sorted h = refl
  gap_absent n (e ∷ es) sorted h =
      let after : AreFrom (e.0 + 1) es = after_key e.0 es (head_T _ _ sorted) in
      let ks : List ℕ = map (λ (e : ℕ × X). e.0) es in
      elim (e.0 == n) as (λ b. (e.0 == n) ≡ b → find nat_cmp (cond b (first_gap (n + 1) ks) n) (e ∷ es) ≡ None) [
        | true ↦ λ t.
            let is : e.0 ≡ n = eqb-true e.0 n t in
            ap (λ b. cond b (Some e.1) (find nat_cmp (first_gap (n + 1) ks) es)) (distinct nat_cmp-IsAntisymmetric (first_gap (n + 1) ks) e.0 (λ same. omega (arith, same, is, gap_from (n + 1) ks)))
            ∙ gap_absent (n + 1) es (tail_T _ _ sorted) (from_less (n + 1) (e.0 + 1) (omega (arith, is)) es after)
        | false ↦ λ t.
            let more : n + 1 ≤ e.0 = omega (arith, eqb-false e.0 n t, h.0) in
            absent_below n (e ∷ es) (more, from_less (n + 1) (e.0 + 1) (omega (arith, more)) es after)
      ] refl

from_zero : {X : Type 0} (es : List (ℕ × X)) → AllByRecursion (λ (e : ℕ × X). 0 ≤ e.0) es
from_zero [] = tt
from_zero (e ∷ es) = (omega arith, from_zero es)

-- nothing has the lowest free descriptor
pub lowest_absent : (fds : FinMap nat_cmp Did) → table.get fds (lowest_free fds) ≡ None
unfolding lowest_free
lowest_absent fds = get-entries fds (lowest_free fds) ∙ gap_absent 0 (table.entries fds) (entries_sorted fds) (from_zero (table.entries fds))

-- where a descriptor is left, the lowest free one is below the limit
pub lowest_below : (p : Process) → open_count p + 1 ≤ MAX_DESCRIPTORS → lowest_free p.fds < MAX_DESCRIPTORS
unfolding lowest_free
lowest_below p free =
    let ks : List ℕ = map (λ (e : ℕ × Did). e.0) (table.entries p.fds) in
    omega (arith, free, gap_few 0 ks, length-map (table.entries p.fds) (λ (e : ℕ × Did). e.0))

-- ---- the open descriptions of an object
module _ (l : Label) (s : State) (kept : Kept l s) (valid : IsValid s) (id : Oid) (is_low : low l id.label ≡ true) (stream : is_stream (object_at s id).kind ≡ true) where
  -- a description of a Low pipe or FIFO has a Low number
  pub on_stream_low : (did : Did) (d : Description) → table.get s.descriptions did ≡ Some d → d.object ≡ id → low l did.label ≡ true
  on_stream_low did d is at =
      let described = valid.descriptions did d is in
      let read : object_at s d.object ≡ described.object = get_or-found s.objects d.object (stub_object s.top) described.object described.object_is in
      let on : is_stream described.object.kind ≡ true = (λ i. is_stream (sym read i).kind) ∙ (λ i. is_stream (object_at s (at i)).kind) ∙ stream in
      kept.streams did d described.object is described.object_is on ∙ ap (λ (q : Oid). low l q.label) at ∙ is_low

  -- some description of it passes a test in the part where one does in the state
  pub any_open_low : (test : Description → Bool) → any_open (part_by_number l s) test id ≡ any_open s test id
  unfolding part_by_number
  any_open_low test =
      let p : Did → Description → Bool = λ did d. same_oid d.object id && test d in
      any_entry-select did_cmp_total did_cmp_exact (where_key (low_did l) (as_is {X = Description})) p p s.descriptions (λ did d is.
      elim (low l did.label) as (λ b. low l did.label ≡ b → test_after p did (cond b (Some d) None) ≡ p did d) [
        | true ↦ λ _. refl
        | false ↦ λ high. sym (false_from_ne_true (p did d) (λ t.
            let on : low l did.label ≡ true = on_stream_low did d is (same_key oid_cmp_exact d.object id (and_parts _ _ t).0) in
            let no : true ≡ false = sym on ∙ high in cc))
      ] refl)
