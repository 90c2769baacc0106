-- The entries of a map at keys of Low labels.
use Rattle.std.specs.Prelude.{◌≡◌, Bool, true, false, List, [], ◌∷◌, Option, Some, None, refl, cond, find}
use Rattle.std.specs.Option.{option_map}
use Rattle.std.specs.List.{AllByRecursion}
use Rattle.std.specs.Cmp.{IsTotalOrder}
use Rattle.std.specs.FinMap as map
use Rattle.std.specs.FinMap.{FinMap, IsAntisymmetric}
use Rattle.std.specs.declared.cmp.Ordering.{Ordering}
use Rattle.std.proofs.Common.{sym, ◌∙◌, ap, subst}
use Rattle.std.proofs.lemmas.Bool.{true≢false, false_from_ne_true}
use Rattle.kern_model.specs.Maps.{selected, select, where_key, with_entry}
use Rattle.kern_model.proofs.MapLemmas.{each-entries, get-select_kept, get-select_dropped, select-insert_kept, select-insert_dropped}
use Rattle.kern_model.proofs.Selections.{entries-select}

pub option_map_itself : {X : Type 0} (w : Option X) → option_map (λ x. x) w ≡ w
option_map_itself None = refl
option_map_itself (Some x) = refl

module _ {K X : Type 0} {R : K → K → Ordering} (total : IsTotalOrder R) (exact : IsAntisymmetric R) (keep : K → Bool) where
  -- the entries at keys that pass
  abbrev pub kept_part : FinMap R X → FinMap R X
  kept_part m = select (where_key keep (λ (x : X). x)) m

  pub get-passes : (m : FinMap R X) (k : K) → keep k ≡ true → map.get (kept_part m) k ≡ map.get m k
  get-passes m k h = get-select_kept total exact keep (λ x. x) m k h ∙ option_map_itself _

  pub get-fails : (m : FinMap R X) (k : K) → keep k ≡ false → map.get (kept_part m) k ≡ None
  get-fails m k h = get-select_dropped total exact keep (λ x. x) m k h

  pub get-part : (m : FinMap R X) (k : K) → map.get (kept_part m) k ≡ cond (keep k) (map.get m k) None
  get-part m k = elim (keep k) as (λ b. keep k ≡ b → map.get (kept_part m) k ≡ cond b (map.get m k) None) [ true ↦ get-passes m k | false ↦ get-fails m k ] refl

  pub part-insert : (m : FinMap R X) (k : K) (x : X) → keep k ≡ true → kept_part (map.insert m k x) ≡ map.insert (kept_part m) k x
  part-insert m k x h = select-insert_kept total exact keep (λ x. x) m k x h

  pub part-insert_other : (m : FinMap R X) (k : K) (x : X) → keep k ≡ false → kept_part (map.insert m k x) ≡ kept_part m
  part-insert_other m k x h = select-insert_dropped total exact keep (λ x. x) m k x h

  -- a test that only keys pass that are kept
  module _ (test : K → Bool) (only : (k : K) → test k ≡ true → keep k ≡ true) where
    abbrev first : List (K × X) → Option (K × X)
    first es = find (λ (e : K × X). test e.0) es

    find-selected : (es : List (K × X)) → first (selected (where_key keep (λ (x : X). x)) es) ≡ first es
    find-selected [] = refl
    find-selected (e ∷ es) =
        let rest = find-selected es in
        elim (keep e.0) as (λ b. keep e.0 ≡ b → first (with_entry e.0 (cond b (Some e.1) None) (selected (where_key keep (λ (x : X). x)) es)) ≡ first (e ∷ es)) [
          | true ↦ λ _. ap (cond (test e.0) (Some e)) rest
          | false ↦ λ h.
              let fails : test e.0 ≡ false = false_from_ne_true _ (λ t. true≢false (sym (only e.0 t) ∙ h)) in
              rest ∙ ap (λ b. cond b (Some e) (first es)) (sym fails)
        ] refl

    -- the first entry that passes is the same
    pub find-part : (m : FinMap R X) → first (map.entries (kept_part m)) ≡ first (map.entries m)
    find-part m = ap first (entries-select total exact (where_key keep (λ (x : X). x)) m) ∙ find-selected (map.entries m)

-- what is found passes the test, and has what each element has
pub found_has : {X : Type 0} (P : X → Type 0) (test : X → Bool) (x : X) (xs : List X) → AllByRecursion P xs → find test xs ≡ Some x → (test x ≡ true) × P x
found_has P test x [] all is = absurd (cc)
found_has P test x (y ∷ ys) all is =
    elim (test y) as (λ b. test y ≡ b → cond b (Some y) (find test ys) ≡ Some x → (test x ≡ true) × P x) [
      | true ↦ λ t e. let same : y ≡ x = cc in (ap test (sym same) ∙ t, subst P same all.0)
      | false ↦ λ _ e. found_has P test x ys all.1 e
    ] refl is

-- an entry that is found is the map's
pub entry_found : {K X : Type 0} {R : K → K → Ordering} → IsTotalOrder R → IsAntisymmetric R → (test : K → Bool) (m : FinMap R X) (e : K × X)
    → find (λ (e : K × X). test e.0) (map.entries m) ≡ Some e → (test e.0 ≡ true) × (map.get m e.0 ≡ Some e.1)
entry_found {K = K} {X = X} total exact test m e is =
    found_has (λ (e : K × X). map.get m e.0 ≡ Some e.1) (λ (e : K × X). test e.0) e (map.entries m)
    (each-entries total exact (λ (k : K) (x : X). map.get m k ≡ Some x) m (λ k x f. f)) is
