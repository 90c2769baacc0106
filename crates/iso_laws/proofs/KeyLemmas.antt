-- Keys of tables, and the tests that compare them.
use Rattle.std.specs.Prelude.{◌≡◌, true, false, Some, cond, refl}
use Rattle.std.specs.declared.cmp.Ordering.{Ordering}
use Rattle.std.specs.Cmp.{IsTotalOrder}
use Rattle.std.specs.FinMap as map
use Rattle.std.specs.FinMap.{FinMap, IsAntisymmetric, get-insert}
use Rattle.std.specs.Ordering.{eq_by_cmp}
use Rattle.std.proofs.Common.{sym, ◌∙◌, ap}
use Rattle.std.proofs.lemmas.Bool.{true≢false, false_from_ne_true}
use Rattle.std.proofs.lemmas.Cmp.{eq_by_cmp_equiv}
use Rattle.kern_model.specs.Valid.{IsThere}
use Rattle.kern_model.proofs.MapLemmas.{same_key}

module _ {K : Type 0} {R : K → K → Ordering} where
  -- different keys compare unequal
  pub distinct : IsAntisymmetric R → (a b : K) → (a ≡ b → ⊥) → eq_by_cmp R a b ≡ false
  distinct exact a b other = false_from_ne_true _ (λ t. other (same_key exact a b t))

  -- keys that compare unequal are different
  pub never_same : IsTotalOrder R → (a b : K) → eq_by_cmp R a b ≡ false → a ≡ b → ⊥
  never_same total a b other same = true≢false (sym ((eq_by_cmp_equiv total).refl a) ∙ ap (eq_by_cmp R a) same ∙ other)

-- what is there stays there
pub still_there : {K X : Type 0} {R : K → K → Ordering} → IsTotalOrder R → (m : FinMap R X) (k : K) (x : X) (q : K) → IsThere m q → IsThere (map.insert m k x) q
still_there {R = R} total m k x q there =
    elim (eq_by_cmp R q k) as (λ b. eq_by_cmp R q k ≡ b → IsThere (map.insert m k x) q) [
      | true ↦ λ t. record { value = x; is = get-insert total m k x q ∙ ap (λ b. cond b (Some x) (map.get m q)) t }
      | false ↦ λ t. record { value = there.value; is = get-insert total m k x q ∙ ap (λ b. cond b (Some x) (map.get m q)) t ∙ there.is }
    ] refl
