-- How many descriptions each object has, after one is made or goes.
use Rattle.std.specs.Prelude.{◌≡◌, ◌==◌, ◌&&◌, ℕ, ◌≤◌, Bool, true, false, Option, Some, None, IsOk, IsSome, OnErr, OnOk, Result, Ok, Err, cond, is_err, refl}
use Rattle.std.specs.Cmp.{eq_by_cmp_equiv}
use Rattle.std.specs.FinMap as map
use Rattle.std.specs.FinMap.{FinMap, get-insert, get-remove}
use Rattle.std.proofs.Common.{ap, sym, ◌∙◌, arith}
use Rattle.std.proofs.lemmas.Bool.{true≢false}
use Rattle.std.proofs.lemmas.Bool.Decides.{nat_tests}
use Rattle.kern_model.specs.declared.numbers.Oid.{Oid}
use Rattle.kern_model.specs.Keys.{oid_cmp, same_oid}
use Rattle.kern_model.specs.Maps.{get_or}
use Rattle.kern_model.proofs.KeyLaws.{oid_cmp_total, oid_cmp_exact}
use Rattle.kern_model.proofs.MapLemmas.{same_key}
use Rattle.fd_table.specs.declared.shared.How.{How}
use Rattle.fd_table.specs.declared.uses.UseCount.{UseCount}
use Rattle.fd_table.specs.Uses.{more_if, no_use, with_more}

-- ---- answers
pub never_err : {X E : Type 0} (r : Result X E) → IsOk r → is_err r ≡ true → ⊥
never_err (Ok x) h e = absurd (true≢false (sym e))
never_err (Err x) h e = absurd (true≢false (sym h))

pub where_ok : {X E P : Type 0} (r : Result X E) → is_err r ≡ false → OnOk r P → P
where_ok (Ok x) e h = h
where_ok (Err x) e h = absurd (true≢false e)

-- what follows from either answer
pub either_way : {X E A A' B P : Type 0} (r : Result X E) → (A → A' → P) → (B → P) → OnOk r A → OnOk r A' → OnErr r B → P
either_way (Ok x) f g a a' b = f a a'
either_way (Err e) f g a a' b = g b

-- ---- a count
zero : (k : ℕ) → true ≡ (k == 0) → k ≡ 0
zero k e = grind (arith, nat_tests)

zero_first : (k : ℕ) (b : Bool) → true ≡ ((k == 0) && b) → (k ≡ 0) × (true ≡ b)
zero_first k b e = elim (k == 0) as (λ t. (k == 0) ≡ t → true ≡ (t && b) → (k ≡ 0) × (true ≡ b)) [
  | true ↦ λ t e. (zero k (sym t), e)
  | false ↦ λ _ e. absurd (true≢false e)
] refl e

-- what equals a count of none
pub is_no_use : (n : UseCount) → true ≡ ((n.all == 0) && ((n.readers == 0) && (n.writers == 0))) → n ≡ no_use
is_no_use n e =
    let all = zero_first n.all _ e in
    let readers = zero_first n.readers _ all.1 in
    let writers = zero n.writers readers.1 in
    λ i. record { all = all.0 i; readers = readers.0 i; writers = writers i }

-- ---- a table of counts
abbrev kept : Option UseCount → UseCount
kept None = no_use
kept (Some n) = n

module _ (counts : FinMap oid_cmp UseCount) (id : Oid) where
  count_is : (m : FinMap oid_cmp UseCount) (q : Oid) → get_or m q no_use ≡ kept (map.get m q)
  unfolding get_or
  count_is m q = elim (map.get m q) as (λ (w : Option UseCount). (elim w [ None ↦ no_use | Some n ↦ n ]) ≡ kept w) [ None ↦ refl | Some n ↦ refl ]

  set_at : (w : Option UseCount) (m : FinMap oid_cmp UseCount) → ((q : Oid) → map.get m q ≡ cond (same_oid q id) w (map.get counts q)) → (q : Oid) → get_or m q no_use ≡ cond (same_oid id q) (kept w) (get_or counts q no_use)
  set_at w m h q =
      count_is m q ∙ ap kept (h q)
      ∙ elim (same_oid q id) as (λ b. kept (cond b w (map.get counts q)) ≡ cond b (kept w) (kept (map.get counts q))) [ true ↦ refl | false ↦ refl ]
      ∙ ap (λ n. cond (same_oid q id) (kept w) n) (sym (count_is counts q))
      ∙ ap (λ b. cond b (kept w) (get_or counts q no_use)) ((eq_by_cmp_equiv oid_cmp_total).symm q id)

  module _ (how : How) where
    -- one more
    pub one_more : (n : UseCount) → n ≡ with_more how (get_or counts id no_use) → (q : Oid) → get_or (map.insert counts id n) q no_use ≡ more_if (same_oid id q) how (get_or counts q no_use)
    one_more n e q = set_at (Some n) (map.insert counts id n) (get-insert oid_cmp_total counts id n) q ∙ at_id (same_oid id q) refl
      where
        at_id : (b : Bool) → same_oid id q ≡ b → cond b n (get_or counts q no_use) ≡ more_if b how (get_or counts q no_use)
        at_id true t = e ∙ ap (λ i. with_more how (get_or counts i no_use)) (same_key oid_cmp_exact id q t)
        at_id false t = refl

    fewer : (n : UseCount) → get_or counts id no_use ≡ with_more how n → (q : Oid) (b : Bool) → same_oid id q ≡ b → get_or counts q no_use ≡ more_if b how (cond b n (get_or counts q no_use))
    fewer n e q true t = ap (λ i. get_or counts i no_use) (sym (same_key oid_cmp_exact id q t)) ∙ e
    fewer n e q false t = refl

    -- one less
    pub one_less : (n : UseCount) → get_or counts id no_use ≡ with_more how n → (q : Oid) → get_or counts q no_use ≡ more_if (same_oid id q) how (get_or (map.insert counts id n) q no_use)
    one_less n e q = fewer n e q (same_oid id q) refl ∙ ap (more_if (same_oid id q) how) (sym (set_at (Some n) (map.insert counts id n) (get-insert oid_cmp_total counts id n) q))

    -- and none left
    pub none_left : get_or counts id no_use ≡ with_more how no_use → (q : Oid) → get_or counts q no_use ≡ more_if (same_oid id q) how (get_or (map.remove counts id) q no_use)
    none_left e q = fewer no_use e q (same_oid id q) refl ∙ ap (more_if (same_oid id q) how) (sym (set_at None (map.remove counts id) (get-remove oid_cmp_total counts id) q))

  -- what is counted is kept
  pub kept_there : 1 ≤ (get_or counts id no_use).all → IsSome (map.get counts id)
  kept_there h = elim (map.get counts id) as (λ w. get_or counts id no_use ≡ kept w → IsSome w) [
    | None ↦ λ e. let none = ap (λ (n : UseCount). n.all) e in absurd (omega (arith, none, h))
    | Some n ↦ λ e. refl
  ] (count_is counts id)
