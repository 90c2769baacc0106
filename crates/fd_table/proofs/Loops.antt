-- The descriptors that are copied or closed so far, one after another.
pub use Rattle.kern_model.proofs.Selections.{insert-insert as set_twice}
use Rattle.std.specs.Prelude.{◌≡◌, ◌==◌, ℕ, ◌+◌, ◌<◌, nat_le, nat_lt, Bool, true, false, Option, Some, None, cond, refl}
use Rattle.std.specs.Ordering.{nat_cmp, eq_by_cmp}
use Rattle.std.specs.Cmp.{nat_cmp_total, unsigned_tied}
use Rattle.std.specs.FinMap as map
use Rattle.std.specs.FinMap.{get-empty, get-insert, get-remove, get-retain_keys, nat_cmp-IsAntisymmetric, same_map}
use Rattle.std.proofs.Common.{ap, sym, ◌∙◌, arith}
use Rattle.std.proofs.lemmas.Bool.Decides.{nat_tests}
use Rattle.kern_model.specs.declared.limits.TheConstants.{MAX_DESCRIPTORS}
use Rattle.kern_model.specs.declared.numbers.Did.{Did}
use Rattle.kern_model.proofs.MapLemmas.{get-insert_same, get_or-found, same_key, remove-absent}
use Rattle.kern_model.specs.declared.numbers.Pid.{Pid}
use Rattle.kern_model.proofs.KeyLaws.{pid_cmp_total}
use Rattle.fd_table.specs.Fds.{AllFds, Fds, fds_of}

-- the descriptors below n
abbrev pub below : ℕ → Fds → Fds
below n fds = map.retain_keys fds (λ k. nat_lt k n)

-- the descriptors from n on
abbrev pub from : ℕ → Fds → Fds
from n fds = map.retain_keys fds (λ k. nat_le n k)

pub get-below : (n : ℕ) (fds : Fds) (q : ℕ) → map.get (below n fds) q ≡ cond (nat_lt q n) (map.get fds q) None
get-below n fds q = get-retain_keys fds (λ k. nat_lt k n) q (λ x t. ap (λ k. nat_lt k n) (sym (nat_cmp-IsAntisymmetric q x t)))

pub get-from : (n : ℕ) (fds : Fds) (q : ℕ) → map.get (from n fds) q ≡ cond (nat_le n q) (map.get fds q) None
get-from n fds q = get-retain_keys fds (λ k. nat_le n k) q (λ x t. ap (λ k. nat_le n k) (sym (nat_cmp-IsAntisymmetric q x t)))

same_fds : (m n : Fds) → ((q : ℕ) → map.get m q ≡ map.get n q) → m ≡ n
same_fds m n h = same_map nat_cmp_total nat_cmp-IsAntisymmetric m n h

module _ (fds : Fds) where
  pub below-none : below 0 fds ≡ map.empty
  below-none = same_fds _ _ (λ q. get-below 0 fds q ∙ ap (λ b. cond b (map.get fds q) None) (let no : nat_lt q 0 ≡ false = grind (arith, nat_tests) in no) ∙ sym (get-empty nat_cmp q))

  pub from-all : from 0 fds ≡ fds
  from-all = same_fds _ _ (λ q. get-from 0 fds q ∙ ap (λ b. cond b (map.get fds q) None) (let yes : nat_le 0 q ≡ true = grind (arith, nat_tests) in yes))

  -- the next one is copied
  pub below-next : (n : ℕ) (did : Did) → map.get fds n ≡ Some did → map.insert (below n fds) n did ≡ below (n + 1) fds
  below-next n did at = same_fds _ _ (λ q.
      get-insert nat_cmp_total (below n fds) n did q ∙ ap (cond (eq_by_cmp nat_cmp q n) (Some did)) (get-below n fds q)
      ∙ next q ∙ sym (get-below (n + 1) fds q))
    where
      next : (q : ℕ) → cond (eq_by_cmp nat_cmp q n) (Some did) (cond (nat_lt q n) (map.get fds q) None) ≡ cond (nat_lt q (n + 1)) (map.get fds q) None
      next q = elim (eq_by_cmp nat_cmp q n) as (λ b. eq_by_cmp nat_cmp q n ≡ b → cond b (Some did) (cond (nat_lt q n) (map.get fds q) None) ≡ cond (nat_lt q (n + 1)) (map.get fds q) None) [
        | true ↦ λ t.
            let same : q ≡ n = same_key nat_cmp-IsAntisymmetric q n t in
            let yes : nat_lt q (n + 1) ≡ true = grind (arith, nat_tests) in
            sym (ap (λ b. cond b (map.get fds q) None) yes ∙ ap (map.get fds) same ∙ at)
        | false ↦ λ t.
            let other : (q == n) ≡ false = sym (unsigned_tied q n) ∙ t in
            let alike : nat_lt q n ≡ nat_lt q (n + 1) = grind (arith, nat_tests) in
            ap (λ b. cond b (map.get fds q) None) alike
      ] refl

  -- the next one is not open
  pub below-same : (n : ℕ) → map.get fds n ≡ None → below n fds ≡ below (n + 1) fds
  below-same n none = same_fds _ _ (λ q. get-below n fds q ∙ next q ∙ sym (get-below (n + 1) fds q))
    where
      next : (q : ℕ) → cond (nat_lt q n) (map.get fds q) None ≡ cond (nat_lt q (n + 1)) (map.get fds q) None
      next q = elim (eq_by_cmp nat_cmp q n) as (λ b. eq_by_cmp nat_cmp q n ≡ b → cond (nat_lt q n) (map.get fds q) None ≡ cond (nat_lt q (n + 1)) (map.get fds q) None) [
        | true ↦ λ t.
            let same : q ≡ n = same_key nat_cmp-IsAntisymmetric q n t in
            let nothing : map.get fds q ≡ None = ap (map.get fds) same ∙ none in
            ap (λ w. cond (nat_lt q n) w None) nothing ∙ either (nat_lt q n) (nat_lt q (n + 1)) ∙ ap (λ w. cond (nat_lt q (n + 1)) w None) (sym nothing)
        | false ↦ λ t.
            let other : (q == n) ≡ false = sym (unsigned_tied q n) ∙ t in
            let alike : nat_lt q n ≡ nat_lt q (n + 1) = grind (arith, nat_tests) in
            ap (λ b. cond b (map.get fds q) None) alike
      ] refl
        where
          either : (a b : Bool) → ◌≡◌ {A = Option Did} (cond a None None) (cond b None None)
          either true true = refl
          either true false = refl
          either false true = refl
          either false false = refl

  -- the next one is closed
  pub from-next : (n : ℕ) → map.remove (from n fds) n ≡ from (n + 1) fds
  from-next n = same_fds _ _ (λ q.
      get-remove nat_cmp_total (from n fds) n q ∙ ap (cond (eq_by_cmp nat_cmp q n) None) (get-from n fds q)
      ∙ next q ∙ sym (get-from (n + 1) fds q))
    where
      next : (q : ℕ) → cond (eq_by_cmp nat_cmp q n) None (cond (nat_le n q) (map.get fds q) None) ≡ cond (nat_le (n + 1) q) (map.get fds q) None
      next q = elim (eq_by_cmp nat_cmp q n) as (λ b. eq_by_cmp nat_cmp q n ≡ b → cond b None (cond (nat_le n q) (map.get fds q) None) ≡ cond (nat_le (n + 1) q) (map.get fds q) None) [
        | true ↦ λ t.
            let same : q ≡ n = same_key nat_cmp-IsAntisymmetric q n t in
            let no : nat_le (n + 1) q ≡ false = grind (arith, nat_tests) in
            ap (λ b. cond b (map.get fds q) None) (sym no)
        | false ↦ λ t.
            let other : (q == n) ≡ false = sym (unsigned_tied q n) ∙ t in
            let alike : nat_le n q ≡ nat_le (n + 1) q = grind (arith, nat_tests) in
            ap (λ b. cond b (map.get fds q) None) alike
      ] refl

  -- the next one is not there
  pub from-same : (n : ℕ) → map.get (from n fds) n ≡ None → from n fds ≡ from (n + 1) fds
  from-same n none = sym (remove-absent nat_cmp_total nat_cmp-IsAntisymmetric (from n fds) n none) ∙ from-next n

  module _ (few : (fd : ℕ) (did : Did) → map.get fds fd ≡ Some did → fd < MAX_DESCRIPTORS) where
    pub below-all : below 32 fds ≡ fds
    below-all = same_fds _ _ (λ q. get-below 32 fds q ∙ whole q (map.get fds q) refl)
      where
        whole : (q : ℕ) (w : Option Did) → map.get fds q ≡ w → cond (nat_lt q 32) w None ≡ w
        whole q None e = elim (nat_lt q 32) as (λ b. ◌≡◌ {A = Option Did} (cond b None None) None) [ true ↦ refl | false ↦ refl ]
        whole q (Some did) e = let low = few q did e in let yes : nat_lt q 32 ≡ true = grind (arith, nat_tests) in ap (λ b. cond b (Some did) None) yes

pub from-none : (fds : Fds) → ((fd : ℕ) (did : Did) → map.get (from 32 fds) fd ≡ Some did → fd < MAX_DESCRIPTORS) → from 32 fds ≡ map.empty
from-none fds few = same_fds _ _ (λ q. nothing q (map.get (from 32 fds) q) refl ∙ sym (get-empty nat_cmp q))
  where
    nothing : (q : ℕ) (w : Option Did) → map.get (from 32 fds) q ≡ w → map.get (from 32 fds) q ≡ None
    nothing q None e = e
    nothing q (Some did) e =
        let low = few q did e in
        let no : nat_le 32 q ≡ false = grind (arith, nat_tests) in
        get-from 32 fds q ∙ ap (λ b. cond b (map.get fds q) None) no

-- ---- the descriptors of a process that are set
module _ (processes : AllFds) (who : Pid) (fds : Fds) where
  pub fds_set : fds_of (map.insert processes who fds) who ≡ fds
  fds_set = get_or-found (map.insert processes who fds) who map.empty fds (get-insert_same pid_cmp_total processes who fds)
