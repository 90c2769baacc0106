-- What is looked up in a table of processes, and how many there are after one is set.
use Rattle.std.specs.Prelude.{◌≡◌, ℕ, ◌+◌, ◌-◌, ◌≤◌, Bool, true, List, Some, None, cond, is_some, refl, zero, suc}
use Rattle.std.specs.declared.cmp.Ordering.{Ordering}
use Rattle.std.specs.Cmp.{IsTotalOrder}
use Rattle.std.specs.FinMap as map
use Rattle.std.specs.FinMap.{FinMap, empty_of_len, get-empty, len-empty, len-entries, len-insert, len-remove}
use Rattle.std.specs.Ordering.{nat_cmp}
use Rattle.std.specs.Prelude as list
use Rattle.kern_model.specs.declared.numbers.Did.{Did}
use Rattle.kern_model.specs.Descriptors.{first_gap, lowest_free}
use Rattle.std.proofs.Common.{ap, sym, ◌∙◌, arith}
use Rattle.std.proofs.lemmas.Bool.{true≢false}
use Rattle.kern_model.specs.declared.numbers.Pid.{Pid}
use Rattle.kern_model.proofs.MapLemmas.{get_or-found, get_or-absent}
use Rattle.num_table.proofs.Sums.{no_entries}
use Rattle.fd_table.specs.Fds.{AllFds, Fds, fd_count, fds_of}

module _ (processes : AllFds) (who : Pid) where
  -- a process that is there, and one that is not
  pub fds_there : (fds : Fds) → Some fds ≡ map.get processes who → fds_of processes who ≡ fds
  fds_there fds is = get_or-found processes who map.empty fds (sym is)

  pub fds_absent : None ≡ map.get processes who → fds_of processes who ≡ map.empty
  fds_absent is = get_or-absent processes who map.empty (sym is)

  -- the descriptors of a process that is there are changed
  pub fds_changed : (fds : Fds) → Some fds ≡ map.get processes who → (f : Fds → Fds) (new : Fds) → new ≡ f fds → map.insert processes who new ≡ map.insert processes who (f (fds_of processes who))
  fds_changed fds is f new set = ap (map.insert processes who) (set ∙ ap f (sym (fds_there fds is)))

-- ---- how many processes there are
module _ {K X : Type 0} {R : K → K → Ordering} (o : IsTotalOrder R) (m : FinMap R X) (k : K) where
  pub len_some : is_some (map.get m k) ≡ true → 1 ≤ map.len m
  len_some there = at (map.len m) refl
    where
      at : (n : ℕ) → map.len m ≡ n → 1 ≤ n
      at zero e = absurd (true≢false (sym there ∙ ap (λ (m : FinMap R X). is_some (map.get m k)) (empty_of_len m e) ∙ ap is_some (get-empty R k)))
      at (suc n) e = omega arith

  pub len_more : (x : X) → map.get m k ≡ None → map.len (map.insert m k x) ≡ map.len m + 1
  len_more x none = len-insert o m k x ∙ ap (λ w. cond (is_some w) (map.len m) (map.len m + 1)) none

  pub len_kept : (x y : X) → Some y ≡ map.get m k → map.len (map.insert m k x) ≡ map.len m
  len_kept x y there = len-insert o m k x ∙ ap (λ w. cond (is_some w) (map.len m) (map.len m + 1)) (sym there)

  pub len_removed : (b : Bool) → is_some (map.get m k) ≡ b → map.len (map.remove m k) ≡ cond b (map.len m - 1) (map.len m)
  len_removed b is = len-remove o m k ∙ ap (λ b. cond b (map.len m - 1) (map.len m)) is

-- ---- no descriptor
pub none_counted : fd_count map.empty ≡ 0
none_counted = sym (len-entries (map.empty {X = Did} {R = nat_cmp})) ∙ len-empty nat_cmp Did

pub none_lowest : lowest_free map.empty ≡ 0
unfolding lowest_free
none_lowest = ap (λ (es : List (ℕ × Did)). first_gap 0 (list.map (λ (e : ℕ × Did). e.0) es)) (no_entries nat_cmp Did)
