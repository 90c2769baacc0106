-- What stands at a place of a list, and which numbers are one.
use Rattle.std.specs.Prelude.{◌≡◌, ◌≢◌, ℕ, ◌-◌, ◌==◌, true, false, List, [], ◌∷◌, ◌++◌, Some, None, length, refl, slice_get, zero, suc}
use Rattle.std.proofs.Common.{sym, ap, ◌∙◌, arith}
use Rattle.std.proofs.lemmas.Bool.{true≢false}
use Rattle.std.proofs.lemmas.Bool.Decides.{nat_tests}
use Rattle.std.proofs.lemmas.Option.{slice_get-get_or}
use Rattle.kern_model.specs.declared.numbers.Pid.{Pid}
use Rattle.kern_model.specs.Keys.{same_pid}
use Rattle.kern_model.proofs.KeyLaws.{pid_cmp_total, pid_cmp_exact}
use Rattle.kern_model.proofs.MapLemmas.{never_some, same_key}
use Rattle.kern_model.proofs.SortedEntries.{same_itself}

-- two numbers are one or not
pub by_pids : {P : Type 0} (a b : Pid) → (a ≡ b → P) → (a ≢ b → P) → P
by_pids {P = P} a b one two = elim (same_pid a b) as (λ t. same_pid a b ≡ t → P) [
  | true ↦ λ t. one (same_key pid_cmp_exact a b t)
  | false ↦ λ t. two (λ e. true≢false (sym (same_itself pid_cmp_total b) ∙ ap (λ c. same_pid c b) (sym e) ∙ t))
] refl

pub by_places : {P : Type 0} (i j : ℕ) → (i ≡ j → P) → (i ≢ j → P) → P
by_places {P = P} i j one two = elim (i == j) as (λ t. (i == j) ≡ t → P) [
  | true ↦ λ t. one (grind (arith, nat_tests, t))
  | false ↦ λ t. two (λ e. let same : (i == j) ≡ true = grind (arith, nat_tests, e) in true≢false (sym same ∙ t))
] refl

-- one is appended
module _ {X : Type 0} where
  pub at_end : (xs : List X) (x : X) → slice_get (xs ++ x ∷ []) (length xs) ≡ Some x
  at_end [] x = refl
  at_end (y ∷ xs) x = at_end xs x

  pub not_at_end : (xs : List X) (x : X) (i : ℕ) → i ≢ length xs → slice_get (xs ++ x ∷ []) i ≡ slice_get xs i
  not_at_end [] x zero apart = absurd (apart refl)
  not_at_end [] x (suc i) apart = refl
  not_at_end (y ∷ xs) x zero apart = refl
  not_at_end (y ∷ xs) x (suc i) apart = not_at_end xs x i (λ e. apart (ap suc e))

  pub past_end : (xs : List X) → slice_get xs (length xs) ≡ None
  past_end [] = refl
  past_end (x ∷ xs) = past_end xs

  -- where the last place is empty, the list is
  pub none_last : (xs : List X) → slice_get xs (length xs - 1) ≡ None → (i : ℕ) → slice_get xs i ≡ None
  none_last [] none i = refl
  none_last (x ∷ xs) none i = absurd (never_some (slice_get (x ∷ xs) (length (x ∷ xs) - 1)) _ none (slice_get-get_or (x ∷ xs) (length (x ∷ xs) - 1) x (omega arith)))
