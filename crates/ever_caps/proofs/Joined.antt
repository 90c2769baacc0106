-- What states have together, one after another.
use Rattle.std.specs.Prelude.{◌≡◌, ℕ, ◌+◌, ◌<◌, ◌||◌, List, [], ◌∷◌, ◌++◌, length, take}
use Rattle.std.proofs.Common.{sym, ◌∙◌, ap, get_or}
use Rattle.std.proofs.Math.Bool.{or_assoc, or-false}
use Rattle.std.proofs.lemmas.List.{take_more}
use Rattle.cap_bits.specs.CapSet.{CapSet, has, no_caps, union_of}
use Rattle.cap_bits.specs.Laws.{same_caps}
use Rattle.cap_bits.specs.State.{no_flags}
use Rattle.cap_bits.specs.declared.state.CapState.{CapState}
use Rattle.cap_bits.proofs.CapSets.{has-no_caps, has-union_of}
use Rattle.ever_caps.specs.Ever.{join, joined}

none-union : (a : CapSet) → union_of no_caps a ≡ a
none-union a = same_caps _ _ (λ c. has-union_of no_caps a c ∙ ap (λ b. b || has a c) (has-no_caps c))

union-none : (a : CapSet) → union_of a no_caps ≡ a
union-none a = same_caps _ _ (λ c. has-union_of a no_caps c ∙ ap (λ b. has a c || b) (has-no_caps c) ∙ or-false (has a c))

union_assoc : (a b d : CapSet) → union_of a (union_of b d) ≡ union_of (union_of a b) d
union_assoc a b d = same_caps _ _ (λ c.
    has-union_of a (union_of b d) c
    ∙ ap (λ x. has a c || x) (has-union_of b d c)
    ∙ sym (or_assoc (has a c) (has b c) (has d c))
    ∙ ap (λ x. x || has d c) (sym (has-union_of a b c))
    ∙ sym (has-union_of (union_of a b) d c))

none-join : (a : CapState) → join no_flags a ≡ a
none-join a = λ k. record { e = none-union a.e k; i = none-union a.i k; p = none-union a.p k }

join-none : (a : CapState) → join a no_flags ≡ a
join-none a = λ k. record { e = union-none a.e k; i = union-none a.i k; p = union-none a.p k }

join_assoc : (a b d : CapState) → join a (join b d) ≡ join (join a b) d
join_assoc a b d = λ k. record { e = union_assoc a.e b.e d.e k; i = union_assoc a.i b.i d.i k; p = union_assoc a.p b.p d.p k }

module _ {X : Type 0} (f : X → CapState) where
  joined-append : (xs ys : List X) → joined f (xs ++ ys) ≡ join (joined f xs) (joined f ys)
  joined-append [] ys = sym (none-join (joined f ys))
  joined-append (x ∷ xs) ys = ap (join (f x)) (joined-append xs ys) ∙ join_assoc (f x) (joined f xs) (joined f ys)

  -- together with one more
  pub joined_more : (xs : List X) (i : ℕ) (x : X) → i < length xs → get_or xs i x ≡ x → joined f (take (i + 1) xs) ≡ join (joined f (take i xs)) (f x)
  joined_more xs i x within is =
      ap (joined f) (take_more xs i x within) ∙ joined-append (take i xs) (get_or xs i x ∷ [])
      ∙ ap (join (joined f (take i xs))) (join-none (f (get_or xs i x)) ∙ ap f is)
