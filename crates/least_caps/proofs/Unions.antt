-- What unions over a list hold.
use Rattle.std.specs.Prelude.{◌≡◌, ℕ, ◌+◌, ◌<◌, ◌||◌, List, [], ◌∷◌, ◌++◌, length, take, refl}
use Rattle.std.specs.List.{list_any}
use Rattle.std.proofs.Common.{sym, ◌∙◌, ap, get_or}
use Rattle.std.proofs.Math.Bool.{or_assoc, or-false}
use Rattle.std.proofs.lemmas.List.{take_more}
use Rattle.cap_bits.specs.CapSet.{CapSet, has, no_caps, union_of}
use Rattle.cap_bits.specs.Laws.{same_caps}
use Rattle.cap_bits.proofs.CapSets.{has-no_caps, has-union_of}
use Rattle.cap_bits.specs.declared.cap.Cap.{Cap}
use Rattle.kern_model.specs.declared.records.Rec.{Rec}
use Rattle.least_caps.specs.Named.{union_over, named}

module _ {X : Type 0} (f : X → CapSet) where
  -- a capability is in the union where one of the sets has it
  pub has-union_over : (xs : List X) (c : Cap) → has (union_over f xs) c ≡ list_any (λ x. has (f x) c) xs
  has-union_over [] c = has-no_caps c
  has-union_over (x ∷ xs) c = has-union_of (f x) (union_over f xs) c ∙ ap (λ b. has (f x) c || b) (has-union_over xs c)

  pub union_over-append : (xs ys : List X) → union_over f (xs ++ ys) ≡ union_of (union_over f xs) (union_over f ys)
  union_over-append [] ys = same_caps _ _ (λ c. sym (has-union_of no_caps (union_over f ys) c ∙ ap (λ b. b || has (union_over f ys) c) (has-no_caps c)))
  union_over-append (x ∷ xs) ys = same_caps _ _ (λ c.
      has-union_of (f x) (union_over f (xs ++ ys)) c
      ∙ ap (λ b. has (f x) c || b) (ap (λ s. has s c) (union_over-append xs ys) ∙ has-union_of (union_over f xs) (union_over f ys) c)
      ∙ sym (or_assoc (has (f x) c) (has (union_over f xs) c) (has (union_over f ys) c))
      ∙ ap (λ b. b || has (union_over f ys) c) (sym (has-union_of (f x) (union_over f xs) c))
      ∙ sym (has-union_of (union_of (f x) (union_over f xs)) (union_over f ys) c))

  -- the union with one more set
  pub union_over_one : (x : X) → union_over f (x ∷ []) ≡ f x
  union_over_one x = same_caps _ _ (λ c. has-union_of (f x) no_caps c ∙ ap (λ b. has (f x) c || b) (has-no_caps c) ∙ or-false (has (f x) c))

  pub union_over_more : (xs : List X) (i : ℕ) (x : X) → i < length xs → get_or xs i x ≡ x
      → union_over f (take (i + 1) xs) ≡ union_of (union_over f (take i xs)) (f x)
  union_over_more xs i x within is =
      ap (union_over f) (take_more xs i x within) ∙ union_over-append (take i xs) (get_or xs i x ∷ [])
      ∙ ap (λ s. union_of (union_over f (take i xs)) s) (union_over_one (get_or xs i x) ∙ ap f is)

-- no record names no capability
pub named-none : named [] ≡ no_caps
named-none = refl

-- what records and further ones name is what either name
pub named-append : (xs ys : List Rec) → named (xs ++ ys) ≡ union_of (named xs) (named ys)
named-append xs ys = union_over-append _ xs ys
