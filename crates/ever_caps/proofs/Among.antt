-- What is among the elements of a list.
use Rattle.std.specs.Prelude.{◌≡◌, ◌⊎◌, Bool, true, false, List, [], ◌∷◌, refl}
use Rattle.std.specs.List.{AllByRecursion, list_all, list_any}
use Rattle.std.proofs.Common.{sym, ◌∙◌, ap, inl, inr}
use Rattle.std.proofs.lemmas.Bool.{and_parts, or_parts}

abbrev pub IsAmong : {X : Type 0} → List X → X → Type 0
IsAmong [] x = ⊥
IsAmong (y ∷ ys) x = (y ≡ x) ⊎ IsAmong ys x

pub each_among : {X : Type 0} (P : X → Type 0) (xs : List X) → ((x : X) → IsAmong xs x → P x) → AllByRecursion P xs
each_among P [] f = tt
each_among P (x ∷ xs) f = (f x (inl refl), each_among P xs (λ y h. f y (inr h)))

pub all_at : {X : Type 0} (test : X → Bool) (xs : List X) (x : X) → list_all test xs ≡ true → IsAmong xs x → test x ≡ true
all_at test [] x h among = absurd among
all_at test (y ∷ ys) x h (inl same) = ap test (sym same) ∙ (and_parts (test y) (list_all test ys) h).0
all_at test (y ∷ ys) x h (inr among) = all_at test ys x (and_parts (test y) (list_all test ys) h).1 among

pub none_at : {X : Type 0} (test : X → Bool) (xs : List X) (x : X) → list_any test xs ≡ false → IsAmong xs x → test x ≡ false
none_at test [] x h among = absurd among
none_at test (y ∷ ys) x h (inl same) = ap test (sym same) ∙ (or_parts (test y) (list_any test ys) h).0
none_at test (y ∷ ys) x h (inr among) = none_at test ys x (or_parts (test y) (list_any test ys) h).1 among
