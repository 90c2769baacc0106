-- What holds of each element of a list that is made of parts.
use Rattle.std.specs.Prelude.{◌≡◌, Bool, true, false, refl, List, [], ◌∷◌, ◌++◌, cond}
use Rattle.std.specs.List.{AllByRecursion, flat_map}

pub all-append : {X : Type 0} (P : X → Type 0) (xs ys : List X) → AllByRecursion P xs → AllByRecursion P ys → AllByRecursion P (xs ++ ys)
all-append P [] ys h g = g
all-append P (x ∷ xs) ys h g = (h.0, all-append P xs ys h.1 g)

pub all_each : {X Y : Type 0} (Q : X → Type 0) (P : Y → Type 0) (g : X → List Y) → ((x : X) → Q x → AllByRecursion P (g x)) → (xs : List X) → AllByRecursion Q xs → AllByRecursion P (flat_map g xs)
all_each Q P g each [] h = tt
all_each Q P g each (x ∷ xs) h = all-append P (g x) (flat_map g xs) (each x h.0) (all_each Q P g each xs h.1)

pub all_if : {X : Type 0} (P : X → Type 0) (b : Bool) (xs : List X) → AllByRecursion P xs → AllByRecursion P (cond b xs [])
all_if P true xs h = h
all_if P false xs h = tt

pub all_when : {X : Type 0} (P : X → Type 0) (b : Bool) (xs : List X) → (b ≡ true → AllByRecursion P xs) → AllByRecursion P (cond b xs [])
all_when P true xs h = h refl
all_when P false xs h = tt

pub all_always : {X : Type 0} (P : X → Type 0) → ((x : X) → P x) → (xs : List X) → AllByRecursion P xs
all_always P h [] = tt
all_always P h (x ∷ xs) = (h x, all_always P h xs)
