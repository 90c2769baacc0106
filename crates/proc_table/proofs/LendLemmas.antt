-- A process that is lent for changes.
use Rattle.std.specs.Prelude.{◌≡◌}
use Rattle.std.proofs.Common.{◌⊎◌, inl}

-- what is lent under a name ends alike, where it ends alike for each value that is left
pub lent_alike : {G A B C : Type 0} {name : G} {f g : A → B} → ((a : A) → f a ≡ g a) → ◌≡◌ {A = (G × (A → B)) ⊎ C} (inl (name, f)) (inl (name, g))
lent_alike {name = name} same i = inl (name, λ a. same a i)
