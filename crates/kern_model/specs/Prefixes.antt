-- Lists that begin with one another.
use Rattle.std.specs.Prelude.{◌≡◌, List, ◌++◌, ◌⊎◌}

-- the whole begins with this part
pub record IsPrefix {X : Type 0} (part whole : List X) : Type 0 where
  pub rest : List X
  pub whole_is : whole ≡ part ++ rest

-- one of two lists begins with the other
abbrev pub Agree : {X : Type 0} → List X → List X → Type 0
Agree xs ys = IsPrefix xs ys ⊎ IsPrefix ys xs
