use Rattle.std.proofs.Common.{◌≡◌, ◌++◌, ◌∷◌, List, ℕ, take}
use Rattle.std.specs.List.{flat_map}
use Rattle.world_text.proofs.writing.path_text.Given as goal

abbrev pub invariant-loop-name : goal.invariant-loop-name
invariant-loop-name l = l.text.items ≡ l.initial.text.items ++ flat_map (λ (name : List ℕ). 47 ∷ name) (take l.name-index l.names)
