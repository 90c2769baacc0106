-- Which slots of a process are taken.
use Rattle.std.specs.Prelude.{ℕ, zero, suc, ◌/◌, ◌%◌, ◌==◌, Bool, List, [], ◌∷◌}

-- the n lowest bits of a number, from the lowest on
unfoldable pub lowest_bits : ℕ → ℕ → List Bool
lowest_bits zero bits = []
lowest_bits (suc n) bits = (bits % 2 == 1) ∷ lowest_bits n (bits / 2)
