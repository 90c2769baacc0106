-- Numbers that are drawn at labels.
use Rattle.std.specs.Prelude.{ℕ, List, ◌∷◌, ◌++◌}
use Rattle.std.specs.Fmt.{decimal}
use Rattle.lab_lattice.specs.Label.{Label}
use Rattle.lab_text.specs.Policy.{PolicyNames}
use Rattle.lab_text.specs.Text.{label_text}

-- a number and the label that it was drawn at: `n@label`
unfoldable pub numbered_text : PolicyNames → ℕ → Label → List ℕ
numbered_text policy n label = decimal n ++ 64 ∷ label_text policy label
