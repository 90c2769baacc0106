-- Lists without names.
use Rattle.std.specs.Prelude.{◌≡◌, ◌==◌, [], ◌∷◌, length, refl}
use Rattle.std.proofs.Common.{arith}
use Rattle.std.proofs.lemmas.Bool.{ne_eqb}
use Rattle.lab_text.specs.Names.{Names}
use Rattle.line_text.specs.Words.{are_none}

-- there is no name where the list has no length
pub none_by_length : (names : Names) → (length names == 0) ≡ are_none names
none_by_length [] = refl
none_by_length (name ∷ names) = ne_eqb (length (name ∷ names)) 0 (λ z. omega arith)
