-- The pieces of the generated text.
use Rattle.std.proofs.Common.{◌≡◌, ℕ, refl}
use Rattle.std.specs.List.{concat}
use Rattle.gen_world.specs.Text.{gen_text, pieces}

-- the pieces, one after another, are the text
pub pieces_joined : (n : ℕ) → concat (pieces n) ≡ gen_text n
unfolding gen_text
pieces_joined n = refl
