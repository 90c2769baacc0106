-- A text split at a byte.
use Rattle.std.specs.Prelude.{ℕ, ◌+◌, ◌==◌, cond, List, [], ◌∷◌, length, Option, Some, None}
use Rattle.std.specs.List.{after_first, list_any, slice_split}

-- a byte before the first of two texts
abbrev pub onto_piece : ℕ → Option (List ℕ × List ℕ) → Option (List ℕ × List ℕ)
onto_piece x None = None
onto_piece x (Some p) = Some (x ∷ p.0, p.1)

-- the text before the first `at`, and the text after it
unfoldable pub split_once : ℕ → List ℕ → Option (List ℕ × List ℕ)
split_once at [] = None
split_once at (x ∷ xs) = cond (x == at) (Some ([], xs)) (onto_piece x (split_once at xs))

-- the pieces of a text between one `at` and the next, one more than there are of these
abbrev pub pieces : ℕ → List ℕ → List (List ℕ)
pieces at text = slice_split (λ b. b == at) text

-- the pieces of the rest of a text, if there is one
abbrev pub pieces_of_rest : ℕ → Option (List ℕ) → List (List ℕ)
pieces_of_rest at None = []
pieces_of_rest at (Some text) = pieces at text

-- how many bytes the rest of a text and the byte before it have, if there is one
abbrev pub bytes_from : Option (List ℕ) → ℕ
bytes_from None = 0
bytes_from (Some text) = length text + 1

-- the text after the first `at`, if there is one
abbrev pub after_first_of : ℕ → List ℕ → Option (List ℕ)
after_first_of at text = cond (list_any (λ b. b == at) text) (Some (after_first (λ b. b == at) text)) None

-- bytes of a text, and the place of the first of them
pub record Piece : Type 0 where
  pub at : ℕ
  pub bytes : List ℕ

-- pieces with one byte between them, the first of them at a place
abbrev pub pieces_at : ℕ → List (List ℕ) → List Piece
pieces_at at [] = []
pieces_at at (piece ∷ more) = record { at = at; bytes = piece } ∷ pieces_at (at + length piece + 1) more
