-- The head of a name: the number that its first sixteen bytes make.
use Rattle.std.specs.Prelude.{ℕ, ◌+◌, ◌*◌, ◌^◌, zero, suc, List, [], ◌∷◌, Bool, nat_lt}
use Rattle.std.specs.List.{list_all}

-- the number that the first n bytes make, most significant first; a list that is shorter counts as if zeros followed
unfoldable pub head : ℕ → List ℕ → ℕ
head zero bytes = 0
head (suc n) [] = 0
head (suc n) (x ∷ bytes) = x * 256 ^ n + head n bytes

-- the number of the first sixteen
abbrev pub head_of : List ℕ → ℕ
head_of bytes = head 16 bytes

-- each item is below 256
unfoldable pub are_bytes : List ℕ → Bool
are_bytes items = list_all (λ b. nat_lt b 256) items
