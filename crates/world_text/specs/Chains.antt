-- Items that are found by their hashes.
use Rattle.std.specs.Prelude.{◌≡◌, ℕ, ◌+◌, ◌-◌, ◌<◌, ◌≤◌, ◌%◌, List, length, map, slice_index, Option, None, Some}
use Rattle.world_text.specs.declared.chains.Link.{Link}

abbrev pub hashes_of : List Link → List ℕ
hashes_of links = map (λ (l : Link). l.hash) links

-- the number before each in its bucket
abbrev pub before_in : List Link → List ℕ
before_in links = map (λ (l : Link). l.before) links

-- the number of the item at a place, from 1 on; 0 if there is none
abbrev pub number_of : Option ℕ → ℕ
number_of None = 0
number_of (Some place) = place + 1

-- r is the number of the last of the first n items whose hash passes the test, or 0 if none does
pub record IsLast (Test : ℕ → Type 0) (hashes : List ℕ) (n r : ℕ) : Type 0 where
  pub within : r ≤ n
  pub passes : 0 < r → Test (slice_index hashes (r - 1))
  pub none : (k : ℕ) → r ≤ k → k < n → Test (slice_index hashes k) → ⊥

-- the same by the bucket, of so many, in which the hash lies
abbrev pub IsLastIn : ℕ → ℕ → List ℕ → ℕ → ℕ → Type 0
IsLastIn buckets b hashes n r = IsLast (λ hash. hash % buckets ≡ b) hashes n r

-- each head is the last item of its bucket, and before each item is the last one of its bucket before it
pub record IsChained (heads hashes before : List ℕ) : Type 0 where
  pub heads_are : (b : ℕ) → b < length heads → IsLastIn (length heads) b hashes (length hashes) (slice_index heads b)
  pub before_are : (k : ℕ) → k < length hashes → IsLastIn (length heads) (slice_index hashes k % length heads) hashes k (slice_index before k)
  pub some : 0 < length hashes → 0 < length heads

-- an item of the bucket of a hash after which none of the first items has that hash, or 0 if none has
pub record IsAlong (buckets hash : ℕ) (hashes : List ℕ) (count at : ℕ) : Type 0 where
  pub within : at ≤ length hashes
  pub bucket : 0 < at → slice_index hashes (at - 1) % buckets ≡ hash % buckets
  pub none : (k : ℕ) → at ≤ k → k < count → slice_index hashes k ≡ hash → ⊥
