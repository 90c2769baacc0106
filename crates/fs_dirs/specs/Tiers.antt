-- A list in tiers.
use Rattle.std.specs.Prelude.{◌≡◌, ◌≢◌, ℕ, ◌+◌, ◌-◌, ◌*◌, ◌<◌, ◌≤◌, List, [], ◌∷◌, length, slice_index_or, take, flat_map}
use Rattle.std.specs.declared.alloc.Global.{Global}
use Rattle.std.specs.declared.collections.VecDeque.{VecDeque}
use Rattle.fs_dirs.specs.declared.tiers.TheConstants.{TIER}

-- a tier of the list
abbrev pub Tier : Type 0 → Type 0
Tier T = VecDeque T Global

-- the items of all tiers, in order
abbrev pub all_items : {T : Type 0} → List (Tier T) → List T
all_items {T} tiers = flat_map (λ (t : Tier T). t.items) tiers

-- how many items the tiers before one have
abbrev pub items_before : {T : Type 0} → List (Tier T) → ℕ → ℕ
items_before tiers tier = length (all_items (take tier tiers))

-- how many items the first tier has, if there is one
abbrev pub first_size : {T : Type 0} → List (Tier T) → ℕ
first_size [] = 0
first_size (tier ∷ tiers) = length tier.items

-- no tier is empty, and each but the first and the last is full
pub record AreTiers {T : Type 0} (tiers : List (Tier T)) : Type 0 where
  pub full : (k : ℕ) (d : Tier T) → 0 < k → k + 1 < length tiers → length (slice_index_or tiers k d).items ≡ TIER
  pub some : (k : ℕ) (d : Tier T) → k < length tiers → 0 < length (slice_index_or tiers k d).items
  pub most : (k : ℕ) (d : Tier T) → k < length tiers → length (slice_index_or tiers k d).items ≤ TIER

-- the same but for one tier: it has a spare place for one more item, and lacks just that one where it is neither the first nor the last
pub record HasSpare {T : Type 0} (tiers : List (Tier T)) (at : ℕ) : Type 0 where
  pub within : at < length tiers
  pub full : (k : ℕ) (d : Tier T) → 0 < k → k + 1 < length tiers → k ≢ at → length (slice_index_or tiers k d).items ≡ TIER
  pub some : (k : ℕ) (d : Tier T) → k < length tiers → k ≢ at → 0 < length (slice_index_or tiers k d).items
  pub most : (k : ℕ) (d : Tier T) → k < length tiers → k ≢ at → length (slice_index_or tiers k d).items ≤ TIER
  pub lacks : (d : Tier T) → 0 < at → at + 1 < length tiers → length (slice_index_or tiers at d).items + 1 ≡ TIER
  pub less : (d : Tier T) → length (slice_index_or tiers at d).items < TIER
  pub spare : (d : Tier T) → (slice_index_or tiers at d).len < (slice_index_or tiers at d).cap

-- the tiers of so many items, of which the first tier has so many
pub record AreTiersOf {T : Type 0} (tiers : List (Tier T)) (count first : ℕ) : Type 0 where
  pub sizes : AreTiers tiers
  pub total : count ≡ length (all_items tiers)
  pub front : first ≡ first_size tiers

-- a place in the list is at this index of this tier, where the first tier has so many items and the next ones are full
pub record IsIndexOf (first place tier index : ℕ) : Type 0 where
  pub front : tier ≡ 0 → place ≡ index
  pub inside : tier ≡ 0 → index < first
  pub later : 0 < tier → place ≡ first + (tier - 1) * TIER + index
  pub less : 0 < tier → index < TIER
