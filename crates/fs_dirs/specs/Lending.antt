-- What a list in tiers ends as, where an item of it is lent.
use Rattle.std.specs.Prelude.{◌≡◌, ℕ, List, Option, OnSome, slice_set}
use Rattle.std.specs.Borrow.{LendsSo, MutBor, Fml, RattleType}
use Rattle.fs_dirs.specs.contracts.tiers.Tiers as tiers

-- it ends with the item that was lent as it was left, and as it was where there is none
abbrev pub LendsItem : (T : RattleType) → MutBor (List T.Denot) → ℕ → Option (MutBor T.Denot) → Fml
LendsItem T s n r = LendsSo (tiers.the_row T) T s r (λ new x. OnSome r (new ≡ slice_set s.now n x)) (λ new. new ≡ s.now)
