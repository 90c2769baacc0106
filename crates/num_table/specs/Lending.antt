-- What a table ends as, where a value of it is lent.
use Rattle.std.specs.Prelude.{◌≡◌, Option, OnSome}
use Rattle.std.specs.declared.cmp.Ordering.{Ordering}
use Rattle.std.specs.Borrow.{LendsSo, MutBor, Fml, RattleType}
use Rattle.std.specs.FinMap as map
use Rattle.std.specs.FinMap.{FinMap}
use Rattle.kern_model.specs.ByNumber.{by_number}
use Rattle.kern_model.specs.Numbers.{Num, num_cmp}
use Rattle.num_table.specs.contracts.table.Table as table

-- it ends with the value that was lent as it was left, and as it was where there is none
abbrev pub LendsItem : (T : RattleType) → MutBor (FinMap num_cmp T.Denot) → Num → Option (MutBor T.Denot) → Fml
LendsItem T s n r = LendsSo (table.the_row T) T s r (λ new x. OnSome r (new ≡ map.insert s.now n x)) (λ new. new ≡ s.now)

-- the same of the value at a number of a process, an object or a description
abbrev pub LendsAt : {K : Type 0} (R : K → K → Ordering) → (Num → K) → (T : RattleType) → MutBor (FinMap num_cmp T.Denot) → K → Option (MutBor T.Denot) → Fml
LendsAt R of_parts T s k r = LendsSo (table.the_row T) T s r (λ new x. OnSome r (by_number {R = R} of_parts new ≡ map.insert (by_number of_parts s.now) k x)) (λ new. new ≡ s.now)
