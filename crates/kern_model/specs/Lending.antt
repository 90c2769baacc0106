-- What a map ends as, where a value of it is lent.
use Rattle.std.specs.Prelude.{◌≡◌, Option, OnSome}
use Rattle.std.specs.Borrow.{LendsSo, MutBor, Fml, RattleType}
use Rattle.std.specs.FinMap as map
use Rattle.std.specs.FinMap.{FinMap}
use Rattle.lab_lattice.specs.Label.{Label, label_cmp}
use Rattle.kern_model.specs.contracts.label_map.LabelMap as label_map

-- it ends with the value that was lent as it was left, and as it was where there is none
abbrev pub LendsValue : (T : RattleType) → MutBor (FinMap label_cmp T.Denot) → Label → Option (MutBor T.Denot) → Fml
LendsValue T s label r = LendsSo (label_map.the_row T) T s r (λ new x. OnSome r (new ≡ map.insert s.now label x)) (λ new. new ≡ s.now)
