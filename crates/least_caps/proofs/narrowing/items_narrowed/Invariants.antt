use Rattle.std.proofs.Common.{◌≡◌, take}
use Rattle.std.specs.Prelude.{map}
use Rattle.least_caps.proofs.narrowing.items_narrowed.Given as goal

abbrev pub invariant-loop-item : goal.invariant-loop-item
invariant-loop-item g l = l.narrow ≡ map (g.T.CapHolder.narrowed l.drop) (take l.item-index l.items)
