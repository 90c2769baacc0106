-- Numbers that are drawn in turn at each label.
use Rattle.std.specs.Prelude.{ℕ}
use Rattle.std.specs.declared.cmp.Ordering.{Ordering}
use Rattle.std.specs.Ordering.{nat_cmp, ordering_then}
use Rattle.lab_lattice.specs.Label.{Label, label_cmp}

-- a number: the label that it was drawn at, and the count of its draw
abbrev pub Num : Type 0
Num = Label × ℕ

-- by label, and then by count
unfoldable pub num_cmp : Num → Num → Ordering
num_cmp a b = ordering_then (label_cmp a.0 b.0) (nat_cmp a.1 b.1)
