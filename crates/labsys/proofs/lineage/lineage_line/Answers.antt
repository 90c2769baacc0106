use Rattle.std.proofs.Common.{arith}
use Rattle.labsys.proofs.lineage.lineage_line.Goals as goal

pub overflow_add-head : goal.overflow_add-head
overflow_add-head c = let small = c.requires.small c.in-No.at c.in-No.why c.in-No.is in omega (arith, small)

pub overflow_add-head-in-No : goal.overflow_add-head-in-No
overflow_add-head-in-No c = let small = c.requires.small c.in-No.at c.in-No.why c.in-No.is in omega (arith, small)
