use Rattle.std.proofs.Common.{arith, length-take}
use Rattle.io_ends.proofs.LineLemmas.{unfinished_at}
use Rattle.io_ends.proofs.lines.look_at.Goals as goal

pub returns-then-counted-held : goal.returns-then-counted-held
returns-then-counted-held c =
    let counted = length-take c.min.result c.args.held.now in
    (unfinished_at c.args.held.now c.args.room c.min.result _ c.min.ensures c.first_line_len-length.ensures c.if-length-counted.false c.if-length-gt-MAX_LINE.false, omega arith)

pub returns-else-counted-held : goal.returns-else-counted-held
returns-else-counted-held c =
    let counted = length-take c.min.result c.args.held.now in
    (unfinished_at c.args.held.now c.args.room c.min.result _ c.min.ensures c.first_line_len-length.ensures c.if-length-counted.false c.if-length-gt-MAX_LINE.false, omega arith)
