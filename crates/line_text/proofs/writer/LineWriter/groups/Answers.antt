use Rattle.std.proofs.Common.{arith}
use Rattle.fs_path.proofs.ValueRanges.{numbers_from}
use Rattle.line_text.proofs.ResultLemmas.{on_ok}
use Rattle.line_text.proofs.writer.LineWriter.groups.Goals as goal

pub returns-clause-in_range : goal.returns-clause-in_range
returns-clause-in_range c = on_ok _ (numbers_from c.args.groups.now (λ i. omega (arith, c.type_inv.groups i)))
