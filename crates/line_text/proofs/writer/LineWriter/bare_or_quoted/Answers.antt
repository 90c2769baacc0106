use Rattle.std.proofs.Common.{arith}
use Rattle.fs_path.proofs.ValueRanges.{bytes_from}
use Rattle.line_text.proofs.ResultLemmas.{on_ok}
use Rattle.line_text.proofs.writer.LineWriter.bare_or_quoted.Goals as goal

pub returns-clause-in_range : goal.returns-clause-in_range
returns-clause-in_range c = on_ok _ (bytes_from c.args.bytes.now (λ i. omega (arith, c.type_inv.bytes i)))
