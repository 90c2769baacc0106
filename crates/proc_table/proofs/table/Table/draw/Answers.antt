use Rattle.std.proofs.Common.{ap, ◌∙◌}
use Rattle.std.specs.FinMap as map
use Rattle.kern_model.proofs.KeyLaws.{pid_cmp_total, pid_cmp_exact}
use Rattle.kern_model.proofs.MapLemmas.{remove-insert}
use Rattle.proc_table.proofs.table.Table.draw.Goals as goal

pub returns-in-Err-clause-err : goal.returns-in-Err-clause-err
returns-in-Err-clause-err c =
    (c.remove.ensures.left ∙ ap (λ m. map.remove m c.args.who.now) c.in_ok-set.ensures.ok ∙ remove-insert pid_cmp_total pid_cmp_exact c.args.self.now.living c.args.who.now c.args.process c.requires, c.in-Err.ensures.err)
