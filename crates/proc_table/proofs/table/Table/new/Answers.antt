use Rattle.std.specs.FinMap.{FinMap}
use Rattle.std.proofs.Common.{sym, subst}
use Rattle.kern_model.specs.Keys.{pid_cmp}
use Rattle.kern_model.specs.State.{Process}
use Rattle.proc_table.specs.Children.{IsKept}
use Rattle.proc_table.proofs.KeptLemmas.{none_kept}
use Rattle.proc_table.proofs.table.Table.new.Goals as goal

pub returns-clause-kept : goal.returns-clause-kept
returns-clause-kept c = subst (λ (living : FinMap pid_cmp Process). IsKept living c.new-3.result 0) (sym c.new.ensures) (none_kept c.new-3.result c.new-3.ensures)
