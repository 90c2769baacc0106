use Rattle.std.specs.FinMap.{FinMap}
use Rattle.std.proofs.Common.{sym, subst}
use Rattle.kern_model.specs.Keys.{pid_cmp}
use Rattle.kern_model.specs.State.{Process}
use Rattle.proc_table.specs.Procs.{AreDrawn}
use Rattle.proc_table.proofs.DrawnLemmas.{none_drawn}
use Rattle.proc_table.proofs.procs.Procs.new.Goals as goal

pub invariant_of-result : goal.invariant_of-result
invariant_of-result c = (subst (λ (procs : FinMap pid_cmp Process). AreDrawn procs c.new.result.numbers) (sym c.new.ensures.living) (none_drawn c.new.result.numbers), c.new.ensures.kept)
