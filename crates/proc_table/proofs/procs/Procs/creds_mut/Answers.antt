use Rattle.proc_table.proofs.DrawnLemmas.{creds_drawn}
use Rattle.proc_table.proofs.KeptLemmas.{creds_kept}
use Rattle.proc_table.proofs.procs.Procs.creds_mut.Goals as goal

pub invariant_of-self-lent : goal.invariant_of-self-lent
invariant_of-self-lent c = λ lent. (
  λ w. (
    creds_drawn c.self.inside.table.living c.self.inside.table.numbers c.self.invariant.0 c.args.who.now w,
    creds_kept c.self.inside.table.living c.self.inside.table.children c.self.inside.table.made c.self.invariant.1 c.args.who.now w,
  ),
  c.self.invariant,
)
