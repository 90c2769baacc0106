use Rattle.std.specs.Prelude.{Some, refl}
use Rattle.std.proofs.Common.{ap, arith, ◌∙◌}
use Rattle.kern_model.specs.State.{Process}
use Rattle.num_table.proofs.Outcomes.{at_some}
use Rattle.proc_table.specs.contracts.process.Proc.{the_view}
use Rattle.proc_table.proofs.ChangeLemmas.{changed_kept, changed_table}
use Rattle.proc_table.proofs.procs.Procs.set_cwd.Goals as goal

pub invariant_of-self : goal.invariant_of-self
invariant_of-self c =
    let q : Process = the_view c.process.inside in
    changed_kept c.self.inside.table.living _ c.self.inside.table.numbers c.args.who.now q (record q { cwd = c.args.cwd }) (ap Some c.process.view_is ∙ c.in-Some.ensures.value)
    (at_some c.in-Some.is (c.get_mut.follows.holds (record q { cwd = c.args.cwd }))) refl (omega arith) c.self.inside.table.children c.self.inside.table.made c.self.invariant

pub returns : goal.returns
returns c = λ p there.
    let q : Process = the_view c.process.inside in
    changed_table c.self.inside.table.living _ c.self.inside.table.numbers c.args.who.now c.args.self.now c.self.view_is (λ q. record q { cwd = c.args.cwd }) q p (ap Some c.process.view_is ∙ c.in-Some.ensures.value)
    (at_some c.in-Some.is (c.get_mut.follows.holds (record q { cwd = c.args.cwd }))) there
