use Rattle.std.specs.FinMap as map
use Rattle.std.proofs.Common.{ap, sym, ◌∙◌, subst}
use Rattle.fd_table.specs.Files.{AreHeld, OpenFiles}
use Rattle.fd_table.specs.Fds.{AllFds}
use Rattle.fd_table.proofs.Counting.{either_way}
use Rattle.fd_table.proofs.Holding.{held-add}
use Rattle.fd_table.proofs.table.FdTable.add_process.Goals as goal

pub invariant_of-self : goal.invariant_of-self
invariant_of-self c =
    let processes = c.self.inside.processes in
    let shared = c.self.inside.descriptions in
    let numbers = c.self.inside.numbers in
    either_way c.add.result
    (λ e few. subst (λ (m : AllFds). AreHeld m shared numbers) (sym (e ∙ ap (map.insert processes c.args.who.now) c.new.ensures))
    (held-add processes shared numbers c.self.invariant c.args.who.now (ap (λ (t : OpenFiles). map.get t.processes c.args.who.now) c.self.view_is ∙ c.requires) few))
    (λ e. subst (λ (m : AllFds). AreHeld m shared numbers) (sym e) c.self.invariant)
    c.add.ensures.ok c.add.ensures.few c.add.ensures.err
