use Rattle.std.proofs.Common.{sym, ◌∙◌, subst}
use Rattle.kern_model.specs.Valid.{IsThere}
use Rattle.fd_table.specs.Files.{OpenFiles}
use Rattle.fd_table.proofs.Holding.{has_fds, open_there}
use Rattle.fd_table.proofs.Leaving.{there_without}
use Rattle.fd_table.proofs.table.FdTable.did.Goals as goal

pub returns-clause-there : goal.returns-clause-there
returns-clause-there c did is =
    let shared = c.self.inside.descriptions in
    subst (λ (t : OpenFiles). IsThere t.descriptions did) c.self.view_is
    (there_without shared did (open_there c.self.inside.processes shared c.self.inside.numbers c.self.invariant c.args.who.now c.args.fd did (sym c.did.ensures.did ∙ is)))

pub returns-clause-process : goal.returns-clause-process
returns-clause-process c did is =
    subst (λ (t : OpenFiles). IsThere t.processes c.args.who.now) c.self.view_is (has_fds c.self.inside.processes c.args.who.now c.args.fd did (sym c.did.ensures.did ∙ is))
