use Rattle.std.proofs.Common.{ap, ◌∙◌}
use Rattle.fd_table.specs.Files.{OpenFiles, any_on}
use Rattle.fd_table.proofs.Leaving.{users_alike}
use Rattle.fd_table.proofs.table.FdTable.has_writer.Goals as goal

pub returns : goal.returns
returns c =
    c.has_writer.ensures ∙ users_alike (λ d. d.writes) c.self.inside.descriptions c.args.id.now
    ∙ ap (λ (t : OpenFiles). any_on t (λ d. d.writes) c.args.id.now) c.self.view_is
