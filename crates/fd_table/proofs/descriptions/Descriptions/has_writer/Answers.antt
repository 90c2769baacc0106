use Rattle.std.specs.Prelude.{nat_lt}
use Rattle.std.proofs.Common.{ap, ◌∙◌}
use Rattle.kern_model.specs.ByNumber.{by_did}
use Rattle.fd_table.specs.declared.uses.UseCount.{UseCount}
use Rattle.fd_table.specs.Descriptions.{SharedTable, has_user}
use Rattle.fd_table.proofs.UseLemmas.{writer-count}
use Rattle.fd_table.proofs.descriptions.Descriptions.has_writer.Goals as goal

pub returns : goal.returns
returns c =
    ap (λ (n : UseCount). nat_lt 0 n.writers) c.count.ensures
    ∙ writer-count (by_did c.self.inside.shared) c.self.inside.uses c.self.invariant c.args.id.now
    ∙ ap (λ (m : SharedTable). has_user (λ s. s.how.writes) m c.args.id.now) c.self.view_is
