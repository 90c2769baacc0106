use Rattle.std.specs.Prelude.{nat_lt}
use Rattle.std.proofs.Common.{ap, ◌∙◌}
use Rattle.kern_model.specs.ByNumber.{by_did}
use Rattle.fd_table.specs.declared.uses.UseCount.{UseCount}
use Rattle.fd_table.specs.Descriptions.{SharedTable, has_user}
use Rattle.fd_table.proofs.UseLemmas.{reader-count}
use Rattle.fd_table.proofs.descriptions.Descriptions.has_reader.Goals as goal

pub returns : goal.returns
returns c =
    ap (λ (n : UseCount). nat_lt 0 n.readers) c.count.ensures
    ∙ reader-count (by_did c.self.inside.shared) c.self.inside.uses c.self.invariant c.args.id.now
    ∙ ap (λ (m : SharedTable). has_user (λ s. s.how.reads) m c.args.id.now) c.self.view_is
