use Rattle.std.proofs.Common.{ap, ◌∙◌}
use Rattle.kern_model.proofs.KeyLaws.{oid_cmp_total, oid_cmp_exact}
use Rattle.kern_model.specs.ByNumber.{by_oid}
use Rattle.kern_model.proofs.ByNumber.{by_number-empty, oids}
use Rattle.fd_table.specs.declared.uses.UseCount.{UseCount}
use Rattle.fd_table.proofs.uses.Uses.new.Goals as goal

pub returns : goal.returns
returns c = ap (by_oid {X = UseCount}) c.new.ensures ∙ by_number-empty oid_cmp_total oid_cmp_exact oids
