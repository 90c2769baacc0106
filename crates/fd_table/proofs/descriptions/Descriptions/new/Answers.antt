use Rattle.std.specs.FinMap as map
use Rattle.std.specs.FinMap.{FinMap}
use Rattle.std.proofs.Common.{ap, sym, ◌∙◌}
use Rattle.kern_model.specs.Keys.{oid_cmp}
use Rattle.kern_model.specs.Maps.{get_or}
use Rattle.kern_model.proofs.KeyLaws.{did_cmp_total, did_cmp_exact}
use Rattle.kern_model.specs.ByNumber.{by_did}
use Rattle.kern_model.proofs.ByNumber.{dids, by_number-empty}
use Rattle.fd_table.specs.declared.shared.Shared.{Shared}
use Rattle.fd_table.specs.declared.uses.UseCount.{UseCount}
use Rattle.fd_table.specs.Uses.{no_use}
use Rattle.fd_table.specs.Descriptions.{SharedTable, count_of}
use Rattle.std.specs.FinMap.{get-empty}
use Rattle.kern_model.proofs.MapLemmas.{get_or-absent}
use Rattle.fd_table.proofs.UseLemmas.{none_used}
use Rattle.fd_table.proofs.descriptions.Descriptions.new.Goals as goal

pub returns : goal.returns
returns c = ap (by_did {X = Shared}) c.new.ensures ∙ by_number-empty did_cmp_total did_cmp_exact dids

pub invariant_of-result : goal.invariant_of-result
invariant_of-result c = λ id.
    ap (λ (m : FinMap oid_cmp UseCount). get_or m id no_use) c.new-2.ensures ∙ get_or-absent map.empty id no_use (get-empty oid_cmp id)
    ∙ sym (ap (λ (m : SharedTable). count_of m id) (returns c) ∙ none_used id)
