use Rattle.std.specs.FinMap as map
use Rattle.std.specs.FinMap.{FinMap}
use Rattle.std.proofs.Common.{ap, ◌∙◌}
use Rattle.std.proofs.lemmas.Result.{on_ok_weaker}
use Rattle.kern_model.specs.Keys.{oid_cmp}
use Rattle.kern_model.specs.Maps.{get_or}
use Rattle.fd_table.specs.declared.uses.UseCount.{UseCount}
use Rattle.fd_table.specs.Uses.{no_use, with_more}
use Rattle.fd_table.proofs.Counting.{one_more}
use Rattle.fd_table.proofs.uses.Uses.add_one.Goals as goal

pub returns-clause-ok : goal.returns-clause-ok
returns-clause-ok c = on_ok_weaker c.set_at.result
    (λ e q. ap (λ (m : FinMap oid_cmp UseCount). get_or m q no_use) (e ∙ ap (λ (m : FinMap oid_cmp UseCount). map.insert m c.args.id.now c.in_ok-count.count) c.self.view_is)
    ∙ one_more c.args.self.now c.args.id.now c.args.how c.in_ok-count.count (c.in_ok-count.ensures ∙ ap (with_more c.args.how) c.count.ensures) q) c.set_at.ensures.ok
