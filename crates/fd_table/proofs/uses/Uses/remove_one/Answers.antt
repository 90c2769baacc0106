use Rattle.std.specs.Prelude.{IsSome}
use Rattle.std.specs.FinMap as map
use Rattle.std.specs.FinMap.{FinMap}
use Rattle.std.proofs.Common.{ap, sym, ◌∙◌, subst}
use Rattle.kern_model.specs.Keys.{oid_cmp, same_oid}
use Rattle.kern_model.specs.Maps.{get_or}
use Rattle.fd_table.specs.declared.uses.UseCount.{UseCount}
use Rattle.fd_table.specs.Uses.{more_if, no_use, with_more}
use Rattle.fd_table.proofs.Counting.{is_no_use, kept_there, never_err, none_left, one_less, where_ok}
use Rattle.fd_table.proofs.uses.Uses.remove_one.Goals as goal

pub unreachable-requires : goal.unreachable-requires
unreachable-requires c = never_err c.set_at.result
    (c.set_at.ensures.replaced (subst (λ (m : FinMap oid_cmp UseCount). IsSome (map.get m c.args.id.now)) (sym c.self.view_is) (kept_there c.args.self.now c.args.id.now c.requires.any)))
    (sym c.is_err.ensures.value ∙ c.if-is_err.true)

pub returns-then-eq : goal.returns-then-eq
returns-then-eq c q =
    none_left c.args.self.now c.args.id.now c.args.how (sym c.count.ensures ∙ c.minus-count.ensures ∙ ap (with_more c.args.how) (is_no_use c.minus-count.result c.if-eq.ensures)) q
    ∙ ap (λ (m : FinMap oid_cmp UseCount). more_if (same_oid c.args.id.now q) c.args.how (get_or m q no_use))
    (sym (c.remove_at.ensures.left ∙ ap (λ (m : FinMap oid_cmp UseCount). map.remove m c.args.id.now) c.self.view_is))

pub returns-else-is_err : goal.returns-else-is_err
returns-else-is_err c q =
    one_less c.args.self.now c.args.id.now c.args.how c.minus-count.result (sym c.count.ensures ∙ c.minus-count.ensures) q
    ∙ ap (λ (m : FinMap oid_cmp UseCount). more_if (same_oid c.args.id.now q) c.args.how (get_or m q no_use))
    (sym (where_ok c.set_at.result (sym c.is_err.ensures.value ∙ c.if-is_err.false) c.set_at.ensures.ok ∙ ap (λ (m : FinMap oid_cmp UseCount). map.insert m c.args.id.now c.minus-count.result) c.self.view_is))
