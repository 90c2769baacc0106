use Rattle.std.specs.Prelude.{◌≡◌, None}
use Rattle.std.specs.FinMap as map
use Rattle.std.specs.FinMap.{FinMap}
use Rattle.std.proofs.Common.{ap, sym, ◌∙◌, subst}
use Rattle.kern_model.specs.Keys.{oid_cmp}
use Rattle.kern_model.specs.ByNumber.{by_did}
use Rattle.fd_table.specs.declared.uses.UseCount.{UseCount}
use Rattle.fd_table.specs.Descriptions.{AreCounted, SharedTable, made_for}
use Rattle.kern_model.proofs.KeyLaws.{did_cmp_total, did_cmp_exact}
use Rattle.kern_model.proofs.MapLemmas.{remove-insert}
use Rattle.fd_table.proofs.UseLemmas.{counted-insert}
use Rattle.fd_table.proofs.descriptions.Descriptions.insert.Goals as goal

pub invariant_of-self-in-Err : goal.invariant_of-self-in-Err
invariant_of-self-in-Err c =
    let shared = by_did c.self.inside.shared in
    let none : map.get shared c.args.did.now ≡ None = ap (λ (m : SharedTable). map.get m c.args.did.now) c.self.view_is ∙ c.requires in
    let same : by_did c.remove_at.new.self ≡ shared =
    c.remove_at.ensures.left ∙ ap (λ (m : SharedTable). map.remove m c.args.did.now) c.in_ok-set_at.ensures.ok ∙ remove-insert did_cmp_total did_cmp_exact shared c.args.did.now (made_for c.args.object c.args.how) none in
    subst (λ (m : SharedTable). AreCounted m c.add_one.new.self) (sym same) (subst (λ (m : FinMap oid_cmp UseCount). AreCounted shared m) (sym c.in-Err.ensures.err) c.self.invariant)

pub returns-in-Err-clause-err : goal.returns-in-Err-clause-err
returns-in-Err-clause-err c =
    let shared = by_did c.self.inside.shared in
    let none : map.get shared c.args.did.now ≡ None = ap (λ (m : SharedTable). map.get m c.args.did.now) c.self.view_is ∙ c.requires in
    c.remove_at.ensures.left ∙ ap (λ (m : SharedTable). map.remove m c.args.did.now) c.in_ok-set_at.ensures.ok ∙ remove-insert did_cmp_total did_cmp_exact shared c.args.did.now (made_for c.args.object c.args.how) none ∙ c.self.view_is

pub invariant_of-self-in_default : goal.invariant_of-self-in_default
invariant_of-self-in_default c =
    let shared = by_did c.self.inside.shared in
    let none : map.get shared c.args.did.now ≡ None = ap (λ (m : SharedTable). map.get m c.args.did.now) c.self.view_is ∙ c.requires in
    subst (λ (m : SharedTable). AreCounted m c.add_one.new.self) (sym c.in_ok-set_at.ensures.ok)
    (counted-insert shared c.self.inside.uses c.self.invariant c.args.did.now (made_for c.args.object c.args.how) none c.add_one.new.self c.in_default.ensures.ok)
