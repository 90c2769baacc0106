use Rattle.std.specs.Prelude.{◌≡◌, ◌==◌, ◌-◌, nat_le, true, false, Option, Some, None, cond, refl}
use Rattle.std.specs.FinMap as map
use Rattle.std.proofs.Common.{ap, sym, ◌∙◌, subst, arith}
use Rattle.std.proofs.lemmas.Bool.Decides.{nat_tests}
use Rattle.kern_model.specs.declared.numbers.Oid.{Oid}
use Rattle.kern_model.specs.ByNumber.{by_did}
use Rattle.fd_table.specs.declared.shared.Shared.{Shared}
use Rattle.fd_table.specs.Descriptions.{AreCounted, SharedTable, uses_of, with_one_less}
use Rattle.kern_model.proofs.KeyLaws.{did_cmp_total, did_cmp_exact}
use Rattle.kern_model.proofs.MapLemmas.{insert-same, some_same}
use Rattle.num_table.proofs.Outcomes.{at_some}
use Rattle.fd_table.proofs.UseLemmas.{counted-remove, counted-replace, counted_some, not_unused}
use Rattle.fd_table.proofs.descriptions.Descriptions.release.Goals as goal

pub invariant_of-self : goal.invariant_of-self
invariant_of-self c =
    let new : Shared = record c.in-Some.shared.now { holders = c.in-Some.shared.now.holders - 1 } in
    subst (λ (m : SharedTable). AreCounted m c.self.inside.uses) (sym (at_some c.in-Some.is (c.get_mut_at.follows.holds new)))
    (counted-replace (by_did c.self.inside.shared) c.self.inside.uses c.self.invariant c.args.did.now c.in-Some.shared.now (sym c.in-Some.ensures.value) new refl refl)

pub returns-then-shared-gt1-clause-left : goal.returns-then-shared-gt1-clause-left
returns-then-shared-gt1-clause-left c s is =
    let old : Shared = c.in-Some.shared.now in
    let new : Shared = record old { holders = old.holders - 1 } in
    let same : old ≡ s = some_same _ _ (c.in-Some.ensures.value ∙ ap (λ (m : SharedTable). map.get m c.args.did.now) c.self.view_is ∙ is) in
    let many = c.if-shared-gt1.true in
    let more : nat_le old.holders 1 ≡ false = grind (arith, nat_tests) in
    at_some c.in-Some.is (c.get_mut_at.follows.holds new)
    ∙ ap (λ b. cond b (map.remove (by_did c.self.inside.shared) c.args.did.now) (map.insert (by_did c.self.inside.shared) c.args.did.now new)) (sym more)
    ∙ ap (with_one_less (by_did c.self.inside.shared) c.args.did.now) same ∙ ap (λ (m : SharedTable). with_one_less m c.args.did.now s) c.self.view_is

pub returns-then-shared-gt1-clause-unused : goal.returns-then-shared-gt1-clause-unused
returns-then-shared-gt1-clause-unused c s is =
    let there = sym c.in-Some.ensures.value in
    let new : Shared = record c.in-Some.shared.now { holders = c.in-Some.shared.now.holders - 1 } in
    let same : c.in-Some.shared.now ≡ s = some_same _ _ (c.in-Some.ensures.value ∙ ap (λ (m : SharedTable). map.get m c.args.did.now) c.self.view_is ∙ is) in
    not_unused (by_did c.self.inside.shared) c.self.inside.uses c.self.invariant c.args.did.now c.in-Some.shared.now there new refl
    ∙ ap (λ (m : SharedTable). cond {A = Option Oid} (uses_of m c.in-Some.shared.now.object == 0) (Some c.in-Some.shared.now.object) None) (sym (at_some c.in-Some.is (c.get_mut_at.follows.holds new)))
    ∙ ap (λ (r : Shared). cond {A = Option Oid} (uses_of (by_did (c.get_mut_at.follows.lender new)) r.object == 0) (Some r.object) None) same

pub remove_one-requires : goal.remove_one-requires
remove_one-requires c = counted_some (by_did c.self.inside.shared) c.self.inside.uses c.self.invariant c.args.did.now c.in-Some.shared.now (sym c.in-Some.ensures.value)

pub invariant_of-self-2 : goal.invariant_of-self-2
invariant_of-self-2 c =
    let old : Shared = c.in-Some.shared.now in
    let there = sym c.in-Some.ensures.value in
    let kept : by_did (c.get_mut_at.follows.lender old) ≡ by_did c.self.inside.shared = at_some c.in-Some.is (c.get_mut_at.follows.holds old) ∙ insert-same did_cmp_total did_cmp_exact (by_did c.self.inside.shared) c.args.did.now old there in
    subst (λ (m : SharedTable). AreCounted m c.remove_one.new.self) (sym (c.remove_at.ensures.left ∙ ap (λ (m : SharedTable). map.remove m c.args.did.now) kept))
    (counted-remove (by_did c.self.inside.shared) c.self.inside.uses c.self.invariant c.args.did.now old there c.remove_one.new.self c.remove_one.ensures)

pub returns-clause-left : goal.returns-clause-left
returns-clause-left c s is =
    let old : Shared = c.in-Some.shared.now in
    let there = sym c.in-Some.ensures.value in
    let same : old ≡ s = some_same _ _ (c.in-Some.ensures.value ∙ ap (λ (m : SharedTable). map.get m c.args.did.now) c.self.view_is ∙ is) in
    let kept : by_did (c.get_mut_at.follows.lender old) ≡ by_did c.self.inside.shared = at_some c.in-Some.is (c.get_mut_at.follows.holds old) ∙ insert-same did_cmp_total did_cmp_exact (by_did c.self.inside.shared) c.args.did.now old there in
    let one = c.if-shared-gt1.false in
    let few : nat_le old.holders 1 ≡ true = grind (arith, nat_tests) in
    c.remove_at.ensures.left ∙ ap (λ (m : SharedTable). map.remove m c.args.did.now) kept
    ∙ ap (λ b. cond b (map.remove (by_did c.self.inside.shared) c.args.did.now) (map.insert (by_did c.self.inside.shared) c.args.did.now (record old { holders = old.holders - 1 }))) (sym few)
    ∙ ap (with_one_less (by_did c.self.inside.shared) c.args.did.now) same ∙ ap (λ (m : SharedTable). with_one_less m c.args.did.now s) c.self.view_is
