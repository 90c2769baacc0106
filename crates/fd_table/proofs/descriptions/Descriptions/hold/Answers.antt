use Rattle.std.specs.Prelude.{◌+◌, refl}
use Rattle.kern_model.specs.ByNumber.{by_did}
use Rattle.num_table.proofs.Outcomes.{at_some}
use Rattle.fd_table.specs.declared.shared.Shared.{Shared}
use Rattle.fd_table.proofs.UseLemmas.{counted_changed, shared_changed}
use Rattle.fd_table.proofs.descriptions.Descriptions.hold.Goals as goal

pub invariant_of-self : goal.invariant_of-self
invariant_of-self c =
    let changed : Shared → Shared = λ s. record s { holders = s.holders + 1 } in
    counted_changed (by_did c.self.inside.shared) _ c.args.did.now c.in-Some.shared.now c.in-Some.ensures.value changed
    (at_some c.in-Some.is (c.get_mut_at.follows.holds (changed c.in-Some.shared.now))) c.self.inside.uses c.self.invariant refl refl

pub returns : goal.returns
returns c = λ s is.
    let changed : Shared → Shared = λ s. record s { holders = s.holders + 1 } in
    shared_changed (by_did c.self.inside.shared) _ c.args.did.now c.in-Some.shared.now c.in-Some.ensures.value changed
    (at_some c.in-Some.is (c.get_mut_at.follows.holds (changed c.in-Some.shared.now))) c.args.self.now c.self.view_is s is
