use Rattle.std.specs.Prelude.{◌≡◌, ℕ, Some}
use Rattle.std.proofs.Common.{ap, sym, ◌∙◌, subst}
use Rattle.std.specs.FinMap as map
use Rattle.kern_model.specs.declared.numbers.Oid.{Oid}
use Rattle.slab.specs.Slab.{get}
use Rattle.fs_nodes.specs.Nodes.{NodeSlots}
use Rattle.fs_nodes.proofs.Places.{at_key, at_no_key, absent_key, one_key}
use Rattle.fs_nodes.proofs.nodes.Nodes.key.Goals as goal

pub returns-clause-absent : goal.returns-clause-absent
returns-clause-absent c =
    let view = ap (λ (n : NodeSlots). map.get n.table.objects c.args.id.now) c.self.view_is in (
      (λ e. sym view ∙ at_no_key c.self.inside.slots c.self.inside.index.keys c.args.id.now (sym c.get.ensures ∙ e)),
      (λ e. c.get.ensures ∙ absent_key c.self.invariant c.args.id.now (view ∙ e)),
    )

pub returns-clause-holds : goal.returns-clause-holds
returns-clause-holds c key e =
    subst (λ (n : NodeSlots). map.get n.keys c.args.id.now ≡ Some key → get n.slots key ≡ map.get n.table.objects c.args.id.now) c.self.view_is
    (λ is. sym (at_key c.self.inside.slots c.self.inside.index.keys c.args.id.now key is))
    (ap (λ (n : NodeSlots). map.get n.keys c.args.id.now) (sym c.self.view_is) ∙ sym c.get.ensures ∙ e)

pub returns-clause-apart : goal.returns-clause-apart
returns-clause-apart c = subst (λ (n : NodeSlots). (a b : Oid) (key : ℕ) → map.get n.keys a ≡ Some key → map.get n.keys b ≡ Some key → a ≡ b) c.self.view_is (one_key c.self.invariant)
