use Rattle.std.proofs.Common.{ap, refl, sym, ◌∙◌, subst}
use Rattle.std.specs.FinMap as map
use Rattle.kern_model.specs.Valid.{IsThere}
use Rattle.fs_nodes.specs.Nodes.{NodeSlots}
use Rattle.fs_nodes.proofs.Places.{at_key, key_there, still_placed, table_changed}
use Rattle.fs_nodes.proofs.nodes.Nodes.object_mut.Goals as goal

pub place-requires : goal.place-requires
place-requires c = key_there c.self.inside.slots c.self.inside.index.keys c.args.id.now (subst (λ (n : NodeSlots). IsThere n.table.objects c.args.id.now) (sym c.self.view_is) c.requires)

pub object_at-requires : goal.object_at-requires
object_at-requires c = c.self.invariant.there c.args.id.now c.place.result c.place.ensures

pub invariant_of-self-lent : goal.invariant_of-self-lent
invariant_of-self-lent c = λ w. still_placed c.self.invariant c.args.id.now c.place.result c.place.ensures w

pub returns : goal.returns
returns c = (
  (refl, λ w. table_changed c.self.invariant c.args.id.now c.place.result c.place.ensures c.args.self.now c.self.view_is w),
  record {
    writes_back = tt;
    value = ap (λ (n : NodeSlots). map.get n.table.objects c.args.id.now) (sym c.self.view_is)
        ∙ at_key c.self.inside.slots c.self.inside.index.keys c.args.id.now c.place.result c.place.ensures ∙ c.object_at.ensures.value;
  },
)
