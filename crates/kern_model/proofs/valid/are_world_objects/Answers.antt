use Rattle.std.proofs.Common.{arith, refl, subst}
use Rattle.std.specs.Prelude.{All}
use Rattle.std.proofs.lemmas.List.{take_all}
use Rattle.std.proofs.lemmas.List.Elements.{All-more}
use Rattle.kern_model.specs.World.{IsWorldObject}
use Rattle.kern_model.proofs.valid.are_world_objects.Goals as goal

pub loop-object-preserved : goal.loop-object-preserved
loop-object-preserved c =
    let right = IsWorldObject c.args.top.now in
    All-more right c.args.objects.now c.loop-object.object-index c.object-item.result (omega arith) c.loop-object.invariant (subst right c.object-item.is (c.is_world_object.ensures.0 c.if-not-is_world_object.false))

pub returns : goal.returns
returns c = (λ _. subst (All (IsWorldObject c.args.top.now)) (take_all c.loop-object.object-index c.args.objects.now (omega arith)) c.loop-object.invariant, λ _. refl)
