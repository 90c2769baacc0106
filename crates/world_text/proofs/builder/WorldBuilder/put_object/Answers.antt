use Rattle.std.proofs.Common.{◌∙◌, ap, arith, subst, sym}
use Rattle.kern_model.specs.World.{object_with_path}
use Rattle.world_text.specs.Tree.{Tree}
use Rattle.world_text.specs.declared.builder.Kept.{Kept}
use Rattle.world_text.specs.Indexed.{IsIndexed}
use Rattle.world_text.proofs.BuilderLemmas.{empty_indexed, object_indexed}
use Rattle.world_text.proofs.PlacingLemmas.{without_fault}
use Rattle.world_text.proofs.builder.WorldBuilder.put_object.Goals as goal

pub put_object-requires-clause-room : goal.put_object-requires-clause-room
put_object-requires-clause-room c =
    let room = (without_fault c.args.self.now c.args.object c.requires.fits).room in
    let count = c.requires.spot.count_is in
    omega arith

pub invariant_of-self : goal.invariant_of-self
invariant_of-self c =
    let names = c.args.object.path.names in
    let value = c.deref_mut.ensures.value in
    let free = ap (λ (k : Kept). object_with_path k.objects names) value ∙ ap (λ (t : Tree). object_with_path t.objects names) c.self.view_is ∙ (without_fault c.args.self.now c.args.object c.requires.fits).free in
    object_indexed c.deref_mut.result.now c.put_object.new.self c.args.object c.args.spot.now.hash (subst (λ (k : Kept). IsIndexed k) (sym value) c.self.invariant) c.in-Ok.ensures c.requires.spot.hash_is free

pub invariant_of-self-in-Err : goal.invariant_of-self-in-Err
invariant_of-self-in-Err c = empty_indexed c.new.result c.new.ensures
