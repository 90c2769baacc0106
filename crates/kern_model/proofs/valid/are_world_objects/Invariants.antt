use Rattle.std.proofs.Common.{take}
use Rattle.std.specs.Prelude.{All}
use Rattle.kern_model.specs.World.{IsWorldObject}
use Rattle.kern_model.proofs.valid.are_world_objects.Given as goal

abbrev pub invariant-loop-object : goal.invariant-loop-object
invariant-loop-object l = All (IsWorldObject l.top) (take l.object-index l.objects)
