use Rattle.std.proofs.Common.{◌≡◌, ◌≤◌, length, take}
use Rattle.kern_model.specs.World.{object_with_path}
use Rattle.world_text.proofs.builder.WorldBuilder.find.Given as goal

-- the first have the object that all have
abbrev pub invariant-loop-place : goal.invariant-loop-place
invariant-loop-place l = record {
  within : l.count ≤ length l.self.objects;
  same : object_with_path (take l.count l.self.objects) l.names ≡ object_with_path l.self.objects l.names;
}

abbrev pub decreases-loop-place : goal.decreases-loop-place
decreases-loop-place l = l.count
