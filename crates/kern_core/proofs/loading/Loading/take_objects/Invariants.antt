use Rattle.std.proofs.Common.{◌≡◌}
use Rattle.std.specs.Prelude.{reverse}
use Rattle.std.specs.Vec.{vec_len}
use Rattle.kern_model.specs.Boot.{boot_objects}
use Rattle.kern_core.specs.Starts.{LeadsTo, RoomForObjects, state_loaded}
use Rattle.kern_core.proofs.loading.Loading.take_objects.Given as goal

-- what is left, the next object last, makes the state that all make, and there are numbers for what is left
abbrev pub invariant-loop-object : goal.invariant-loop-object
invariant-loop-object l = record {
  same : boot_objects (state_loaded l.self) (reverse l.left.items) ≡ boot_objects (state_loaded l.fn.self) l.fn.objects;
  room : RoomForObjects l.self.nodes.table.numbers (reverse l.left.items);
  last : LeadsTo l.self.spots l.last;
}

abbrev pub decreases-loop-object : goal.decreases-loop-object
decreases-loop-object l = vec_len l.left
