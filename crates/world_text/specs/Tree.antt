-- Objects and processes of a world as they are read.
use Rattle.std.specs.Prelude.{List}
use Rattle.kern_model.specs.declared.world.WorldObject.{WorldObject}
use Rattle.kern_model.specs.declared.world.WorldProc.{WorldProc}

-- objects and processes so far, in the order of their lines
pub record Tree : Type 0 where
  pub objects : List WorldObject
  pub procs : List WorldProc
