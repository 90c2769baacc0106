use Rattle.std.proofs.Common.{◌≡◌, drop}
use Rattle.kern_model.specs.State.{root}
use Rattle.kern_core.specs.Starts.{directory_from}
use Rattle.kern_core.proofs.loading.Loading.directory_at.Given as goal

-- what is left leads from here where all lead from the root
abbrev pub invariant-loop-name : goal.invariant-loop-name
invariant-loop-name l = directory_from l.self.spots l.dir (drop l.name-index l.names) ≡ directory_from l.self.spots root l.names
