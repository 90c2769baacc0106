use Rattle.std.proofs.Common.{◌∙◌, ap, List}
use Rattle.ever_caps.specs.declared.labels.Program.{Program}
use Rattle.ever_caps.specs.Crossing.{crossing_labels}
use Rattle.ever_caps.proofs.Leaving.{left_uncrossed}
use Rattle.ever_caps.proofs.labels.Crossers.of.Goals as goal

pub returns : goal.returns
returns c = left_uncrossed c.args.world.now _
    (let within = c.within.ensures in let all = c.mac_ever.ensures in let two = c.upward_caps.ensures in cc)
    (c.in_ok-crossing_labels.ensures
    ∙ ap (λ (fs : List Program). crossing_labels c.args.world.now.bound fs c.args.world.now.procs) (c.deref.ensures.value ∙ c.in_ok-programs.ensures))
