use Rattle.std.proofs.Common.{◌≡◌, take}
use Rattle.cap_bits.specs.FileCaps.{shown}
use Rattle.kern_model.specs.declared.world.WorldObject.{WorldObject}
use Rattle.ever_caps.specs.Ever.{joined}
use Rattle.ever_caps.proofs.sets.files_joined.Given as goal

abbrev pub invariant-loop-object : goal.invariant-loop-object
invariant-loop-object l = l.together ≡ joined (λ (o : WorldObject). shown o.attr.caps) (take l.object-index l.objects)
