use Rattle.std.proofs.Common.{◌≡◌, take}
use Rattle.least_caps.specs.Named.{union_over}
use Rattle.least_caps.specs.Stands.{object_caps}
use Rattle.least_caps.proofs.needs.objects_caps.Given as goal

abbrev pub invariant-loop-object : goal.invariant-loop-object
invariant-loop-object l = l.caps ≡ union_over object_caps (take l.object-index l.objects)
