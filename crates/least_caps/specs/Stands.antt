-- The capabilities that stand in a world.
use Rattle.cap_bits.specs.CapSet.{CapSet, union_of}
use Rattle.kern_model.specs.declared.world.World.{World}
use Rattle.kern_model.specs.declared.world.WorldObject.{WorldObject}
use Rattle.kern_model.specs.declared.world.WorldProc.{WorldProc}
use Rattle.least_caps.specs.Named.{union_over}

-- what is in either set of an object
abbrev pub object_caps : WorldObject → CapSet
object_caps o = union_of o.attr.caps.p o.attr.caps.i

-- what is in any of the three sets of a process
abbrev pub process_caps : WorldProc → CapSet
process_caps p = union_of (union_of p.caps.e p.caps.i) p.caps.p

-- what is in the bound, or in a set of an object or a process
abbrev pub stands : World → CapSet
stands w = union_of (union_of w.bound (union_over object_caps w.objects)) (union_over process_caps w.procs)
