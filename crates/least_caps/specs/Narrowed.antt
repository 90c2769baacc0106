-- A world without some capabilities.
use Rattle.std.specs.Prelude.{map}
use Rattle.cap_bits.specs.CapSet.{CapSet, minus_of}
use Rattle.cap_bits.specs.FileCaps.{file_caps}
use Rattle.cap_bits.specs.declared.file_caps.FileCaps.{FileCaps}
use Rattle.cap_bits.specs.declared.state.CapState.{CapState}
use Rattle.kern_model.specs.declared.objects.Attr.{Attr}
use Rattle.kern_model.specs.declared.world.World.{World}
use Rattle.kern_model.specs.declared.world.WorldObject.{WorldObject}
use Rattle.kern_model.specs.declared.world.WorldProc.{WorldProc}

-- three sets without some capabilities
abbrev pub caps_narrowed : CapSet → CapState → CapState
caps_narrowed d caps = record { e = minus_of caps.e d; i = minus_of caps.i d; p = minus_of caps.p d }

-- the two sets of a file without them; the flag is off where both are empty
abbrev pub file_narrowed : CapSet → FileCaps → FileCaps
file_narrowed d caps = file_caps (minus_of caps.p d) (minus_of caps.i d) caps.eff

abbrev pub attr_narrowed : CapSet → Attr → Attr
attr_narrowed d attr = record attr { caps = file_narrowed d attr.caps }

-- an object of a world, without them
abbrev pub object_narrowed : CapSet → WorldObject → WorldObject
object_narrowed d o = record o { attr = attr_narrowed d o.attr }

-- a process of a world, without them
abbrev pub process_narrowed : CapSet → WorldProc → WorldProc
process_narrowed d p = record p { caps = caps_narrowed d p.caps }

-- a world without them: in its bound, and in the sets of each object and each process
abbrev pub narrowed : CapSet → World → World
narrowed d w = record w { bound = minus_of w.bound d; objects = map (object_narrowed d) w.objects; procs = map (process_narrowed d) w.procs }
