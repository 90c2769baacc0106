-- Worlds in which nothing ever crosses one label.
use Rattle.std.specs.Prelude.{◌&&◌, ◌||◌, not, Bool}
use Rattle.std.specs.List.{list_all, list_any}
use Rattle.cap_bits.specs.CapSet.{CapSet, has, is_within, no_caps, union_of, with_cap}
use Rattle.cap_bits.specs.FileCaps.{shown}
use Rattle.cap_bits.specs.declared.cap.Cap.{Cap}
use Rattle.cap_bits.specs.declared.cap.Cap.TheVariants as cap
use Rattle.lab_lattice.specs.Label.{Label, dominates}
use Rattle.kern_model.specs.declared.world.World.{World}
use Rattle.kern_model.specs.declared.world.WorldObject.{WorldObject}
use Rattle.kern_model.specs.declared.world.WorldProc.{WorldProc}
use Rattle.kern_model.specs.Exec.{exec_permitted}
use Rattle.ever_caps.specs.Ever.{mac_ever}

-- whether a label is strictly above another: it dominates that one, and is not dominated by it
abbrev pub is_above : Label → Label → Bool
is_above a b = dominates a b && not (dominates b a)

-- whether a file gives a capability to a process whose label dominates the file's
abbrev pub gives_below : Cap → World → WorldProc → WorldObject → Bool
gives_below c w p o = dominates p.label o.label && has (exec_permitted p.caps (shown o.attr.caps) w.bound) c

-- whether a process has a capability effective or permitted, or a file that its label dominates gives it
abbrev pub may_have : Cap → World → WorldProc → Bool
may_have c w p = has (union_of p.caps.e p.caps.p) c || list_any (gives_below c w p) w.objects

-- whether only processes with labels strictly above this one may have a capability
abbrev pub only_above : Label → Cap → World → Bool
only_above l c w = list_all (λ (p : WorldProc). is_above p.label l || not (may_have c w p)) w.procs

-- the two of the five capabilities over labels that only read, and that only move an object up
abbrev pub upward_caps : CapSet
upward_caps = with_cap (with_cap no_caps cap.MacRead) cap.MacUpgrade

-- whether, of the five, a process may ever have these two at most, and only one with a label strictly above this one
abbrev pub is_uncrossed : Label → World → Bool
is_uncrossed l w = is_within (mac_ever w) upward_caps && only_above l cap.MacRead w && only_above l cap.MacUpgrade w
