-- The three sets of a process or a file, and their flags.
use Rattle.std.specs.Prelude.{Bool, cond}
use Rattle.cap_bits.specs.declared.cap.Cap.{Cap}
use Rattle.cap_bits.specs.declared.state.Flag.{Flag}
use Rattle.cap_bits.specs.declared.state.Flag.TheVariants.{Effective, Inheritable, Permitted}
use Rattle.cap_bits.specs.declared.state.CapState.{CapState}
use Rattle.cap_bits.specs.CapSet.{CapSet, has, no_caps, with_cap, without_cap}

-- no capability in any set
abbrev pub no_flags : CapState
no_flags = record { e = no_caps; i = no_caps; p = no_caps }

-- the set of a flag
abbrev pub flag_set : CapState → Flag → CapSet
flag_set s Effective = s.e
flag_set s Inheritable = s.i
flag_set s Permitted = s.p

-- whether a capability is in the set of a flag
abbrev pub has_flag : CapState → Cap → Flag → Bool
has_flag s cap flag = has (flag_set s flag) cap

-- a set with a capability, or without it
abbrev pub set_to : CapSet → Cap → Bool → CapSet
set_to caps cap there = cond there (with_cap caps cap) (without_cap caps cap)

-- a state in which one flag of one capability is raised or lowered
abbrev pub with_flag : CapState → Cap → Flag → Bool → CapState
with_flag s cap Effective raised = record s { e = set_to s.e cap raised }
with_flag s cap Inheritable raised = record s { i = set_to s.i cap raised }
with_flag s cap Permitted raised = record s { p = set_to s.p cap raised }
