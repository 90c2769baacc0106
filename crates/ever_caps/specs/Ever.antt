-- The capabilities that a process may ever have in a world.
use Rattle.std.specs.Prelude.{Bool, List, [], ◌∷◌}
use Rattle.cap_bits.specs.CapSet.{CapSet, is_within, meet_of, no_caps, union_of, with_cap}
use Rattle.cap_bits.specs.FileCaps.{shown}
use Rattle.cap_bits.specs.State.{no_flags}
use Rattle.cap_bits.specs.declared.cap.Cap.TheVariants as cap
use Rattle.cap_bits.specs.declared.state.CapState.{CapState}
use Rattle.kern_model.specs.declared.world.World.{World}
use Rattle.kern_model.specs.declared.world.WorldObject.{WorldObject}
use Rattle.kern_model.specs.declared.world.WorldProc.{WorldProc}
use Rattle.kern_model.specs.Exec.{exec_permitted}

-- two states together: each set has what either has in it
abbrev pub join : CapState → CapState → CapState
join a b = record { e = union_of a.e b.e; i = union_of a.i b.i; p = union_of a.p b.p }

-- the states of all of these together
abbrev pub joined : {X : Type 0} → (X → CapState) → List X → CapState
joined f [] = no_flags
joined f (x ∷ xs) = join (f x) (joined f xs)

-- what all processes have together
abbrev pub all_processes : World → CapState
all_processes w = joined (λ (p : WorldProc). p.caps) w.procs

-- what all files have together
abbrev pub all_files : World → CapState
all_files w = joined (λ (o : WorldObject). shown o.attr.caps) w.objects

-- what some process has effective or permitted, and what one program with the sets of all files would give to one process with the sets of all processes
abbrev pub ever : World → CapSet
ever w = union_of (union_of (all_processes w).e (all_processes w).p) (exec_permitted (all_processes w) (all_files w) w.bound)

-- ---- the five capabilities that override the rules on labels

abbrev pub mac_caps : CapSet
mac_caps = with_cap (with_cap (with_cap (with_cap (with_cap no_caps cap.MacDowngrade) cap.MacRead) cap.MacRelabelSubj) cap.MacUpgrade) cap.MacWrite

-- those of the five that a process with these sets has effective or permitted
abbrev pub mac_in : CapState → CapSet
mac_in caps = meet_of mac_caps (union_of caps.e caps.p)

-- those that a process of a world has
abbrev pub mac_held : WorldProc → CapSet
mac_held p = mac_in p.caps

-- those of the five that a file gives to a process with these sets, by the exec formula
abbrev pub mac_given_to : CapState → CapSet → WorldObject → CapSet
mac_given_to caps bound o = meet_of mac_caps (exec_permitted caps (shown o.attr.caps) bound)

-- those that a file of a world gives to some process or other
abbrev pub mac_given : World → WorldObject → CapSet
mac_given w o = mac_given_to (all_processes w) w.bound o

-- those of the five that a process may ever have
abbrev pub mac_ever : World → CapSet
mac_ever w = meet_of mac_caps (ever w)

-- whether no process may ever have one of the five
abbrev pub is_confined : World → Bool
is_confined w = is_within (mac_ever w) no_caps
