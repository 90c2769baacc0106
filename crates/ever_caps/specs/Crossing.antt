-- The processes of a world that may ever cross a label, found once for all labels.
use Rattle.std.specs.Prelude.{◌&&◌, ◌||◌, Bool, List, map}
use Rattle.std.specs.List.{filter, list_all, list_any}
use Rattle.cap_bits.specs.CapSet.{CapSet, has, union_of}
use Rattle.cap_bits.specs.FileCaps.{shown}
use Rattle.cap_bits.specs.declared.cap.Cap.{Cap}
use Rattle.cap_bits.specs.declared.cap.Cap.TheVariants as cap
use Rattle.lab_lattice.specs.Label.{Label, dominates}
use Rattle.kern_model.specs.declared.world.WorldObject.{WorldObject}
use Rattle.kern_model.specs.declared.world.WorldProc.{WorldProc}
use Rattle.kern_model.specs.Exec.{exec_permitted}
use Rattle.ever_caps.specs.declared.labels.Crossers.{Crossers}
use Rattle.ever_caps.specs.declared.labels.Program.{Program}
use Rattle.ever_caps.specs.Uncrossed.{is_above}

-- ---- programs

-- whether a set has cap_mac_read or cap_mac_upgrade
abbrev pub has_upward : CapSet → Bool
has_upward caps = has caps cap.MacRead || has caps cap.MacUpgrade

-- a file, as it concerns the processes that may execute it
abbrev pub program_of : WorldObject → Program
program_of o = record { label = o.label; caps = shown o.attr.caps }

-- whether it may give one of the two capabilities to some process or other
abbrev pub may_give : Program → Bool
may_give f = has_upward (union_of f.caps.p f.caps.i)

-- the files that may
abbrev pub programs : List WorldObject → List Program
programs os = filter may_give (map program_of os)

-- whether a program gives a capability to a process whose label dominates the program's
abbrev pub gives_to : Cap → CapSet → WorldProc → Program → Bool
gives_to c bound p f = dominates p.label f.label && has (exec_permitted p.caps f.caps bound) c

-- ---- processes

-- whether a process has a capability effective or permitted, or one of these programs gives it
abbrev pub may_have_by : Cap → CapSet → List Program → WorldProc → Bool
may_have_by c bound fs p = has (union_of p.caps.e p.caps.p) c || list_any (gives_to c bound p) fs

-- whether it may have one of the two
abbrev pub may_cross : CapSet → List Program → WorldProc → Bool
may_cross bound fs p = may_have_by cap.MacRead bound fs p || may_have_by cap.MacUpgrade bound fs p

-- the labels of those that may
abbrev pub crossing_labels : CapSet → List Program → List WorldProc → List Label
crossing_labels bound fs ps = map (λ (p : WorldProc). p.label) (filter (may_cross bound fs) ps)

-- whether no process of these has another of the five capabilities, and each has a label strictly above this one
unfoldable pub is_left_by : Crossers → Label → Bool
is_left_by c l = c.only_upward && list_all (λ (m : Label). is_above m l) c.labels.items
