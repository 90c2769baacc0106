-- The keys of the state's tables, in their orders.
use Rattle.std.specs.Prelude.{Bool, false, Option, None, Some}
use Rattle.std.specs.declared.cmp.Ordering.{Ordering}
use Rattle.std.specs.Ordering.{nat_cmp, ordering_then, eq_by_cmp}
use Rattle.std.specs.Cmp.Lexicographic.{slice_cmp}
use Rattle.fs_path.specs.Name.{Name}
use Rattle.lab_lattice.specs.Label.{label_cmp}
use Rattle.kern_model.specs.declared.numbers.Pid.{Pid}
use Rattle.kern_model.specs.declared.numbers.Oid.{Oid}
use Rattle.kern_model.specs.declared.numbers.Did.{Did}

-- objects' numbers: by label, and then by count
unfoldable pub oid_cmp : Oid → Oid → Ordering
oid_cmp a b = ordering_then (label_cmp a.label b.label) (nat_cmp a.n b.n)

-- processes' numbers: by label, and then by count
unfoldable pub pid_cmp : Pid → Pid → Ordering
pid_cmp a b = ordering_then (label_cmp a.label b.label) (nat_cmp a.n b.n)

-- descriptions' numbers: by label, and then by count
unfoldable pub did_cmp : Did → Did → Ordering
did_cmp a b = ordering_then (label_cmp a.label b.label) (nat_cmp a.n b.n)

-- the spot of an entry: the directory that holds it, and its name there
abbrev pub Spot : Type 0
Spot = Oid × Name

-- spots: by directory, and then by the bytes of the name
unfoldable pub spot_cmp : Spot → Spot → Ordering
spot_cmp a b = ordering_then (oid_cmp a.0 b.0) (slice_cmp nat_cmp a.1 b.1)

-- whether two numbers are one
abbrev pub same_oid : Oid → Oid → Bool
same_oid a b = eq_by_cmp oid_cmp a b

abbrev pub same_pid : Pid → Pid → Bool
same_pid a b = eq_by_cmp pid_cmp a b

abbrev pub same_did : Did → Did → Bool
same_did a b = eq_by_cmp did_cmp a b

-- whether there is a number, and it is this one
abbrev pub is_pid : Pid → Option Pid → Bool
is_pid a None = false
is_pid a (Some b) = same_pid a b
