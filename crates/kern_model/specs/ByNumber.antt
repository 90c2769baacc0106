-- Tables by the numbers of processes, objects or descriptions.
use Rattle.std.specs.Prelude.{◌≡◌, map as map_list}
use Rattle.std.specs.declared.cmp.Ordering.{Ordering}
use Rattle.std.specs.FinMap as map
use Rattle.std.specs.FinMap.{FinMap}
use Rattle.kern_model.specs.declared.numbers.Did.{Did}
use Rattle.kern_model.specs.declared.numbers.Oid.{Oid}
use Rattle.kern_model.specs.declared.numbers.Pid.{Pid}
use Rattle.kern_model.specs.Keys.{did_cmp, oid_cmp, pid_cmp}
use Rattle.kern_model.specs.Numbers.{Num, num_cmp}

-- the number of a label and a count gives both back, and numbers are in the order of their labels and counts
pub record AreNumbers {K : Type 0} (R : K → K → Ordering) (of_parts : Num → K) (parts : K → Num) : Type 0 where
  pub parts_back : (n : Num) → parts (of_parts n) ≡ n
  pub in_order : (a b : K) → R a b ≡ num_cmp (parts a) (parts b)

-- the entries with the number of each label and count in their place
unfoldable pub by_number : {K X : Type 0} {R : K → K → Ordering} → (Num → K) → FinMap num_cmp X → FinMap R X
by_number of_parts m = map.from_entries (map_list (λ e. (of_parts e.0, e.1)) (map.entries m))

-- the number of a process
abbrev pub pid_at : Num → Pid
pid_at n = record { label = n.0; n = n.1 }

-- of an object
abbrev pub oid_at : Num → Oid
oid_at n = record { label = n.0; n = n.1 }

-- and of a description
abbrev pub did_at : Num → Did
did_at n = record { label = n.0; n = n.1 }

-- a table by the numbers of processes
abbrev pub by_pid : {X : Type 0} → FinMap num_cmp X → FinMap pid_cmp X
by_pid m = by_number pid_at m

-- by those of objects
abbrev pub by_oid : {X : Type 0} → FinMap num_cmp X → FinMap oid_cmp X
by_oid m = by_number oid_at m

-- and by those of descriptions
abbrev pub by_did : {X : Type 0} → FinMap num_cmp X → FinMap did_cmp X
by_did m = by_number did_at m
