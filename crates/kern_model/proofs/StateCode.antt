-- How a state and its parts are stored.
use Rattle.std.specs.Prelude.{ℕ, List, refl}
use Rattle.std.specs.Ordering.{nat_cmp}
use Rattle.std.specs.FinMap as map
use Rattle.std.specs.FinMap.{FinMap}
use Rattle.std.specs.FinSet as set
use Rattle.std.specs.Coded.{Coded, code_by, coded×, coded_ℕ, codes}
use Rattle.cap_bits.specs.Cap.{cap_cmp, cap_code}
use Rattle.cap_bits.specs.CapSet.{CapSet}
use Rattle.lab_lattice.specs.Label.{Label, label_cmp, label_code}
use Rattle.kern_model.specs.declared.calls.Ending.{Ending}
use Rattle.kern_model.specs.declared.numbers.Did.{Did}
use Rattle.kern_model.specs.declared.numbers.Oid.{Oid}
use Rattle.kern_model.specs.declared.numbers.Pid.{Pid}
use Rattle.kern_model.specs.declared.objects.Object.{Object}
use Rattle.kern_model.specs.Keys.{Spot, oid_cmp, pid_cmp, did_cmp, spot_cmp}
use Rattle.kern_model.specs.State.{State, Process, Description}

-- the tables of a state, one after another
abbrev Tables : Type 0
Tables = (FinMap oid_cmp Object × FinMap spot_cmp Oid) × ((FinMap pid_cmp Process × FinMap did_cmp Description) × ((FinMap label_cmp ℕ × (FinMap label_cmp ℕ × FinMap label_cmp ℕ)) × (CapSet × Label)))

pub oid_code : Coded Oid
oid_code = Prim.hlevel (codes, label_code)

pub object_code : Coded Object
object_code = Prim.hlevel (codes, set.code {R = cap_cmp} cap_code, label_code)

pub spot_code : Coded Spot
spot_code = Prim.hlevel (codes, label_code)

pub pid_code : Coded Pid
pid_code = Prim.hlevel (codes, label_code)

-- lists of processes
pub pids_code : Coded (List Pid)
pids_code = Prim.hlevel (codes, label_code)

-- lists of children that ended
pub ended_code : Coded (List (Pid × Ending))
ended_code = Prim.hlevel (codes, label_code)

pub did_code : Coded Did
did_code = Prim.hlevel (codes, label_code)

pub process_code : Coded Process
process_code = Prim.hlevel (codes, map.code {K = ℕ} {X = Did} {R = nat_cmp} coded_ℕ did_code, set.code {R = cap_cmp} cap_code, label_code)

pub description_code : Coded Description
description_code = Prim.hlevel (codes, label_code)

-- a state is stored as its tables
pub state_code : Coded State
state_code =
    code_by Tables
    (coded× (coded× (map.code oid_code object_code) (map.code spot_code oid_code)) (coded× (coded× (map.code pid_code process_code) (map.code did_code description_code)) (coded× (coded× (map.code label_code coded_ℕ) (coded× (map.code label_code coded_ℕ) (map.code label_code coded_ℕ))) (coded× (set.code cap_code) label_code))))
    (λ s. ((s.objects, s.entries), ((s.procs, s.descriptions), ((s.object_numbers, (s.process_numbers, s.description_numbers)), (s.bound, s.top)))))
    (λ t. record { objects = t.0.0; entries = t.0.1; procs = t.1.0.0; descriptions = t.1.0.1; object_numbers = t.1.1.0.0; process_numbers = t.1.1.0.1.0; description_numbers = t.1.1.0.1.1; bound = t.1.1.1.0; top = t.1.1.1.1 })
    (λ _. refl)
