-- A capability that no process has, and that no program would give.
use Rattle.std.specs.Prelude.{◌≡◌, false, Some}
use Rattle.std.specs.FinMap as map
use Rattle.cap_bits.specs.CapSet.{has, meet_of, union_of}
use Rattle.cap_bits.specs.declared.cap.Cap.{Cap}
use Rattle.kern_model.specs.declared.numbers.Oid.{Oid}
use Rattle.kern_model.specs.declared.numbers.Pid.{Pid}
use Rattle.kern_model.specs.declared.objects.Object.{Object}
use Rattle.kern_model.specs.State.{State, Process}

-- a capability is absent from a state
pub record IsAbsent (c : Cap) (s : State) : Type 0 where
  -- no process has it effective or permitted
  pub unheld : (who : Pid) (p : Process) → map.get s.procs who ≡ Some p → has (union_of p.caps.e p.caps.p) c ≡ false
  -- no file permits it within the bound
  pub unpermitted : (id : Oid) (o : Object) → map.get s.objects id ≡ Some o → has (meet_of o.attr.caps.p s.bound) c ≡ false
  -- it is not both inheritable of a process and inheritable of a file
  pub uninherited : (who : Pid) (p : Process) (id : Oid) (o : Object) → map.get s.procs who ≡ Some p → map.get s.objects id ≡ Some o
      → has (meet_of o.attr.caps.i p.caps.i) c ≡ false
