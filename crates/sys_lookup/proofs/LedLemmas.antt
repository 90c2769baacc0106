-- What a path leads to is there.
use Rattle.std.specs.Prelude.{◌≡◌, true, false, Some, cond}
use Rattle.std.specs.FinMap as map
use Rattle.std.proofs.Common.{sym, subst, inl, inr}
use Rattle.fs_path.specs.Path.{PathValue}
use Rattle.kern_model.specs.declared.numbers.Oid.{Oid}
use Rattle.kern_model.specs.declared.numbers.Pid.{Pid}
use Rattle.kern_model.specs.State.{State, Process, root}
use Rattle.kern_model.specs.Valid.{IsThere, IsValid}
use Rattle.kern_model.specs.Walk.{start_of}
use Rattle.sys_lookup.specs.Walks.{IsLedTo}

-- where a path starts is there
start_there : (s : State) → IsValid s → (who : Pid) (p : Process) → map.get s.procs who ≡ Some p → (path : PathValue) → IsThere s.objects (start_of p path)
start_there s valid who p living path =
    let r = valid.root_is in
    let cwd = (valid.procs who p living).cwd in
    elim path.absolute as (λ b. IsThere s.objects (cond b root p.cwd)) [ true ↦ record { value = r.object; is = r.is } | false ↦ record { value = cwd.object; is = cwd.is } ]

-- what a path leads to is there
pub led_there : (s : State) → IsValid s → (who : Pid) (p : Process) → map.get s.procs who ≡ Some p → (path : PathValue) (id : Oid) → IsLedTo s (start_of p path) id → IsThere s.objects id
led_there s valid who p living path id (inl same) = subst (IsThere s.objects) (sym same) (start_there s valid who p living path)
led_there s valid who p living path id (inr named) = let entry = valid.entries (named.dir, named.name) id named.leads in record { value = entry.object; is = entry.object_is }
