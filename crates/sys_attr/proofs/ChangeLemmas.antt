-- Where the tables show a state and one thing of them is set, they show the state with this change.
use Rattle.std.specs.Prelude.{◌≡◌, Some}
use Rattle.std.specs.FinMap as map
use Rattle.std.specs.FinMap.{FinMap}
use Rattle.std.proofs.Common.{ap, sym, ◌∙◌}
use Rattle.kern_model.specs.declared.numbers.Oid.{Oid}
use Rattle.kern_model.specs.declared.numbers.Pid.{Pid}
use Rattle.kern_model.specs.declared.objects.Object.{Object}
use Rattle.kern_model.specs.Keys.{pid_cmp, spot_cmp}
use Rattle.kern_model.specs.State.{State, Process, SetObject, SetProcess, apply_change, object_at, stub_object}
use Rattle.kern_model.specs.Valid.{IsThere}
use Rattle.kern_model.proofs.MapLemmas.{get_or-found}
use Rattle.fs_nodes.specs.Nodes.{NodeTable, with_object}

module _ {shown s : State} (shows : shown ≡ s) where
  -- an object of the state is in the tables
  pub object_shown : (id : Oid) (there : IsThere s.objects id) → map.get shown.objects id ≡ Some there.value
  object_shown id there = ap (λ (t : State). map.get t.objects id) shows ∙ there.is

  pub object_set : (id : Oid) (there : IsThere s.objects id) (new : Object → Object) {table : NodeTable} {entries : FinMap spot_cmp Oid} → table ≡ with_object (record { objects = shown.objects; numbers = shown.object_numbers }) id (new there.value) → entries ≡ shown.entries
      → record shown { objects = table.objects; object_numbers = table.numbers; entries = entries } ≡ apply_change s (SetObject id (new (object_at s id)))
  object_set id there new set same =
      (λ i. record shown { objects = (set i).objects; object_numbers = (set i).numbers; entries = same i })
      ∙ ap (λ t. apply_change t (SetObject id (new there.value))) shows
      ∙ ap (λ (o : Object). apply_change s (SetObject id (new o))) (sym (get_or-found s.objects id (stub_object s.top) there.value there.is))

  pub process_set : (who : Pid) (p : Process) {procs : FinMap pid_cmp Process} → procs ≡ map.insert shown.procs who p → record shown { procs = procs } ≡ apply_change s (SetProcess who p)
  process_set who p set = (λ i. record shown { procs = set i }) ∙ ap (λ t. apply_change t (SetProcess who p)) shows
