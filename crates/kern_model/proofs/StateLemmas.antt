-- What stands in a state, and what does not.
use Rattle.std.specs.Prelude.{◌≡◌, true, false, List, [], ◌∷◌, ◌++◌, None, Some, IsSome, refl}
use Rattle.std.specs.FinMap as map
use Rattle.std.proofs.Common.{ap, sym, ◌∙◌, arith}
use Rattle.lab_lattice.specs.Label.{Label}
use Rattle.kern_model.specs.declared.numbers.Oid.{Oid}
use Rattle.kern_model.specs.declared.numbers.Pid.{Pid}
use Rattle.kern_model.specs.declared.objects.Object.{Object}
use Rattle.kern_model.specs.Kinds.{is_dir}
use Rattle.kern_model.specs.State.{State, Process, Change, apply_change, apply_changes, next_object, object_at, process_at, stub_object, stub_process}
use Rattle.kern_model.specs.Valid.{IsDir, IsValid}
use Rattle.kern_model.proofs.KindLemmas.{dir_kind}
use Rattle.kern_model.proofs.MapLemmas.{get_or-absent, get_or-found}

-- what reads as a directory is there
pub dir_there : (s : State) (id : Oid) → is_dir (object_at s id).kind ≡ true → IsDir s.objects id
dir_there s id h =
    elim (map.get s.objects id) as (λ w. map.get s.objects id ≡ w → IsDir s.objects id) [
      | None ↦ λ e. let no : false ≡ true = ap (λ (o : Object). is_dir o.kind) (sym (get_or-absent s.objects id (stub_object s.top) e)) ∙ h in cc
      | Some o ↦ λ e. record { object = o; is = e; dir = dir_kind o.kind (ap (λ (x : Object). is_dir x.kind) (sym (get_or-found s.objects id (stub_object s.top) o e)) ∙ h) }
    ] refl

-- the living process that is found is the one with its number
pub process_is : (s : State) (who : Pid) (p : Process) → map.get s.procs who ≡ Some p → process_at s who ≡ p
process_is s who p there = get_or-found s.procs who (stub_process s.top) p there

-- the process with the number of a living one is found
pub process_there : (s : State) (who : Pid) → IsSome (map.get s.procs who) → map.get s.procs who ≡ Some (process_at s who)
process_there s who living =
    elim (map.get s.procs who) as (λ w. map.get s.procs who ≡ w → IsSome w → map.get s.procs who ≡ Some (process_at s who)) [
      | None ↦ λ _ some. let no : false ≡ true = some in cc
      | Some p ↦ λ e _. e ∙ ap (λ (x : Process). Some x) (sym (process_is s who p e))
    ] refl living

-- no object of a valid state has the next number
pub next_absent : (s : State) → IsValid s → (l : Label) → map.get s.objects (next_object s l) ≡ None
next_absent s valid l =
    elim (map.get s.objects (next_object s l)) as (λ w. map.get s.objects (next_object s l) ≡ w → w ≡ None) [
      | None ↦ λ _. refl
      | Some x ↦ λ e. absurd (omega (arith, (valid.objects (next_object s l) x e).drawn_already.1))
    ] refl

-- two lists of changes after one another
pub apply_changes-append : (s : State) (cs ds : List Change) → apply_changes s (cs ++ ds) ≡ apply_changes (apply_changes s cs) ds
apply_changes-append s [] ds = refl
apply_changes-append s (c ∷ cs) ds = apply_changes-append (apply_change s c) cs ds
