-- Objects are opened.
use Rattle.std.specs.Prelude.{◌≡◌, true, false, Option, None, Some, refl}
use Rattle.std.specs.FinMap as map
use Rattle.std.proofs.Common.{ap, sym, ◌∙◌}
use Rattle.std.proofs.Math.Logic.{∥∥₁_elim}
use Rattle.fs_path.specs.Path.{PathValue}
use Rattle.kern_model.specs.declared.numbers.Oid.{Oid}
use Rattle.kern_model.specs.declared.numbers.Pid.{Pid}
use Rattle.kern_model.specs.declared.objects.Attr.{Attr}
use Rattle.kern_model.specs.declared.objects.Kind.{Kind}
use Rattle.kern_model.specs.declared.objects.Kind.TheVariants as kind
use Rattle.kern_model.specs.declared.objects.Object.{Object}
use Rattle.kern_model.specs.Kinds.{is_file}
use Rattle.kern_model.specs.State.{State, Process, object_at}
use Rattle.kern_model.specs.Valid.{IsValid}
use Rattle.kern_model.specs.Walk.{start_of}
use Rattle.kern_model.proofs.MapLemmas.{never_some}
use Rattle.fs_nodes.specs.Nodes.{IsFile}
use Rattle.sys_lookup.specs.Walks.{IsLedTo}
use Rattle.sys_lookup.proofs.LedLemmas.{led_there}
use Rattle.sys_file.proofs.ObjectLemmas.{object_is}
use Rattle.sys_file.specs.Opening.{CanBeEmptied, EmptiesFiles}

file_of : (k : Kind) → is_file k ≡ true → k ≡ kind.File
file_of kind.File is = refl
file_of kind.Dir is = let no : false ≡ true = is in cc
file_of kind.Fifo is = let no : false ≡ true = is in cc
file_of kind.Pipe is = let no : false ≡ true = is in cc

-- what a path leads to is a file where it reads as one
pub led_to_file : (s : State) → ∥ IsValid s ∥₁ → (who : Pid) (p : Process) → map.get s.procs who ≡ Some p → (path : PathValue) (id : Oid) → IsLedTo s (start_of p path) id → is_file (object_at s id).kind ≡ true → IsFile s.objects id
led_to_file s valid who p there path id led file =
    elim (map.get s.objects id) as (λ w. map.get s.objects id ≡ w → IsFile s.objects id) [
      | None ↦ λ none. absurd (∥∥₁_elim valid (λ a b. absurd a) (λ v. let at = led_there s v who p there path id led in never_some (map.get s.objects id) at.value none at.is))
      | Some o ↦ λ is. record { object = o; is = is; file = file_of o.kind (ap (λ (x : Object). is_file x.kind) (sym (object_is s id o is)) ∙ file) }
    ] refl

-- what a path leads to can be emptied where only a file is
pub can_be_emptied : (s : State) → ∥ IsValid s ∥₁ → (who : Pid) (p : Process) → map.get s.procs who ≡ Some p → (path : PathValue) (id : Oid) → IsLedTo s (start_of p path) id → (emptied : Option Attr) → EmptiesFiles s id emptied → CanBeEmptied s id emptied
can_be_emptied s valid who p there path id led None files = tt
can_be_emptied s valid who p there path id led (Some attr) files = led_to_file s valid who p there path id led files
