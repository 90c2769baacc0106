-- The objects that open descriptors refer to.
use Rattle.std.specs.Prelude.{◌≡◌, ◌≤◌, true, false, None, Some, length, refl}
use Rattle.std.specs.FinMap as map
use Rattle.std.proofs.Common.{ap, sym, subst, ◌∙◌}
use Rattle.std.proofs.Math.Bridge.{le_prop}
use Rattle.std.proofs.Math.Logic.{∥∥₁_elim}
use Rattle.kern_model.specs.declared.limits.TheConstants.{MAX_FILE_BYTES, MAX_PIPE_BYTES}
use Rattle.kern_model.specs.declared.numbers.Did.{Did}
use Rattle.kern_model.specs.declared.numbers.Oid.{Oid}
use Rattle.kern_model.specs.declared.objects.Kind.{Kind}
use Rattle.kern_model.specs.declared.objects.Kind.TheVariants as kind
use Rattle.kern_model.specs.declared.objects.Object.{Object}
use Rattle.kern_model.specs.Kinds.{is_stream}
use Rattle.kern_model.specs.State.{State, Description, object_at, stub_object}
use Rattle.kern_model.specs.Valid.{IsValid}
use Rattle.kern_model.proofs.MapLemmas.{get_or-absent, get_or-found, never_some, some_same}
use Rattle.fs_nodes.specs.Nodes.{IsFile, IsStream}

-- what is there is what is read
pub object_is : (s : State) (id : Oid) (o : Object) → map.get s.objects id ≡ Some o → object_at s id ≡ o
object_is s id o is = get_or-found s.objects id (stub_object s.top) o is

file_kind : (k : Kind) → is_stream k ≡ false → (k ≡ kind.Dir → ⊥) → k ≡ kind.File
file_kind kind.Dir no_stream no_dir = absurd (no_dir refl)
file_kind kind.File no_stream no_dir = refl
file_kind kind.Fifo no_stream no_dir = let h : true ≡ false = no_stream in cc
file_kind kind.Pipe no_stream no_dir = let h : true ≡ false = no_stream in cc

-- a file of a valid state has few bytes
pub few_bytes : (s : State) → ∥ IsValid s ∥₁ → (id : Oid) (o : Object) → map.get s.objects id ≡ Some o → o.kind ≡ kind.File → length o.bytes ≤ MAX_FILE_BYTES
few_bytes s valid id o is file = ∥∥₁_elim valid le_prop (λ v. (v.objects id o is).file_bytes file)

-- A description of a valid state stands on a file, unless it stands on a pipe or a FIFO.
module _ (s : State) (valid : ∥ IsValid s ∥₁) (did : Did) (d : Description) (there : map.get s.descriptions did ≡ Some d) where
  pub file_there : is_stream (object_at s d.object).kind ≡ false → IsFile s.objects d.object
  file_there no_stream =
      elim (map.get s.objects d.object) as (λ w. map.get s.objects d.object ≡ w → IsFile s.objects d.object) [
        | None ↦ λ none. absurd (∥∥₁_elim valid (λ a b. absurd a) (λ v. let x = v.descriptions did d there in never_some (map.get s.objects d.object) x.object none x.object_is))
        | Some o ↦ λ is. record {
          object = o;
          is = is;
          file = file_kind o.kind (ap (λ (x : Object). is_stream x.kind) (sym (object_is s d.object o is)) ∙ no_stream)
              (λ dir. ∥∥₁_elim valid (λ a b. absurd a) (λ v. let x = v.descriptions did d there in x.no_dir (ap (λ (y : Object). y.kind) (some_same x.object o (sym x.object_is ∙ is)) ∙ dir)));
        }
      ] refl

  -- so there are few bytes
  pub few_there : is_stream (object_at s d.object).kind ≡ false → length (object_at s d.object).bytes ≤ MAX_FILE_BYTES
  few_there no_stream =
      let file = file_there no_stream in
      subst (λ (o : Object). length o.bytes ≤ MAX_FILE_BYTES) (sym (object_is s d.object file.object file.is)) (few_bytes s valid d.object file.object file.is file.file)

-- what is read as a stream is there
pub stream_there : (s : State) (id : Oid) → is_stream (object_at s id).kind ≡ true → IsStream s.objects id
stream_there s id stream =
    elim (map.get s.objects id) as (λ w. map.get s.objects id ≡ w → IsStream s.objects id) [
      | None ↦ λ none.
          let stub = get_or-absent s.objects id (stub_object s.top) none in
          let no : false ≡ true = ap (λ (o : Object). is_stream o.kind) (sym stub) ∙ stream in
          cc
      | Some o ↦ λ is. record { object = o; is = is; stream = ap (λ (x : Object). is_stream x.kind) (sym (object_is s id o is)) ∙ stream }
    ] refl

-- few bytes wait in a stream of a valid state
pub few_wait : (s : State) → ∥ IsValid s ∥₁ → (id : Oid) (o : Object) → map.get s.objects id ≡ Some o → is_stream o.kind ≡ true → length o.bytes ≤ MAX_PIPE_BYTES
few_wait s valid id o is stream = ∥∥₁_elim valid le_prop (λ v. (v.objects id o is).stream_bytes stream)
