-- Objects that a call names are there.
use Rattle.std.specs.Prelude.{◌≡◌, ℕ, Option, None, Some, Result, Ok, Err, IfOk, refl}
use Rattle.std.specs.FinMap as map
use Rattle.std.specs.FinMap.{FinMap}
use Rattle.std.specs.Option.{option_and_then, option_map}
use Rattle.std.proofs.Common.{subst}
use Rattle.std.proofs.Math.Logic.{∥∥₁_map, ∥∥₁_elim}
use Rattle.fs_path.specs.Path.{PathValue}
use Rattle.kern_model.specs.declared.checks.Place.{Place}
use Rattle.kern_model.specs.declared.numbers.Did.{Did}
use Rattle.kern_model.specs.declared.numbers.Oid.{Oid}
use Rattle.kern_model.specs.declared.numbers.Pid.{Pid}
use Rattle.kern_model.specs.declared.objects.Object.{Object}
use Rattle.kern_model.specs.Descriptors.{Opened, open_description}
use Rattle.kern_model.specs.Keys.{oid_cmp}
use Rattle.kern_model.specs.State.{State, Process, Description}
use Rattle.kern_model.specs.Valid.{IsThere, IsValid}
use Rattle.kern_model.specs.Walk.{start_of}
use Rattle.kern_model.proofs.MapLemmas.{never_some, some_same}
use Rattle.chk_rules.specs.declared.stop.Stop.{Stop}
use Rattle.sys_lookup.specs.Walks.{IsLedTo}
use Rattle.sys_lookup.proofs.LedLemmas.{led_there}

-- what is known to be there is there, also where the proof gives nothing else
there_where : (objects : FinMap oid_cmp Object) (id : Oid) → ∥ IsThere objects id ∥₁ → IsThere objects id
there_where objects id known =
    elim (map.get objects id) as (λ w. map.get objects id ≡ w → IsThere objects id) [
      | None ↦ λ e. absurd (∥∥₁_elim known (λ a b. absurd a) (λ t. never_some (map.get objects id) t.value e t.is))
      | Some o ↦ λ e. record { value = o; is = e }
    ] refl

-- ---- by a path

-- what a path leads to is there
pub path_there : (s : State) → ∥ IsValid s ∥₁ → (who : Pid) (p : Process) → map.get s.procs who ≡ Some p → (path : PathValue) (r : Result (Oid × Place) Stop) → IfOk r (λ x. IsLedTo s (start_of p path) x.0) → IfOk r (λ x. IsThere s.objects x.0)
path_there s valid who p living path (Ok x) led = there_where s.objects x.0 (∥∥₁_map valid (λ v. led_there s v who p living path x.0 led))
path_there s valid who p living path (Err how) led = tt

-- ---- by a descriptor

described_by : (s : State) (did : Did) (f : Opened) → option_map (λ d. record { did = did; description = d }) (map.get s.descriptions did) ≡ Some f → map.get s.descriptions f.did ≡ Some f.description
described_by s did f is =
    elim (map.get s.descriptions did) as (λ (w : Option Description). map.get s.descriptions did ≡ w → option_map (λ d. record { did = did; description = d }) w ≡ Some f → map.get s.descriptions f.did ≡ Some f.description) [
      | None ↦ λ e none. absurd (never_some {X = Opened} None f refl none)
      | Some d ↦ λ e some. let same : record { did = did; description = d } ≡ f = some_same _ _ some in subst (λ (x : Opened). map.get s.descriptions x.did ≡ Some x.description) same e
    ] refl is

-- what an open descriptor refers to is a description of the state
described_there : (s : State) (p : Process) (fd : ℕ) (f : Opened) → open_description s p fd ≡ Some f → map.get s.descriptions f.did ≡ Some f.description
unfolding open_description
described_there s p fd f is =
    elim (map.get p.fds fd) as (λ (w : Option Did). option_and_then (λ did. option_map (λ d. record { did = did; description = d }) (map.get s.descriptions did)) w ≡ Some f → map.get s.descriptions f.did ≡ Some f.description) [
      | None ↦ λ none. absurd (never_some {X = Opened} None f refl none)
      | Some did ↦ λ some. described_by s did f some
    ] is

-- the object that an open descriptor refers to is there
pub descriptor_there : (s : State) → ∥ IsValid s ∥₁ → (p : Process) (fd : ℕ) (f : Opened) → open_description s p fd ≡ Some f → IsThere s.objects f.description.object
descriptor_there s valid p fd f is =
    there_where s.objects f.description.object (∥∥₁_map valid (λ v.
    let d = v.descriptions f.did f.description (described_there s p fd f is) in
    record { value = d.object; is = d.object_is }))
