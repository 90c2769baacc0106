-- What an open descriptor refers to stands in the table.
use Rattle.std.specs.Prelude.{◌≡◌, ℕ, None, Some, refl}
use Rattle.std.specs.Option.{option_and_then, option_map}
use Rattle.std.specs.FinMap as map
use Rattle.std.proofs.Common.{ap, ◌∙◌, subst}
use Rattle.kern_model.specs.declared.numbers.Pid.{Pid}
use Rattle.kern_model.specs.Descriptors.{Opened}
use Rattle.kern_model.specs.State.{Description}
use Rattle.kern_model.proofs.MapLemmas.{never_some, some_same}
use Rattle.fd_table.specs.Files.{OpenFiles, did_at, opened_at}

-- a descriptor refers to this description
pub record RefersInTables (t : OpenFiles) (who : Pid) (fd : ℕ) (f : Opened) : Type 0 where
  pub did : did_at t who fd ≡ Some f.did
  pub description : map.get t.descriptions f.did ≡ Some f.description

pub refers_to : (t : OpenFiles) (who : Pid) (fd : ℕ) (f : Opened) → opened_at t who fd ≡ Some f → RefersInTables t who fd f
refers_to t who fd f =
    elim (did_at t who fd) as (λ w. did_at t who fd ≡ w → option_and_then (λ did. option_map (λ (d : Description). record { did = did; description = d }) (map.get t.descriptions did)) w ≡ Some f → RefersInTables t who fd f) [
      | None ↦ λ _ h. absurd (never_some None f refl h)
      | Some did ↦ λ at.
          elim (map.get t.descriptions did) as (λ w. map.get t.descriptions did ≡ w → option_map (λ (d : Description). record { did = did; description = d }) w ≡ Some f → RefersInTables t who fd f) [
            | None ↦ λ _ h. absurd (never_some None f refl h)
            | Some d ↦ λ is h.
                let same = some_same _ f h in
                record { did = at ∙ ap (λ (x : Opened). Some x.did) same; description = subst (λ (x : Opened). map.get t.descriptions x.did ≡ Some x.description) same is }
          ] refl
    ] refl
