-- Descriptors close in a valid state.
use Rattle.std.specs.Prelude.{◌≡◌, ℕ, Bool, true, false, Some, refl}
use Rattle.std.specs.Cmp.{nat_cmp_total}
use Rattle.std.specs.FinMap.{nat_cmp-IsAntisymmetric}
use Rattle.std.specs.Ordering.{is_eq}
use Rattle.std.proofs.Common.{ap, sym, ◌∙◌}
use Rattle.std.proofs.Math.Logic.{∥∥₁_elim, ∥∥₁_map}
use Rattle.std.proofs.lemmas.Bool.{true≢false}
use Rattle.std.proofs.lemmas.Cmp.{tied_itself}
use Rattle.kern_model.specs.declared.numbers.Did.{Did}
use Rattle.kern_model.specs.declared.numbers.Pid.{Pid}
use Rattle.kern_model.specs.Keys.{same_did}
use Rattle.kern_model.specs.Maps.{any_entry}
use Rattle.kern_model.specs.State.{State, Process}
use Rattle.kern_model.specs.Valid.{IsHeld, IsValid}
use Rattle.kern_model.proofs.KeyLaws.{did_cmp_total, did_cmp_exact, pid_cmp_total, pid_cmp_exact}
use Rattle.kern_model.proofs.MapLemmas.{same_key}
use Rattle.kern_model.proofs.Selections.{none_passes, some_passes}
use Rattle.fd_table.proofs.Closing.{Shows}
use Rattle.sys_lookup.specs.declared.shared.Shared.TheInside.{Inside}
use Rattle.sys_lookup.specs.Owners.{HasOwners}
use Rattle.sys_lookup.specs.Shared.{state_of}
use Rattle.sys_lookup.proofs.FdLemmas.{found, stands_in}
use Rattle.sys_lookup.proofs.OwnerLemmas.{owner_of}

module _ (s : State) (did : Did) where
  abbrev refers : ℕ → Did → Bool
  refers fd d = same_did d did

  abbrev holds : Pid → Process → Bool
  holds who p = any_entry refers p.fds

  some_holds : IsHeld s did → any_entry holds s.procs ≡ false → ⊥
  some_holds h none =
      let fails = none_passes nat_cmp_total nat_cmp-IsAntisymmetric refers h.process.fds (none_passes pid_cmp_total pid_cmp_exact holds s.procs none h.who h.process h.process_is) h.fd did h.fd_is in
      absurd (true≢false (sym (ap is_eq (tied_itself did_cmp_total did)) ∙ fails))

  -- a description that is known to be held has a holder that can be looked up
  pub holder : ∥ IsHeld s did ∥₁ → IsHeld s did
  holder known =
      elim (any_entry holds s.procs) as (λ b. any_entry holds s.procs ≡ b → IsHeld s did) [
        | true ↦ λ some.
            let p = some_passes pid_cmp_total pid_cmp_exact holds s.procs some in
            let f = some_passes nat_cmp_total nat_cmp-IsAntisymmetric refers p.value.fds p.passes in
            record {
              who = p.key;
              process = p.value;
              fd = f.key;
              process_is = p.is;
              fd_is = f.is ∙ ap (λ (d : Did). Some d) (same_key did_cmp_exact f.value did f.passes);
            }
        | false ↦ λ none. absurd (∥∥₁_elim known (λ a b. absurd a) (λ h. some_holds h none))
      ] refl

-- the table shows the descriptors of the state
pub table_shows : (h : Inside) → ∥ HasOwners h.procs.procs h.fds.processes ∥₁ → ∥ IsValid (state_of h) ∥₁ → Shows (state_of h) h.fds
table_shows h owners valid =
    let s = state_of h in
    record {
      descriptions = refl;
      fds = λ who p there. let q = stands_in h.procs.procs h.fds.processes who p there in ap (λ (x : Process). x.fds) (sym q.same);
      living = λ who fd did at. let q = owner_of h.procs.procs h.fds.processes owners who fd did at in record { value = _; is = found h.procs.procs h.fds.processes who q.value q.is };
      held = λ did d there. holder s did (∥∥₁_map valid (λ v. (v.descriptions did d there).held));
    }
