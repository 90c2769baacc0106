-- Each process that has a row of descriptors stays living.
use Rattle.std.specs.Prelude.{◌≡◌, ℕ, true, false, None, Some, cond, refl}
use Rattle.std.specs.Ordering.{eq_by_cmp, nat_cmp}
use Rattle.std.specs.FinMap as map
use Rattle.std.specs.FinMap.{FinMap, get-insert}
use Rattle.std.proofs.Common.{ap, sym, ◌∙◌, subst}
use Rattle.std.proofs.Math.Logic.{∥∥₁_map, ∥∥₁_elim}
use Rattle.kern_model.specs.declared.numbers.Did.{Did}
use Rattle.kern_model.specs.declared.numbers.Pid.{Pid}
use Rattle.kern_model.specs.Keys.{pid_cmp}
use Rattle.kern_model.specs.State.{Process}
use Rattle.kern_model.specs.Valid.{IsThere}
use Rattle.kern_model.proofs.KeyLaws.{pid_cmp_total, pid_cmp_exact}
use Rattle.kern_model.proofs.MapLemmas.{get-insert_same, get_or-absent, never_some, same_key}
use Rattle.proc_creds.specs.Credentials.{Credentials}
use Rattle.proc_table.specs.Procs.{set_creds, under_creds, with_creds}
use Rattle.fd_table.specs.Fds.{AllFds, Fds, fds_of}
use Rattle.sys_lookup.specs.Owners.{HasOwners}

-- ---- what is known of owners can be used

there_known : (procs : FinMap pid_cmp Process) (q : Pid) → ∥ IsThere procs q ∥₁ → IsThere procs q
there_known procs q known = elim (map.get procs q) as (λ w. map.get procs q ≡ w → IsThere procs q) [
  | None ↦ λ e. absurd (∥∥₁_elim known (λ a b. absurd a) (λ t. never_some (map.get procs q) t.value e t.is))
  | Some p ↦ λ e. record { value = p; is = e }
] refl

pub owners_known : (procs : FinMap pid_cmp Process) (rows : AllFds) → ∥ HasOwners procs rows ∥₁ → HasOwners procs rows
owners_known procs rows known q has = there_known procs q (∥∥₁_map known (λ owners. owners q has))

-- a process with a descriptor has a row
has_row : (rows : AllFds) (q : Pid) (fd : ℕ) (did : Did) → map.get (fds_of rows q) fd ≡ Some did → IsThere rows q
has_row rows q fd did at = elim (map.get rows q) as (λ w. map.get rows q ≡ w → IsThere rows q) [
  | None ↦ λ e. absurd (never_some (map.get (fds_of rows q) fd) did (ap (λ (f : Fds). map.get f fd) (get_or-absent rows q map.empty e) ∙ map.get-empty {X = Did} nat_cmp fd) at)
  | Some f ↦ λ e. record { value = f; is = e }
] refl

-- so it is living
pub owner_of : (procs : FinMap pid_cmp Process) (rows : AllFds) → ∥ HasOwners procs rows ∥₁
    → (q : Pid) (fd : ℕ) (did : Did) → map.get (fds_of rows q) fd ≡ Some did → IsThere procs q
owner_of procs rows known q fd did at = owners_known procs rows known q (has_row rows q fd did at)

-- and what is not living has no descriptor
pub no_owner : (procs : FinMap pid_cmp Process) (rows : AllFds) → ∥ HasOwners procs rows ∥₁ → (q : Pid) → map.get procs q ≡ None → fds_of rows q ≡ map.empty
no_owner procs rows known q absent = elim (map.get rows q) as (λ w. map.get rows q ≡ w → fds_of rows q ≡ map.empty) [
  | None ↦ λ e. get_or-absent rows q map.empty e
  | Some f ↦ λ e. let owner = owners_known procs rows known q (record { value = f; is = e }) in absurd (never_some (map.get procs q) owner.value absent owner.is)
] refl

-- ---- a process changes

there_after : (procs : FinMap pid_cmp Process) (who : Pid) (p : Process) (q : Pid) → IsThere procs q → IsThere (map.insert procs who p) q
there_after procs who p q there = elim (eq_by_cmp pid_cmp q who) as (λ b. eq_by_cmp pid_cmp q who ≡ b → IsThere (map.insert procs who p) q) [
  | true ↦ λ t. record { value = p; is = ap (map.get (map.insert procs who p)) (same_key pid_cmp_exact q who t) ∙ get-insert_same pid_cmp_total procs who p }
  | false ↦ λ t. record { value = there.value; is = get-insert pid_cmp_total procs who p q ∙ ap (λ b. cond b (Some p) (map.get procs q)) t ∙ there.is }
] refl

-- a process is set
pub owners_process : (procs : FinMap pid_cmp Process) (rows : AllFds) (who : Pid) (p : Process)
    → ∥ HasOwners procs rows ∥₁ → ∥ HasOwners (map.insert procs who p) rows ∥₁
owners_process procs rows who p known = ∥∥₁_map known (λ owners q has. there_after procs who p q (owners q has))

-- a process gets other credentials
pub owners_creds : (procs : FinMap pid_cmp Process) (rows : AllFds) (who : Pid) (c : Credentials)
    → ∥ HasOwners procs rows ∥₁ → ∥ HasOwners (under_creds procs who c) rows ∥₁
owners_creds procs rows who c known = elim (map.get procs who) as (λ w. ∥ HasOwners (set_creds procs who c w) rows ∥₁) [
  | None ↦ known
  | Some p ↦ owners_process procs rows who (with_creds p c) known
]

-- ---- rows change

-- only the row of a living process changes
pub owners_others : (procs : FinMap pid_cmp Process) (rows more : AllFds) (who : Pid)
    → IsThere procs who → ((q : Pid) → eq_by_cmp pid_cmp q who ≡ false → map.get more q ≡ map.get rows q)
    → ∥ HasOwners procs rows ∥₁ → ∥ HasOwners procs more ∥₁
owners_others procs rows more who there others known = ∥∥₁_map known (λ owners q has.
    elim (eq_by_cmp pid_cmp q who) as (λ b. eq_by_cmp pid_cmp q who ≡ b → IsThere procs q) [
      | true ↦ λ t. subst (IsThere procs) (sym (same_key pid_cmp_exact q who t)) there
      | false ↦ λ t. owners q (record { value = has.value; is = sym (others q t) ∙ has.is })
    ] refl)

-- the row of a living process is set
pub owners_row : (procs : FinMap pid_cmp Process) (rows : AllFds) (who : Pid) (fds : Fds)
    → IsThere procs who → ∥ HasOwners procs rows ∥₁ → ∥ HasOwners procs (map.insert rows who fds) ∥₁
owners_row procs rows who fds there known = owners_others procs rows (map.insert rows who fds) who there
    (λ q t. get-insert pid_cmp_total rows who fds q ∙ ap (λ b. cond b (Some fds) (map.get rows q)) t) known

-- there is no row
pub owners_none : (procs : FinMap pid_cmp Process) (rows : AllFds) → rows ≡ map.empty → ∥ HasOwners procs rows ∥₁
owners_none procs rows none = ∣ (λ q has. absurd (never_some (map.get rows q) has.value (ap (λ (r : AllFds). map.get r q) none ∙ map.get-empty {X = Fds} pid_cmp q) has.is)) ∣₁
