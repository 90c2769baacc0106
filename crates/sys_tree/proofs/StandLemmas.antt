-- A living process gets another current directory.
use Rattle.std.specs.Prelude.{◌≡◌, IsSome}
use Rattle.std.specs.FinMap as map
use Rattle.std.proofs.Common.{ap, ◌∙◌, subst, sym}
use Rattle.kern_model.specs.declared.numbers.Oid.{Oid}
use Rattle.kern_model.specs.declared.numbers.Pid.{Pid}
use Rattle.kern_model.specs.State.{State, SetProcess, apply_change, process_at}
use Rattle.kern_model.proofs.StateLemmas.{process_there}
use Rattle.proc_table.specs.Procs.{ProcTable, with_process}
use Rattle.sys_lookup.specs.Owners.{HasOwners}
use Rattle.sys_lookup.specs.Shared.{state_of, with_fds}
use Rattle.sys_lookup.specs.declared.shared.Shared.TheInside.{Inside}
use Rattle.sys_lookup.proofs.FdLemmas.{StandsIn, stands_in, with_fds-process}
use Rattle.sys_lookup.proofs.OwnerLemmas.{owners_process}

module _ (h : Inside) {s : State} (is : state_of h ≡ s) (who : Pid) (living : IsSome (map.get s.procs who)) where
  -- it stands in the table
  pub stands : StandsIn h.procs.procs h.fds.processes who (process_at s who)
  stands = stands_in h.procs.procs h.fds.processes who (process_at s who) (ap (λ (x : State). map.get x.procs who) is ∙ process_there s who living)

  module _ (dir : Oid) {t : ProcTable} (set : t ≡ with_process h.procs who (record stands.process { cwd = dir })) where
    -- in the state it gets the directory that it gets in the table
    pub cwd_set : state_of (record h { procs = t }) ≡ apply_change s (SetProcess who (record (process_at s who) { cwd = dir }))
    cwd_set =
        (λ i. record (state_of h) { procs = with_fds (set i).procs h.fds.processes; process_numbers = (set i).numbers })
        ∙ (λ i. record (state_of h) { procs = with_fds-process h.procs.procs h.fds.processes who (record stands.process { cwd = dir }) i })
        ∙ (λ i. apply_change (is i) (SetProcess who (record (stands.same i) { cwd = dir })))

    -- each process that has descriptors stays living
    pub owners_stay : ∥ HasOwners h.procs.procs h.fds.processes ∥₁ → ∥ HasOwners t.procs h.fds.processes ∥₁
    owners_stay owners = subst (λ (x : ProcTable). ∥ HasOwners x.procs h.fds.processes ∥₁) (sym set) (owners_process h.procs.procs h.fds.processes who (record stands.process { cwd = dir }) owners)
