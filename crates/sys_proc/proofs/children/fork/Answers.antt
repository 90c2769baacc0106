use Rattle.std.proofs.Common.{◌≡◌, ◌∙◌, ap, refl, subst, sym, nat_le, true, false, Result, Ok, Err}
use Rattle.std.specs.FinMap as map
use Rattle.std.proofs.lemmas.Bool.{le-leb, leb-true}
use Rattle.kern_model.specs.declared.limits.TheConstants.{MAX_PROCS}
use Rattle.kern_model.specs.declared.numbers.Pid.{Pid}
use Rattle.kern_model.specs.ProcessRows.{child_of, fork_row}
use Rattle.kern_model.specs.State.{State, last_drawn}
use Rattle.kern_model.specs.Valid.{IsThere, IsValid}
use Rattle.kern_model.proofs.KeyLaws.{pid_cmp_total}
use Rattle.kern_model.proofs.MapLemmas.{get-insert_same}
use Rattle.chk_rules.specs.declared.stop.Stop.TheVariants as stop
use Rattle.fd_table.specs.Files.{OpenFiles, with_fds_of}
use Rattle.fd_table.specs.Fds.{fds_of}
use Rattle.proc_table.specs.declared.procs.ProcError.{ProcError}
use Rattle.proc_table.specs.declared.procs.ProcError.TheVariants.{Full}
use Rattle.proc_table.specs.Procs.{ProcTable, next_in, with_new}
use Rattle.sys_lookup.specs.Owners.{HasOwners}
use Rattle.sys_lookup.proofs.OwnerLemmas.{owners_process, owners_row}
use Rattle.sys_lookup.proofs.PlayLemmas.{no_memory_row}
use Rattle.sys_proc.proofs.ChildLemmas.{forks, left_either, new_row, refuses_child}
use Rattle.sys_proc.proofs.StandLemmas.{in_procs, stands_plays}
use Rattle.sys_proc.proofs.children.fork.Goals.{After-copy_process, After-fork}
use Rattle.sys_proc.proofs.children.fork.Goals as goal

pub fork-requires : goal.fork-requires
fork-requires c = in_procs c.shared.inside c.args.shared.now c.shared.view_is c.args.who.now c.requires.living

-- whether or not a child was added, each descriptor has its process
owners_after : (c : After-fork) → ∥ HasOwners c.fork.new.self.procs c.shared.inside.fds.processes ∥₁
owners_after c =
    let h = c.shared.inside in
    let q = in_procs h c.args.shared.now c.shared.view_is c.args.who.now c.requires.living in
    let child = child_of c.args.who.now q.value in
    left_either (λ (t : ProcTable). ∥ HasOwners t.procs h.fds.processes ∥₁) c.fork.result (with_new h.procs child) h.procs c.fork.new.self (c.fork.ensures.made q.value q.is) c.fork.ensures.err
    (owners_process h.procs.procs h.fds.processes (next_in h.procs q.value.label) child c.shared.invariant) c.shared.invariant

pub invariant_of-shared : goal.invariant_of-shared
invariant_of-shared c = owners_after c.before

pub invariant_of-shared-in-Err-NoMemory : goal.invariant_of-shared-in-Err-NoMemory
invariant_of-shared-in-Err-NoMemory c = owners_after c.before

pub returns-in-Err-Full : goal.returns-in-Err-Full
returns-in-Err-Full c = λ log.
    let h = c.shared.inside in
    let who = c.args.who.now in
    stands_plays h c.args.shared.now c.shared.view_is who c.requires.living (λ x. fork_row x who) (λ q is.
    let full : nat_le MAX_PROCS (last_drawn h.procs.numbers q.label) ≡ true = le-leb _ _ ((c.in-Err-Full.ensures.full q is).0 (ap (λ (e : ProcError). Err e) c.in-Err-Full.field-0-is)) in
    refuses_child h log who q c.fork.new.self full c.in-Err-Full.ensures.err)

pub returns-in-Err-NoMemory : goal.returns-in-Err-NoMemory
returns-in-Err-NoMemory c = λ log. no_memory_row (Err (stop.NoMemory c.in-Err-NoMemory.e)) refl

pub copy_process-requires : goal.copy_process-requires
copy_process-requires c =
    let h = c.shared.inside in
    let q = in_procs h c.args.shared.now c.shared.view_is c.args.who.now c.requires.living in
    let valid = subst (λ (x : State). ∥ IsValid x ∥₁) (sym c.shared.view_is) c.requires.valid in
    ap (map.get h.fds.processes) (c.in-Ok.ensures.who q.value q.is) ∙ new_row h c.shared.invariant valid q.value.label

-- whether or not its descriptors were added, each descriptor has its process
owners_last : (c : After-copy_process) → ∥ HasOwners c.fork.new.self.procs c.copy_process.new.self.processes ∥₁
owners_last c =
    let h = c.shared.inside in
    let who = c.args.who.now in
    let q = in_procs h c.args.shared.now c.shared.view_is who c.requires.living in
    let made = c.in-Ok.ensures.made q.value q.is in
    let next = next_in h.procs q.value.label in
    let there : IsThere c.fork.new.self.procs c.in-Ok.child = record {
      value = child_of who q.value;
      is = ap (λ (t : ProcTable). map.get t.procs c.in-Ok.child) made ∙ ap (map.get (map.insert h.procs.procs next (child_of who q.value))) (c.in-Ok.ensures.who q.value q.is) ∙ get-insert_same pid_cmp_total h.procs.procs next (child_of who q.value);
    } in
    let procs = c.fork.new.self.procs in
    let row = fds_of h.fds.processes who in
    let known : ∥ HasOwners procs h.fds.processes ∥₁ = subst (λ (t : ProcTable). ∥ HasOwners t.procs h.fds.processes ∥₁) (sym made) (owners_process h.procs.procs h.fds.processes next (child_of who q.value) c.shared.invariant) in
    left_either (λ (t : OpenFiles). ∥ HasOwners procs t.processes ∥₁) c.copy_process.result (with_fds_of h.fds c.in-Ok.child row) h.fds c.copy_process.new.self c.copy_process.ensures.ok c.copy_process.ensures.err
    (owners_row procs h.fds.processes c.in-Ok.child row there known) known

pub invariant_of-shared-in_err-copy_process : goal.invariant_of-shared-in_err-copy_process
invariant_of-shared-in_err-copy_process c = owners_last c.before.before.before

pub invariant_of-shared-2 : goal.invariant_of-shared-2
invariant_of-shared-2 c = owners_last c.before.before.before

pub returns-in_err-copy_process : goal.returns-in_err-copy_process
returns-in_err-copy_process c = λ log. no_memory_row c.from_residual.result c.from_residual.ensures.1

pub returns : goal.returns
returns c = λ log.
    let h = c.shared.inside in
    let who = c.args.who.now in
    let child : Pid = c.in-Ok.child in
    stands_plays h c.args.shared.now c.shared.view_is who c.requires.living (λ x. fork_row x who) (λ q is.
    let full = c.in-Ok.ensures.full q is in
    let left : nat_le MAX_PROCS (last_drawn h.procs.numbers q.label) ≡ false =
    elim (nat_le MAX_PROCS (last_drawn h.procs.numbers q.label)) as (λ b. nat_le MAX_PROCS (last_drawn h.procs.numbers q.label) ≡ b → b ≡ false) [
      | true ↦ λ t. let no : ◌≡◌ {A = Result Pid ProcError} (Ok child) (Err Full) = full.1 (leb-true _ _ t) in absurd cc
      | false ↦ λ _. refl
    ] refl in
    forks h log who q child c.fork.new.self c.copy_process.new.self left (c.in-Ok.ensures.who q is) (c.in-Ok.ensures.made q is) c.in_ok-copy_process.ensures.ok)
