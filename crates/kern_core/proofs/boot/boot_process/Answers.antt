use Rattle.std.proofs.Common.{◌≡◌, ◌∙◌, ap, sym, subst}
use Rattle.std.specs.Result.{OnOk}
use Rattle.std.specs.FinMap as map
use Rattle.kern_model.specs.Boot.{boot_process}
use Rattle.kern_model.specs.State.{State}
use Rattle.proc_table.specs.Procs.{next_in, new_process, with_new}
use Rattle.sys_lookup.specs.Shared.{state_of, with_fds}
use Rattle.sys_lookup.proofs.OwnerLemmas.{no_owner}
use Rattle.sys_lookup.proofs.FdLemmas.{with_fds-process}
use Rattle.kern_core.proofs.BootLemmas.{owners_booted, process_booted}
use Rattle.kern_core.proofs.boot.boot_process.Goals.{Joined-boot, in-Ok, in-Err-NoMemory}
use Rattle.kern_core.proofs.boot.boot_process.Goals as goal

-- the state once the process stands in the table
booted : (c : Joined-boot) → c.boot.new.self ≡ with_new c.shared.inside.procs (new_process c.in_ok-creds_from.field-0 c.root_directory.result) → state_of (record (c.shared.inside) { procs = c.boot.new.self }) ≡ boot_process c.args.shared.now c.args.process.now
booted c made =
    let h = c.shared.inside in
    let s = state_of h in
    let p = new_process c.in_ok-creds_from.field-0 c.root_directory.result in
    let who = next_in h.procs p.label in
    let none = no_owner h.procs.procs h.fds.processes c.shared.invariant who c.boot.ensures.fresh in
    (λ i. record s { procs = with_fds (made i).procs h.fds.processes; process_numbers = (made i).numbers })
    ∙ (λ i. record s {
      procs = with_fds-process h.procs.procs h.fds.processes who p i;
      process_numbers = map.insert h.procs.numbers p.label who.n;
    })
    ∙ (λ i. record s {
      procs = map.insert s.procs who (record p { fds = none i });
      process_numbers = map.insert h.procs.numbers p.label who.n;
    })
    ∙ process_booted s c.args.process.now p (λ i. new_process (c.in_ok-creds_from.ensures i) (c.root_directory.ensures i))
    ∙ ap (λ (t : State). boot_process t c.args.process.now) c.shared.view_is

pub returns-clause-state : goal.returns-clause-state
returns-clause-state c = elim c.match-boot.branch as (λ _. OnOk c.match-boot.result (state_of (record (c.shared.inside) { procs = c.boot.new.self }) ≡ boot_process c.args.shared.now c.args.process.now)) [
  | in-Ok w ↦ subst (λ r. OnOk r (state_of (record (c.shared.inside) { procs = c.boot.new.self }) ≡ boot_process c.args.shared.now c.args.process.now)) (sym w.result-is) (booted c w.in-Ok.ensures.made)
  | in-Err-NoMemory w ↦ subst (λ r. OnOk r (state_of (record (c.shared.inside) { procs = c.boot.new.self }) ≡ boot_process c.args.shared.now c.args.process.now)) (sym w.result-is) tt
]

pub invariant_of-shared-2 : goal.invariant_of-shared-2
invariant_of-shared-2 c =
    let h = c.shared.inside in
    owners_booted c.boot.result h.procs c.boot.new.self h.fds.processes (new_process c.in_ok-creds_from.field-0 c.root_directory.result) c.boot.ensures.made c.boot.ensures.err c.shared.invariant
