use Rattle.std.proofs.Common.{◌∙◌, ap, subst, sym}
use Rattle.std.specs.FinMap as map
use Rattle.kern_model.specs.State.{State, SetProcess, apply_change}
use Rattle.kern_model.proofs.StateLemmas.{process_there}
use Rattle.proc_table.specs.Procs.{ProcTable}
use Rattle.sys_lookup.specs.Owners.{HasOwners}
use Rattle.sys_lookup.specs.Shared.{with_fds, state_of}
use Rattle.sys_lookup.proofs.FdLemmas.{stands_in, with_fds-process}
use Rattle.sys_lookup.proofs.OwnerLemmas.{owners_process}
use Rattle.kern_core.proofs.calls.auditing.switch.Goals as goal

pub set_audited-requires : goal.set_audited-requires
set_audited-requires c =
    let h = c.shared.inside in
    let there = ap (λ (s : State). map.get s.procs c.args.who.now) c.shared.view_is ∙ process_there c.args.shared.now c.args.who.now c.requires in
    let q = stands_in h.procs.procs h.fds.processes c.args.who.now _ there in
    record { value = q.process; is = q.is }

pub returns : goal.returns
returns c =
    let h = c.shared.inside in
    let on = c.args.on in
    let there = ap (λ (s : State). map.get s.procs c.args.who.now) c.shared.view_is ∙ process_there c.args.shared.now c.args.who.now c.requires in
    let q = stands_in h.procs.procs h.fds.processes c.args.who.now _ there in
    let set = c.set_audited.ensures q.process q.is in
    (λ i. record (state_of h) { procs = with_fds (set i).procs h.fds.processes; process_numbers = (set i).numbers })
    ∙ (λ i. record (state_of h) { procs = with_fds-process h.procs.procs h.fds.processes c.args.who.now (record (q.process) { audited = on }) i })
    ∙ (λ i. apply_change (c.shared.view_is i) (SetProcess c.args.who.now (record (q.same i) { audited = on })))

pub invariant_of-shared : goal.invariant_of-shared
invariant_of-shared c =
    let h = c.shared.inside in
    let there = ap (λ (s : State). map.get s.procs c.args.who.now) c.shared.view_is ∙ process_there c.args.shared.now c.args.who.now c.requires in
    let q = stands_in h.procs.procs h.fds.processes c.args.who.now _ there in
    subst (λ (t : ProcTable). ∥ HasOwners t.procs h.fds.processes ∥₁) (sym (c.set_audited.ensures q.process q.is)) (owners_process h.procs.procs h.fds.processes c.args.who.now (record (q.process) { audited = c.args.on }) c.shared.invariant)
