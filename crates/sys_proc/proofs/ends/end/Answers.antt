use Rattle.std.proofs.Common.{sym, subst}
use Rattle.std.specs.FinMap as map
use Rattle.kern_model.specs.ProcessRows.{kill_with}
use Rattle.kern_model.specs.State.{State}
use Rattle.kern_model.specs.Valid.{IsValid}
use Rattle.fd_table.specs.Files.{OpenFiles}
use Rattle.proc_table.specs.Procs.{ProcTable}
use Rattle.sys_lookup.specs.Owners.{HasOwners}
use Rattle.sys_proc.proofs.EndLemmas.{owners_ended, plays_end}
use Rattle.sys_proc.proofs.StandLemmas.{in_procs, stands_plays}
use Rattle.sys_proc.proofs.ends.end.Goals as goal

pub finish-requires : goal.finish-requires
finish-requires c = in_procs c.shared.inside c.args.shared.now c.shared.view_is c.args.who.now c.requires.living

pub invariant_of-shared : goal.invariant_of-shared
invariant_of-shared c =
    let h = c.shared.inside in
    let who = c.args.who.now in
    let q = in_procs h c.args.shared.now c.shared.view_is who c.requires.living in
    subst (λ (t : OpenFiles). ∥ HasOwners c.finish.new.self.procs t.processes ∥₁) (sym c.drop_process.ensures.left)
    (subst (λ (t : ProcTable). ∥ HasOwners t.procs (map.remove h.fds.processes who) ∥₁) (sym (c.finish.ensures q.value q.is)) (owners_ended h.procs.procs h.fds.processes who q.value c.args.ending c.shared.invariant))

pub returns : goal.returns
returns c = λ log.
    let h = c.shared.inside in
    let who = c.args.who.now in
    let valid = subst (λ (x : State). ∥ IsValid x ∥₁) (sym c.shared.view_is) c.requires.valid in
    let rest = c.drop_process.ensures.rest in
    stands_plays h c.args.shared.now c.shared.view_is who c.requires.living (λ x p. kill_with x who p c.args.ending) (λ q is.
    plays_end h c.shared.invariant valid log who q c.args.ending c.finish.new.self c.drop_process.new.self
    (c.finish.ensures q is) c.drop_process.ensures.left c.drop_process.ensures.drained rest.1 rest.0)
