use Rattle.std.proofs.Common.{◌∙◌, ap, sym, drop, Err}
use Rattle.kern_model.specs.ProcessRows.{wait_row}
use Rattle.proc_table.specs.declared.procs.ReapError.{ReapError}
use Rattle.proc_table.specs.Procs.{ProcTable, with_process}
use Rattle.sys_lookup.specs.Owners.{HasOwners}
use Rattle.sys_lookup.proofs.OwnerLemmas.{owners_process}
use Rattle.sys_proc.proofs.ChildLemmas.{left_either, waits_for_none, waits_taking, waits_without}
use Rattle.sys_proc.proofs.StandLemmas.{in_procs, stands_plays}
use Rattle.sys_proc.proofs.children.wait.Goals.{in-Ok, in-Err-NoChild, in-Err-NoneEnded}
use Rattle.sys_proc.proofs.children.wait.Goals as goal

pub reap-requires : goal.reap-requires
reap-requires c = in_procs c.shared.inside c.args.shared.now c.shared.view_is c.args.who.now c.requires

pub invariant_of-shared : goal.invariant_of-shared
invariant_of-shared c =
    let h = c.shared.inside in
    let who = c.args.who.now in
    let q = in_procs h c.args.shared.now c.shared.view_is who c.requires in
    let rest = record q.value { ended = drop 1 q.value.ended } in
    left_either (λ (t : ProcTable). ∥ HasOwners t.procs h.fds.processes ∥₁) c.reap.result (with_process h.procs who rest) h.procs c.reap.new.self (c.reap.ensures.taken q.value q.is) c.reap.ensures.err
    (owners_process h.procs.procs h.fds.processes who rest c.shared.invariant) c.shared.invariant

pub returns-clause-played : goal.returns-clause-played
returns-clause-played c = λ log.
    let h = c.shared.inside in
    let who = c.args.who.now in
    let r = c.match-reap.result in
    let procs = c.reap.new.self in
    stands_plays h c.args.shared.now c.shared.view_is who c.requires (λ x. wait_row x who) (λ q is.
    elim c.match-reap.branch [
      | in-Ok w ↦
          waits_taking h log who q procs r (w.in-Ok.child, w.in-Ok.ending) w.answers.result w.result-is w.answers.ensures (w.in-Ok.ensures.answer q is) (w.in-Ok.ensures.taken q is)
      | in-Err-NoChild w ↦
          let reaps = sym (ap (λ (e : ReapError). Err e) w.in-Err-NoChild.field-0-is) ∙ w.in-Err-NoChild.ensures.answer q is in
          waits_without h log who q procs r w.result-is reaps w.in-Err-NoChild.ensures.err
      | in-Err-NoneEnded w ↦
          let reaps = sym (ap (λ (e : ReapError). Err e) w.in-Err-NoneEnded.field-0-is) ∙ w.in-Err-NoneEnded.ensures.answer q is in
          waits_for_none h log who q procs r w.result-is reaps w.in-Err-NoneEnded.ensures.err
    ])
