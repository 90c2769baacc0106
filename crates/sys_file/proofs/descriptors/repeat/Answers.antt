use Rattle.std.proofs.Common.{◌≡◌, ◌∙◌, ap, sym, refl, subst, ◌+◌, ◌∷◌, [], nat_le, not, Ok, Err, IsSome}
use Rattle.kern_model.specs.declared.calls.Answer.TheVariants as answer
use Rattle.kern_model.specs.declared.calls.Errno.TheVariants.{EMFILE}
use Rattle.kern_model.specs.declared.limits.TheConstants.{MAX_DESCRIPTORS}
use Rattle.kern_model.specs.Descriptors.{lowest_free, with_descriptor}
use Rattle.kern_model.specs.FileRows.{repeat}
use Rattle.kern_model.specs.State.{State, Process, SetProcess, process_at}
use Rattle.chk_rules.specs.declared.stop.Stop.TheVariants as stop
use Rattle.fd_table.specs.Files.{OpenFiles, with_lowest}
use Rattle.fd_table.specs.Fds.{fd_count, fds_of}
use Rattle.fd_table.proofs.Counting.{either_way}
use Rattle.sys_lookup.specs.Owners.{HasOwners}
use Rattle.sys_lookup.specs.PlaysRow.{PlaysRow}
use Rattle.sys_lookup.specs.Shared.{process_with_fds, state_of, with_fds}
use Rattle.sys_lookup.proofs.FdChanges.{with_fds-row, with_files}
use Rattle.sys_lookup.proofs.OwnerLemmas.{owners_row}
use Rattle.sys_lookup.proofs.PlayLemmas.{commits_as, refuse_plays, refuse_stops_row}
use Rattle.sys_lookup.proofs.RefuseLemmas.{lets_on, refuses}
use Rattle.sys_file.proofs.BranchLemmas.{answering, not_error, not_value, plays_result}
use Rattle.sys_file.proofs.ReferLemmas.{holds, none_is_free, one_is_free, opener, referred}
use Rattle.sys_file.proofs.descriptors.repeat.Goals.{in-Ok, in-Err}
use Rattle.sys_file.proofs.descriptors.repeat.Goals as goal

pub returns-clause-played : goal.returns-clause-played
returns-clause-played c = λ f log is.
    let h = c.shared.inside in
    let s = state_of h in
    let who = c.args.who.now in
    let stands = opener h c.shared.view_is who c.args.fd f is in
    let q = process_with_fds h.fds.processes who stands.process in
    let at = referred h c.shared.view_is who c.args.fd f is in
    let some = subst IsSome (sym at.did) refl in
    let n = fd_count (fds_of h.fds.processes who) in
    let t = with_files s h.procs.procs c.dup.new.self in
    let r = c.match-dup.result in
    subst (λ (x : State). PlaysRow x log (repeat who (process_at c.args.shared.now who) f) r t log) c.shared.view_is
    (subst (λ (x : Process). PlaysRow s log (repeat who x f) r t log) stands.same
    (elim c.match-dup.branch [
      | in-Ok w ↦
          let free = not_error (nat_le (n + 1) MAX_DESCRIPTORS) (λ none. w.in-Ok.ensures.too_many some (none_is_free n none)) refl in
          let same : Ok w.in-Ok.lowest ≡ Ok (lowest_free q.fds) = w.in-Ok.ensures.fd some (one_is_free n free) in
          let lowest : w.in-Ok.lowest ≡ lowest_free q.fds = cc in
          let new = w.in-Ok.ensures.made f.did at.did in
          plays_result w.result-is
          (refuse_plays (lets_on (ap not free))
          (commits_as {changes = SetProcess who (with_descriptor q f.did) ∷ []} (answering w.answers.ensures (ap answer.Number lowest))
          ((λ i. record s { procs = with_fds h.procs.procs (new i).processes; descriptions = (new i).descriptions; description_numbers = (new i).numbers })
          ∙ (λ i. record s { procs = with_fds-row h.procs.procs h.fds.processes who stands.process (with_lowest (fds_of h.fds.processes who) f.did) stands.is i }))))
      | in-Err w ↦
          let full = not_value (nat_le (n + 1) MAX_DESCRIPTORS) (λ free. w.in-Err.ensures.fd some (one_is_free n free)) refl in
          let kept = w.in-Err.ensures.err in
          plays_result w.result-is
          (refuse_stops_row (Err (stop.Refused EMFILE)) refl (λ i. record s { procs = with_fds h.procs.procs (kept i).processes; descriptions = (kept i).descriptions; description_numbers = (kept i).numbers }) (refuses (ap not full)))
    ]))

pub invariant_of-shared : goal.invariant_of-shared
invariant_of-shared c =
    let h = c.shared.inside in
    let who = c.args.who.now in
    let w = holds _ c.requires in
    let stands = opener h c.shared.view_is who c.args.fd w.value w.is in
    let at = referred h c.shared.view_is who c.args.fd w.value w.is in
    let made = c.dup.ensures.made w.value.did at.did in
    either_way c.dup.result
    (λ new _. subst (λ (t : OpenFiles). ∥ HasOwners h.procs.procs t.processes ∥₁) (sym new) (owners_row h.procs.procs h.fds.processes who (with_lowest (fds_of h.fds.processes who) w.value.did) (record { value = stands.process; is = stands.is }) c.shared.invariant))
    (λ same. subst (λ (t : OpenFiles). ∥ HasOwners h.procs.procs t.processes ∥₁) (sym same) c.shared.invariant)
    made made c.dup.ensures.err
