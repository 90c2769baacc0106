use Rattle.std.proofs.Common.{◌≡◌, ap, sym, refl, subst, ◌∷◌, [], ℤ, unsigned_abs, rules, w64, to_z, of_z, IsSome, Ok, Err}
use Rattle.std.proofs.lemmas.Int.{to_z-of_z}
use Rattle.kern_model.specs.declared.calls.Answer.TheVariants as answer
use Rattle.kern_model.specs.declared.calls.Errno.TheVariants.{EINVAL}
use Rattle.kern_model.specs.FileRows.{offset_change, moves}
use Rattle.kern_model.specs.State.{State}
use Rattle.chk_rules.specs.declared.stop.Stop.TheVariants as stop
use Rattle.fd_table.specs.Files.{is_past}
use Rattle.fd_table.specs.Fds.{AllFds}
use Rattle.sys_lookup.specs.Owners.{HasOwners}
use Rattle.sys_lookup.specs.PlaysRow.{PlaysRow}
use Rattle.sys_lookup.specs.Shared.{state_of, with_fds}
use Rattle.sys_lookup.proofs.FdChanges.{with_files}
use Rattle.sys_lookup.proofs.PlayLemmas.{commits_as, refuse_plays, refuse_stops_row}
use Rattle.sys_lookup.proofs.RefuseLemmas.{lets_on, refuses}
use Rattle.sys_file.proofs.BranchLemmas.{answering, no_error, no_value, plays_result}
use Rattle.sys_file.proofs.ReferLemmas.{referred}
use Rattle.sys_file.proofs.descriptors.move_to.Goals.{in-Ok, in-Err}
use Rattle.sys_file.proofs.descriptors.move_to.Goals as goal

pub returns : goal.returns
returns c = λ f log is.
    let h = c.shared.inside in
    let s = state_of h in
    let at = referred h c.shared.view_is c.args.who.now c.args.fd f is in
    let some = subst IsSome (sym at.did) refl in
    let same : to_z w64 (of_z w64 c.args.to) ≡ c.args.to = to_z-of_z w64 c.args.to (search rules) in
    let z : ℤ = to_z w64 (of_z w64 c.args.to) in
    let t = with_files s h.procs.procs c.seek.new.self in
    let r = c.match-seek.result in
    subst (λ (x : State). PlaysRow x log (moves f c.args.to c.args.size) r t log) c.shared.view_is
    (subst (λ y. PlaysRow s log (moves f y c.args.size) r t log) same
    (elim c.match-seek.branch [
      | in-Ok w ↦
          let within = no_error (is_past z c.args.size) (w.in-Ok.ensures.past_end some) refl in
          let set : Ok w.in-Ok.offset ≡ Ok (unsigned_abs z) = w.in-Ok.ensures.offset some within in
          let offset : w.in-Ok.offset ≡ unsigned_abs z = cc in
          let new = w.in-Ok.ensures.moved f.did f.description at.did at.description in
          plays_result w.result-is
          (refuse_plays (lets_on within)
          (commits_as {changes = offset_change f (unsigned_abs z) ∷ []} (answering w.answers.ensures (ap answer.Number offset))
          (λ i. record s { procs = with_fds h.procs.procs (new i).processes; descriptions = (new i).descriptions; description_numbers = (new i).numbers })))
      | in-Err w ↦
          let past = no_value (is_past z c.args.size) (w.in-Err.ensures.offset some) refl in
          let kept = w.in-Err.ensures.err in
          plays_result w.result-is
          (refuse_stops_row (Err (stop.Refused EINVAL)) refl (λ i. record s { procs = with_fds h.procs.procs (kept i).processes; descriptions = (kept i).descriptions; description_numbers = (kept i).numbers }) (refuses past))
    ]))

pub invariant_of-shared : goal.invariant_of-shared
invariant_of-shared c = subst (λ (rows : AllFds). ∥ HasOwners c.shared.inside.procs.procs rows ∥₁) (sym c.seek.ensures.processes) c.shared.invariant
