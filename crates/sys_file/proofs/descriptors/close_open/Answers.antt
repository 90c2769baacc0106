use Rattle.std.proofs.Common.{◌≡◌, ◌∙◌, ap, sym, refl, subst, true, Result, Ok, Err, IsOk, IsSome}
use Rattle.std.specs.Result.{is_err}
use Rattle.std.proofs.lemmas.Bool.{true≢false}
use Rattle.std.specs.FinMap as map
use Rattle.kern_model.specs.FileRows.{closes}
use Rattle.kern_model.specs.State.{State, Process, apply_changes, process_at}
use Rattle.kern_model.specs.Valid.{IsValid}
use Rattle.fd_table.specs.Files.{OpenFiles, objects_after_close, left_with}
use Rattle.fd_table.specs.Fds.{fds_of}
use Rattle.fd_table.proofs.Closing.{close_changes}
use Rattle.fd_table.proofs.Counting.{where_ok}
use Rattle.sys_lookup.specs.Owners.{HasOwners}
use Rattle.sys_lookup.specs.Shared.{process_with_fds, state_of, with_fds}
use Rattle.sys_lookup.proofs.ClosingLemmas.{table_shows}
use Rattle.sys_lookup.proofs.FdChanges.{with_fds-row}
use Rattle.sys_lookup.proofs.OwnerLemmas.{owners_row}
use Rattle.sys_file.proofs.ReferLemmas.{holds, opener, referred}
use Rattle.sys_file.proofs.descriptors.close_open.Goals as goal

-- a result that is `Ok` is no error
no_err : {X E : Type 0} (r : Result X E) → IsOk r → is_err r ≡ true → ⊥
no_err (Ok x) ok err = absurd (true≢false (sym err))
no_err (Err e) ok err = absurd (true≢false (sym ok))

pub unreachable-requires : goal.unreachable-requires
unreachable-requires c =
    let at = referred c.shared.inside c.shared.view_is c.args.who.now c.args.fd _ (holds _ c.requires.open).is in
    no_err c.close.result (c.close.ensures.open (subst IsSome (sym at.did) refl)) (sym c.is_err.ensures.value ∙ c.if-is_err.true)

pub returns : goal.returns
returns c =
    let h = c.shared.inside in
    let s = state_of h in
    let who = c.args.who.now in
    let fd = c.args.fd in
    let valid = subst (λ (x : State). ∥ IsValid x ∥₁) (sym c.shared.view_is) c.requires.valid in
    let stands = opener h c.shared.view_is who c.args.fd _ (holds _ c.requires.open).is in
    let q = process_with_fds h.fds.processes who stands.process in
    let sound = sym c.is_err.ensures.value ∙ c.if-is_err.false in
    let left = where_ok c.close.result sound c.close.ensures.left in
    let emptied = where_ok c.close.result sound c.close.ensures.drained in
    let fewer = map.remove (fds_of h.fds.processes who) fd in
    let rows = map.insert h.fds.processes who fewer in
    (λ i. record s {
      procs = with_fds h.procs.procs (left i).processes;
      descriptions = (left i).descriptions;
      description_numbers = (left i).numbers;
      objects = emptied i;
      entries = c.close.ensures.rest.1 i;
      object_numbers = c.close.ensures.rest.0 i;
    })
    ∙ (λ i. record s { procs = with_fds h.procs.procs rows; descriptions = (left_with h.fds rows).descriptions; objects = objects_after_close h.fds.descriptions (left i).descriptions s.objects })
    ∙ (λ i. record s { procs = with_fds-row h.procs.procs h.fds.processes who stands.process fewer stands.is i; descriptions = (left_with h.fds rows).descriptions; objects = objects_after_close h.fds.descriptions (left_with h.fds rows).descriptions s.objects })
    ∙ sym (close_changes s h.fds (table_shows h c.shared.invariant valid) who fd q)
    ∙ ap (λ (p : Process). apply_changes s (closes s who p fd)) stands.same
    ∙ ap (λ (x : State). apply_changes x (closes x who (process_at c.args.shared.now who) fd)) c.shared.view_is

pub invariant_of-shared : goal.invariant_of-shared
invariant_of-shared c =
    let h = c.shared.inside in
    let who = c.args.who.now in
    let stands = opener h c.shared.view_is who c.args.fd _ (holds _ c.requires.open).is in
    let sound = sym c.is_err.ensures.value ∙ c.if-is_err.false in
    subst (λ (t : OpenFiles). ∥ HasOwners h.procs.procs t.processes ∥₁) (sym (where_ok c.close.result sound c.close.ensures.left))
    (owners_row h.procs.procs h.fds.processes who (map.remove (fds_of h.fds.processes who) c.args.fd) (record { value = stands.process; is = stands.is }) c.shared.invariant)
