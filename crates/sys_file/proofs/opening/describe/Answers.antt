use Rattle.std.proofs.lemmas.Result.{IfOk-weaker, on_ok_weaker}
use Rattle.std.proofs.Common.{◌≡◌, ◌∙◌, ap, sym, subst, ◌+◌, true, cond, None, Some, Option, nat_le}
use Rattle.kern_model.specs.declared.limits.TheConstants.{MAX_DESCRIPTIONS, MAX_DESCRIPTORS}
use Rattle.kern_model.specs.Descriptors.{lowest_free}
use Rattle.kern_model.specs.FileRows.{description_creation_after}
use Rattle.kern_model.specs.State.{State, Process, apply_changes, last_drawn, process_at}
use Rattle.kern_model.specs.Valid.{IsThere}
use Rattle.fd_table.specs.declared.table.FdError.{FdError}
use Rattle.fd_table.specs.declared.table.FdError.TheVariants as error
use Rattle.fd_table.specs.Files.{OpenFiles, opened_for}
use Rattle.fd_table.specs.Fds.{fd_count}
use Rattle.fd_table.proofs.Counting.{either_way}
use Rattle.sys_lookup.specs.Callers.{CallerView}
use Rattle.sys_lookup.specs.Owners.{HasOwners}
use Rattle.sys_lookup.specs.Shared.{state_of}
use Rattle.sys_lookup.proofs.FdChanges.{ShowTheSame, opened_shows, with_files}
use Rattle.sys_lookup.proofs.OwnerLemmas.{owners_others, owners_row}
use Rattle.sys_file.proofs.ReferLemmas.{caller_stands}
use Rattle.sys_file.proofs.opening.describe.Goals as goal

pub open_next-requires-clause-room : goal.open_next-requires-clause-room
open_next-requires-clause-room c =
    let h = c.shared.inside in
    let who = c.args.who.now in
    let p = process_at c.args.shared.now who in
    let stands = caller_stands h c.shared.view_is who c.requires.living in
    let label_is : c.label-label.result ≡ p.label = c.label-label.ensures ∙ ap (λ (k : CallerView). k.process.label) c.new.ensures.caller in
    let fds = c.reserve.ensures.same who ∙ ap (λ (x : Process). x.fds) stands.same in
    let numbers = c.reserve.ensures.numbers ∙ ap (λ (x : State). x.description_numbers) c.shared.view_is in
    let free : nat_le (fd_count p.fds + 1) MAX_DESCRIPTORS ≡ true = c.requires.free in
    let left : nat_le (last_drawn c.args.shared.now.description_numbers p.label + 1) MAX_DESCRIPTIONS ≡ true = c.requires.left in
    (λ i. cond (nat_le (fd_count (fds i) + 1) MAX_DESCRIPTORS) (cond (nat_le (last_drawn (numbers i) (label_is i) + 1) MAX_DESCRIPTIONS) None (Some error.Full)) (Some error.TooMany))
    ∙ ap (λ b. cond {A = Option FdError} b (cond (nat_le (last_drawn c.args.shared.now.description_numbers p.label + 1) MAX_DESCRIPTIONS) None (Some error.Full)) (Some error.TooMany)) free
    ∙ ap (λ b. cond {A = Option FdError} b None (Some error.Full)) left

pub returns-clause-fd : goal.returns-clause-fd
returns-clause-fd c =
    let stands = caller_stands c.shared.inside c.shared.view_is c.args.who.now c.requires.living in
    let fds = c.reserve.ensures.same c.args.who.now ∙ ap (λ (x : Process). x.fds) stands.same in
    IfOk-weaker c.open_next.result _ _ (λ fd lowest. lowest ∙ ap lowest_free fds) c.open_next.ensures.fd

pub returns-clause-described : goal.returns-clause-described
returns-clause-described c =
    let h = c.shared.inside in
    let s = state_of h in
    let who = c.args.who.now in
    let p = process_at c.args.shared.now who in
    let stands = caller_stands h c.shared.view_is who c.requires.living in
    let label_is : c.label-label.result ≡ p.label = c.label-label.ensures ∙ ap (λ (k : CallerView). k.process.label) c.new.ensures.caller in
    let same : ShowTheSame h.fds c.reserve.new.self = record { processes = c.reserve.ensures.same; descriptions = c.reserve.ensures.descriptions; numbers = c.reserve.ensures.numbers } in
    on_ok_weaker c.open_next.result
    (λ opened. ap (with_files s h.procs.procs) opened
    ∙ opened_shows s h.procs.procs h.fds c.reserve.new.self same who stands.process stands.is c.label-label.result (opened_for c.args.id.now c.how.result)
    ∙ (λ i. apply_changes (c.shared.view_is i) (description_creation_after (last_drawn (c.shared.view_is i).description_numbers (label_is i)) (label_is i) who (stands.same i) (opened_for c.args.id.now (c.how.ensures i)))))
    c.open_next.ensures.opened

pub invariant_of-shared : goal.invariant_of-shared
invariant_of-shared c =
    let h = c.shared.inside in
    let stands = caller_stands h c.shared.view_is c.args.who.now c.requires.living in
    owners_others h.procs.procs h.fds.processes c.reserve.new.self.processes c.args.who.now (record { value = stands.process; is = stands.is }) c.reserve.ensures.others c.shared.invariant

pub invariant_of-shared-2 : goal.invariant_of-shared-2
invariant_of-shared-2 c =
    let h = c.shared.inside in
    let who = c.args.who.now in
    let rows = c.reserve.new.self.processes in
    let stands = caller_stands h c.shared.view_is who c.requires.living in
    let there : IsThere h.procs.procs who = record { value = stands.process; is = stands.is } in
    let owners = owners_others h.procs.procs h.fds.processes rows who there c.reserve.ensures.others c.shared.invariant in
    either_way c.open_next.result
    (λ opened _. subst (λ (t : OpenFiles). ∥ HasOwners h.procs.procs t.processes ∥₁) (sym opened) (owners_row h.procs.procs rows who _ there owners))
    (λ same. subst (λ (t : OpenFiles). ∥ HasOwners h.procs.procs t.processes ∥₁) (sym same) owners)
    c.open_next.ensures.opened c.open_next.ensures.opened c.open_next.ensures.err
