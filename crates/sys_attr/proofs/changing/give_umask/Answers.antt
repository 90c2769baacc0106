use Rattle.std.proofs.Common.{◌≡◌, ◌∙◌, Some, IsSome, ap, subst, sym}
use Rattle.std.specs.FinMap as map
use Rattle.std.specs.Option.{option_copied_mut}
use Rattle.kern_model.specs.State.{SetProcess, State, apply_change, process_at}
use Rattle.kern_model.proofs.StateLemmas.{process_there}
use Rattle.proc_creds.specs.Credentials.{Credentials}
use Rattle.proc_table.specs.Procs.{creds_of, with_creds}
use Rattle.sys_lookup.specs.Shared.{with_fds}
use Rattle.sys_lookup.proofs.OwnerLemmas.{owners_creds}
use Rattle.sys_lookup.proofs.LendLemmas.{creds_left, creds_lent, creds_there}
use Rattle.sys_attr.proofs.ChangeLemmas.{process_set}
use Rattle.sys_attr.proofs.changing.give_umask.Goals.{After-creds}
use Rattle.sys_attr.proofs.changing.give_umask.Goals as goal

pub unreachable-requires : goal.unreachable-requires
unreachable-requires c =
    let h = c.shared.inside in
    let who = c.args.who.now in
    creds_there h.procs.procs h.fds.processes who (subst (λ (t : State). IsSome (map.get t.procs who)) (sym c.shared.view_is) c.requires) (sym c.creds_mut.ensures.value ∙ ap option_copied_mut c.in_default.is)

pub invariant_of-shared : goal.invariant_of-shared
invariant_of-shared c = owners_creds c.shared.inside.procs.procs c.shared.inside.fds.processes c.args.who.now _ c.shared.invariant

-- the process stands in the table
stands : (c : After-creds) → map.get (with_fds c.shared.inside.procs.procs c.shared.inside.fds.processes) c.args.who.now ≡ Some (process_at c.args.shared.now c.args.who.now)
stands c = ap (λ (t : State). map.get t.procs c.args.who.now) c.shared.view_is ∙ process_there c.args.shared.now c.args.who.now c.requires

-- its credentials are lent
lent : (c : After-creds) → c.in-Some.creds.now ≡ creds_of (process_at c.args.shared.now c.args.who.now)
lent c = sym (creds_lent c.shared.inside.procs.procs c.shared.inside.fds.processes c.args.who.now _ (stands c) c.in-Some.creds.now c.in-Some.ensures.value)

pub returns-clause-bits : goal.returns-clause-bits
returns-clause-bits c = ap (λ (x : Credentials). x.umask) (c.creds.view_is ∙ lent c.before.before)

pub returns-clause-changed : goal.returns-clause-changed
returns-clause-changed c =
    let h = c.shared.inside in
    let s = c.args.shared.now in
    let who = c.args.who.now in
    let p = process_at s who in
    let inside = c.creds.inside in
    let left : Credentials = record { ids = inside.ids; label = inside.label; caps = inside.caps; umask = c.args.mode } in
    process_set c.shared.view_is who (with_creds p left) (creds_left h.procs.procs h.fds.processes who p (stands c.before.before) left)
    ∙ ap (λ (x : Credentials). apply_change s (SetProcess who (with_creds p (record x { umask = c.args.mode })))) (c.creds.view_is ∙ lent c.before.before)
