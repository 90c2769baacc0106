use Rattle.std.specs.FinMap as map
use Rattle.std.proofs.Common.{◌≡◌, ◌∙◌, Some, ap, option_copied, sym}
use Rattle.kern_model.specs.State.{State, Process}
use Rattle.sys_lookup.specs.Shared.{process_with_fds}
use Rattle.sys_lookup.proofs.CallerLemmas.{kept_is, kept_lives, none_match}
use Rattle.sys_lookup.proofs.FdLemmas.{found, not_found}
use Rattle.sys_lookup.proofs.caller.Caller.find.Goals.{In_ok-process}
use Rattle.sys_lookup.proofs.caller.Caller.find.Goals as goal

-- the process that was found, with its descriptors
there : (c : In_ok-process) → map.get c.args.shared.now.procs c.args.who.now ≡ Some (process_with_fds c.shared.inside.fds.processes c.args.who.now c.in_ok-process.process.now)
there c =
    let h = c.shared.inside in
    ap (λ (s : State). map.get s.procs c.args.who.now) (sym c.shared.view_is) ∙ found h.procs.procs h.fds.processes c.args.who.now c.in_ok-process.process.now (sym c.find.ensures ∙ ap option_copied c.in_ok-process.was)

pub returns : goal.returns
returns c =
    let s = c.args.shared.now in
    let who = c.args.who.now in
    let q = c.in_ok-process.process.now in
    (ap (λ (p : Process). record { state = s; who = who; process = p }) (kept_is s who q _ (there c.before)), kept_lives s who q _ (there c.before))

pub invariant_of-result : goal.invariant_of-result
invariant_of-result c = kept_lives c.args.shared.now c.args.who.now c.in_ok-process.process.now _ (there c.before)

pub returns-in_err-process : goal.returns-in_err-process
returns-in_err-process c =
    let h = c.shared.inside in
    none_match _ c.from_residual.ensures
    (ap (λ (s : State). map.get s.procs c.args.who.now) (sym c.shared.view_is) ∙ not_found h.procs.procs h.fds.processes c.args.who.now (sym c.find.ensures ∙ ap option_copied c.in_err-process.was))
