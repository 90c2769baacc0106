use Rattle.std.proofs.Common.{◌∙◌, ap, refl, sym, option_map}
use Rattle.std.specs.FinMap as map
use Rattle.kern_model.specs.State.{State}
use Rattle.proc_table.specs.Procs.{creds_of}
use Rattle.sys_lookup.proofs.FdLemmas.{field-with_fds}
use Rattle.sys_proc.proofs.ends.receiver_of.Goals as goal

pub returns : goal.returns
returns c =
    let h = c.shared.inside in
    ap (option_map creds_of) c.find.ensures
    ∙ sym (field-with_fds creds_of (λ _ _ _. refl) h.procs.procs h.fds.processes c.args.target.now)
    ∙ ap (λ (s : State). option_map creds_of (map.get s.procs c.args.target.now)) c.shared.view_is
