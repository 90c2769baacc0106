use Rattle.std.specs.FinMap as map
use Rattle.std.proofs.Common.{◌∙◌, ap, sym}
use Rattle.kern_model.specs.State.{State}
use Rattle.sys_lookup.proofs.FdLemmas.{keys-with_fds}
use Rattle.sys_lookup.proofs.shared.Shared.live.Goals as goal

pub returns : goal.returns
returns c =
    let h = c.self.inside in
    c.in_ok-numbers.ensures ∙ sym (keys-with_fds h.procs.procs h.fds.processes) ∙ ap (λ (s : State). map.keys s.procs) c.self.view_is
