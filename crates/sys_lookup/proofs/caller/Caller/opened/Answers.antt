use Rattle.std.proofs.Common.{◌≡◌, ◌∙◌, ap, sym, subst}
use Rattle.kern_model.specs.Descriptors.{open_description}
use Rattle.fd_table.specs.Files.{opened_at}
use Rattle.sys_lookup.specs.Callers.{CallerView, IsLiving}
use Rattle.sys_lookup.proofs.RefuseLemmas.{is_open, not_open}
use Rattle.sys_lookup.proofs.StandsLemmas.{opened_is}
use Rattle.sys_lookup.proofs.caller.Caller.opened.Goals.{After-opened}
use Rattle.sys_lookup.proofs.caller.Caller.opened.Goals as goal

-- what was found in the table is what the descriptor refers to
found : (c : After-opened) → open_description c.args.self.now.state c.args.self.now.process c.args.fd ≡ c.opened.result
found c =
    let k = c.args.self.now in
    let h = c.shared.inside in
    sym (opened_is h k (c.shared.view_is ∙ ap (λ (x : CallerView). x.state) c.self.view_is) (subst IsLiving c.self.view_is c.self.invariant) c.args.fd)
    ∙ ap (λ (x : CallerView). opened_at h.fds x.who c.args.fd) (sym c.self.view_is) ∙ sym c.opened.ensures

pub returns-in-Some-clause-found : goal.returns-in-Some-clause-found
returns-in-Some-clause-found c = found c.before ∙ c.in-Some.is

pub returns-in-Some-clause-step : goal.returns-in-Some-clause-step
returns-in-Some-clause-step c = λ log. is_open log (found c.before ∙ c.in-Some.is)

pub returns-in-None-clause-step : goal.returns-in-None-clause-step
returns-in-None-clause-step c = λ log. not_open log (found c.before ∙ c.in-None.is)
