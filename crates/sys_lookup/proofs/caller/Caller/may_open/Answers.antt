use Rattle.std.proofs.Common.{◌≡◌, ◌∙◌, Err, Some, ap, refl, sym, subst, not}
use Rattle.chk_rules.proofs.Steps.{refuse_goes, refuse_stops}
use Rattle.fd_table.specs.Files.{open_refusal}
use Rattle.fd_table.specs.declared.table.FdError.{FdError}
use Rattle.chk_rules.specs.declared.stop.Stop.TheVariants as stop
use Rattle.kern_model.specs.Row.{Refuse}
use Rattle.kern_model.specs.declared.calls.Errno.TheVariants.{EMFILE, ENFILE}
use Rattle.kern_model.specs.FileRows.{has_descriptions, has_free_descriptors}
use Rattle.sys_lookup.specs.Callers.{CallerView, IsLiving}
use Rattle.sys_lookup.proofs.RefuseLemmas.{lets_on, refuses}
use Rattle.sys_lookup.proofs.StandsLemmas.{refusal, refusal_is, none_refused, too_many, all_drawn}
use Rattle.sys_lookup.proofs.caller.Caller.may_open.Goals.{After-open_refusal}
use Rattle.sys_lookup.proofs.caller.Caller.may_open.Goals as goal

-- what the table refuses is what the row refuses
refused : (c : After-open_refusal) → refusal (has_free_descriptors c.args.self.now.process c.args.n) (has_descriptions c.args.self.now.state c.args.self.now.process c.args.n) ≡ c.open_refusal.result
refused c =
    let k = c.args.self.now in
    let h = c.shared.inside in
    sym (refusal_is h k (c.shared.view_is ∙ ap (λ (x : CallerView). x.state) c.self.view_is) (subst IsLiving c.self.view_is c.self.invariant) c.args.n)
    ∙ (λ i. open_refusal h.fds (sym c.self.view_is i).who (sym c.label.ensures i) c.args.n) ∙ sym c.open_refusal.ensures

pub returns-in-None-clause-free : goal.returns-in-None-clause-free
returns-in-None-clause-free c = (none_refused _ _ (refused c.before ∙ c.in-None.is)).is_free

pub returns-in-None-clause-left : goal.returns-in-None-clause-left
returns-in-None-clause-left c = (none_refused _ _ (refused c.before ∙ c.in-None.is)).is_left

pub returns-in-None-clause-step : goal.returns-in-None-clause-step
returns-in-None-clause-step c = λ log.
    let none = none_refused _ _ (refused c.before ∙ c.in-None.is) in
    refuse_goes (lets_on (ap not none.is_free)) (lets_on (ap not none.is_left))

pub returns-in-Some-TooMany-clause-step : goal.returns-in-Some-TooMany-clause-step
returns-in-Some-TooMany-clause-step c = λ log.
    refuse_stops {part = λ rest. Refuse ENFILE (not (has_descriptions c.args.self.now.state c.args.self.now.process c.args.n)) (rest tt)} (Err (stop.Refused EMFILE)) refl
    (refuses (ap not (too_many _ _ (refused c.before ∙ c.in-Some-TooMany.is ∙ ap (λ (e : FdError). Some e) c.in-Some-TooMany.field-0-is))))

pub returns-in-Some-Full-clause-step : goal.returns-in-Some-Full-clause-step
returns-in-Some-Full-clause-step c = λ log.
    let full = all_drawn _ _ (refused c.before ∙ c.in-Some-Full.is ∙ ap (λ (e : FdError). Some e) c.in-Some-Full.field-0-is) in
    refuse_goes (lets_on (ap not full.is_free)) (refuses (ap not full.none_left))
