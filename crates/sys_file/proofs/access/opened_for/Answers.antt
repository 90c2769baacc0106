use Rattle.std.proofs.Common.{◌∙◌, ap, refl, not}
use Rattle.kern_model.specs.Descriptors.{Opened}
use Rattle.chk_rules.proofs.Steps.{then_goes, stops_there, refuse_goes, refuse_stops, equal_refusal, gives}
use Rattle.sys_lookup.specs.declared.shared.Metadata.{Metadata}
use Rattle.sys_lookup.specs.Shared.{metadata_of}
use Rattle.sys_file.specs.Access.{access_object, to_access}
use Rattle.sys_file.proofs.ReferLemmas.{step_at}
use Rattle.sys_file.proofs.access.opened_for.Goals as goal

pub returns-in_err-opened-clause-step : goal.returns-in_err-opened-clause-step
returns-in_err-opened-clause-step c =
    stops_there {next = to_access c.args.access c.args.caller.now.state c.args.caller.now.process} c.from_residual.result c.from_residual.ensures.1 (c.in_err-opened.ensures.step c.args.checks.now)

pub returns-in_err-refuse_if-clause-step : goal.returns-in_err-refuse_if-clause-step
returns-in_err-refuse_if-clause-step c =
    then_goes {next = to_access c.args.access c.args.caller.now.state c.args.caller.now.process} (c.in_ok-opened.ensures.step c.args.checks.now)
    (refuse_stops c.from_residual-in_err-refuse_if.result c.from_residual-in_err-refuse_if.ensures.1 (equal_refusal (ap not c.is_open_for.ensures) (c.in_err-refuse_if.ensures c.args.checks.now)))

pub returns-in_err-object-clause-step : goal.returns-in_err-object-clause-step
returns-in_err-object-clause-step c =
    let k = c.args.caller.now in
    then_goes {next = to_access c.args.access k.state k.process} (c.in_ok-opened.ensures.step c.args.checks.now)
    (refuse_goes (equal_refusal (ap not c.is_open_for.ensures) (c.in_ok-refuse_if.ensures c.args.checks.now))
    (stops_there {next = λ (m : Metadata) rest. rest (c.in_ok-opened.opened, m)} c.from_residual-in_err-object.result c.from_residual-in_err-object.ensures.1
    (step_at (access_object c.args.access k.state k.process) (λ i. (c.opened-2.view_is i).description.object) c.in_err-object.ensures.step)))

pub returns-clause-step : goal.returns-clause-step
returns-clause-step c =
    let k = c.args.caller.now in
    then_goes {next = to_access c.args.access k.state k.process} (c.in_ok-opened.ensures.step c.args.checks.now)
    (refuse_goes (equal_refusal (ap not c.is_open_for.ensures) (c.in_ok-refuse_if.ensures c.args.checks.now))
    (then_goes {next = λ (m : Metadata) rest. rest (c.in_ok-opened.opened, m)} (step_at (access_object c.args.access k.state k.process) (λ i. (c.opened-2.view_is i).description.object) c.in_ok-object.ensures.step) (gives refl)))

pub returns-clause-object : goal.returns-clause-object
returns-clause-object c = c.in_ok-object.ensures.object ∙ ap (λ (f : Opened). metadata_of c.args.caller.now.state f.description.object) c.opened-2.view_is
