use Rattle.std.proofs.Common.{ap, sym, subst}
use Rattle.kern_model.specs.declared.checks.Place.TheVariants.{Handle}
use Rattle.kern_model.specs.Descriptors.{Opened}
use Rattle.kern_model.specs.Valid.{IsThere}
use Rattle.chk_rules.proofs.Steps.{then_goes, stops_there, gives}
use Rattle.sys_attr.proofs.ThereLemmas.{path_there, descriptor_there}
use Rattle.sys_attr.proofs.objects.find.Goals as goal

pub returns-in-Path-clause-step : goal.returns-in-Path-clause-step
returns-in-Path-clause-step c = rw c.in-Path.is c.reach.ensures.step

pub returns-in-Path-clause-there : goal.returns-in-Path-clause-there
returns-in-Path-clause-there c = λ valid living.
    let k = c.args.caller.now in
    path_there k.state valid k.who k.process living c.in-Path.path.now c.reach.result c.reach.ensures.led

pub returns-in_err-opened-in-Descriptor-clause-step : goal.returns-in_err-opened-in-Descriptor-clause-step
returns-in_err-opened-in-Descriptor-clause-step c =
    rw c.in-Descriptor.is
    (stops_there {next = λ (f : Opened) rest. rest (f.description.object, Handle)} c.from_residual.result c.from_residual.ensures.1 (c.in_err-opened-in-Descriptor.ensures.step c.args.checks.now))

pub returns-in_ok-opened-in-Descriptor-clause-step : goal.returns-in_ok-opened-in-Descriptor-clause-step
returns-in_ok-opened-in-Descriptor-clause-step c =
    rw c.in-Descriptor.is
    (then_goes {next = λ (f : Opened) rest. rest (f.description.object, Handle)} (c.in_ok-opened-in-Descriptor.ensures.step c.args.checks.now)
    (gives (ap (λ (f : Opened). (f.description.object, Handle)) c.opened-in-Descriptor.view_is)))

pub returns-in_ok-opened-in-Descriptor-clause-there : goal.returns-in_ok-opened-in-Descriptor-clause-there
returns-in_ok-opened-in-Descriptor-clause-there c = λ valid living.
    let k = c.args.caller.now in
    subst (λ (f : Opened). IsThere k.state.objects f.description.object) (sym c.opened-in-Descriptor.view_is)
    (descriptor_there k.state valid k.process c.in-Descriptor.fd c.in_ok-opened-in-Descriptor.opened c.in_ok-opened-in-Descriptor.ensures.found)
