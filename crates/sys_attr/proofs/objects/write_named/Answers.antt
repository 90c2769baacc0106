use Rattle.std.proofs.Common.{◌∙◌, ap, refl, sym, subst}
use Rattle.kern_model.specs.Valid.{IsThere}
use Rattle.chk_rules.proofs.Steps.{then_goes, stops_there, gives}
use Rattle.sys_lookup.specs.Shared.{metadata_of}
use Rattle.sys_lookup.specs.declared.shared.Metadata.{Metadata}
use Rattle.sys_attr.specs.Objects.{write_found}
use Rattle.sys_attr.proofs.objects.write_named.Goals as goal

pub returns-in_err-id-clause-step : goal.returns-in_err-id-clause-step
returns-in_err-id-clause-step c = stops_there {next = write_found c.args.caller.now.state c.args.caller.now.process} c.from_residual.result c.from_residual.ensures.1 c.in_err-id.ensures.step

pub returns-in_err-metadata-clause-step : goal.returns-in_err-metadata-clause-step
returns-in_err-metadata-clause-step c =
    let s = c.args.caller.now.state in
    then_goes {next = write_found s c.args.caller.now.process} c.in_ok-id.ensures.step
    (stops_there {next = λ m rest. rest (m, c.in_ok-id.place)} c.from_residual-in_err-metadata.result c.from_residual-in_err-metadata.ensures.1 c.in_err-metadata.ensures.step)

pub returns-clause-step : goal.returns-clause-step
returns-clause-step c =
    let s = c.args.caller.now.state in
    then_goes {next = write_found s c.args.caller.now.process} c.in_ok-id.ensures.step
    (then_goes {next = λ (m : Metadata) rest. rest (m, c.in_ok-id.place)} c.in_ok-metadata.ensures.step (gives refl))

pub returns-clause-object : goal.returns-clause-object
returns-clause-object c =
    let is = c.in_ok-metadata.ensures.object in
    is ∙ ap (metadata_of c.args.caller.now.state) (sym (ap (λ (m : Metadata). m.id) is))

pub returns-clause-there : goal.returns-clause-there
returns-clause-there c =
    let s = c.args.caller.now.state in
    subst (IsThere s.objects) (sym (ap (λ (m : Metadata). m.id) c.in_ok-metadata.ensures.object)) (c.in_ok-id.ensures.there c.requires.valid c.requires.living)
