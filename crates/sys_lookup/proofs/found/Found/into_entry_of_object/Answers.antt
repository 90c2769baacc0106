use Rattle.std.proofs.Common.{◌∙◌, refl}
use Rattle.kern_model.specs.Walk.{or_missing}
use Rattle.chk_rules.proofs.Steps.{then_goes, stops_there, gives}
use Rattle.sys_lookup.proofs.found.Found.into_entry_of_object.Goals as goal

pub returns-in_err-dir-clause-step : goal.returns-in_err-dir-clause-step
returns-in_err-dir-clause-step c = λ log.
    stops_there {next = λ e rest. or_missing e.2 (λ id. rest (e.0, e.1, id))} c.from_residual.result c.from_residual.ensures.1 (c.in_err-dir.ensures.step log)

pub returns-in_err-id-clause-step : goal.returns-in_err-id-clause-step
returns-in_err-id-clause-step c = λ log.
    then_goes {next = λ e rest. or_missing e.2 (λ id. rest (e.0, e.1, id))} (c.in_ok-dir.ensures.step log)
    (stops_there {next = λ id rest. rest (c.in_ok-dir.dir, c.in_ok-dir.name, id)} c.from_residual-in_err-id.result c.from_residual-in_err-id.ensures.1 (c.in_err-id.ensures.step log))

pub returns-clause-step : goal.returns-clause-step
returns-clause-step c = λ log.
    then_goes {next = λ e rest. or_missing e.2 (λ id. rest (e.0, e.1, id))} (c.in_ok-dir.ensures.step log)
    (then_goes {next = λ id rest. rest (c.in_ok-dir.dir, c.in_ok-dir.name, id)} (c.in_ok-id.ensures.step log) (gives refl))

pub returns-clause-entry : goal.returns-clause-entry
returns-clause-entry c = λ s start found. let entry = c.in_ok-dir.ensures.entry s start found in record { is_dir = entry.is_dir; leads = entry.leads ∙ c.in_ok-id.ensures.some }
