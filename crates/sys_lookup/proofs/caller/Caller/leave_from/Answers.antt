use Rattle.std.proofs.Common.{subst}
use Rattle.kern_model.specs.Walk.{last_place}
use Rattle.chk_rules.specs.RowSteps.{GoesOn}
use Rattle.chk_rules.proofs.Steps.{need_goes, need_stops}
use Rattle.sys_lookup.specs.Shared.{metadata_of}
use Rattle.sys_lookup.specs.Walks.{place_in}
use Rattle.sys_lookup.specs.declared.argument.PathArgument.TheVariants.{First}
use Rattle.kern_model.specs.TreeRows.{leave_at}
use Rattle.sys_lookup.proofs.caller.Caller.leave_from.Goals as goal

pub returns-in_err-parent-clause-step : goal.returns-in_err-parent-clause-step
returns-in_err-parent-clause-step c =
    let s = c.args.self.now.state in
    let at = last_place (place_in First) c.args.path.now in
    subst (λ place. GoesOn c.args.checks.now (λ rest. leave_at s c.args.self.now.process c.args.dir.now place c.args.id.now at (rest (metadata_of s c.args.id.now))) c.from_residual.result c.write_object.new.checks) c.dir_place-place.ensures
    (need_stops c.from_residual.result c.from_residual.ensures.1 c.in_err-parent.ensures.step)

pub returns-in_err-dac_write-clause-step : goal.returns-in_err-dac_write-clause-step
returns-in_err-dac_write-clause-step c =
    let s = c.args.self.now.state in
    let at = last_place (place_in First) c.args.path.now in
    subst (λ place. GoesOn c.args.checks.now (λ rest. leave_at s c.args.self.now.process c.args.dir.now place c.args.id.now at (rest (metadata_of s c.args.id.now))) c.from_residual-in_err-dac_write.result c.dac_write.new.checks) c.dir_place-place.ensures
    (need_goes c.in_ok-parent.ensures.step
    (need_stops c.from_residual-in_err-dac_write.result c.from_residual-in_err-dac_write.ensures.1 (c.in_err-dac_write.ensures s c.args.dir.now c.in_ok-parent.ensures.object)))

pub returns-clause-step : goal.returns-clause-step
returns-clause-step c =
    let s = c.args.self.now.state in
    let p = c.args.self.now.process in
    subst (λ place. GoesOn c.args.checks.now (λ rest. leave_at s p c.args.dir.now place c.args.id.now (last_place (place_in First) c.args.path.now) (rest (metadata_of s c.args.id.now))) c.write_object-2.result c.write_object-2.new.checks) c.dir_place-place.ensures
    (subst (λ at. GoesOn c.args.checks.now (λ rest. leave_at s p c.args.dir.now c.dir_place-place.result c.args.id.now at (rest (metadata_of s c.args.id.now))) c.write_object-2.result c.write_object-2.new.checks) c.last_place.ensures
    (need_goes c.in_ok-parent.ensures.step
    (need_goes (c.in_ok-dac_write.ensures s c.args.dir.now c.in_ok-parent.ensures.object) c.write_object-2.ensures.step)))
