use Rattle.kern_model.specs.Entries.{is_removed}
use Rattle.kern_model.specs.declared.calls.Errno.TheVariants.{ENOENT}
use Rattle.chk_rules.proofs.Steps.{need_goes, need_stops, equal_refusal}
use Rattle.sys_lookup.proofs.CheckLemmas.{not_refused_where_ok}
use Rattle.sys_lookup.proofs.caller.Caller.make_in.Goals as goal

pub returns-in_err-object-clause-step : goal.returns-in_err-object-clause-step
returns-in_err-object-clause-step c = need_stops c.from_residual.result c.from_residual.ensures.1 c.in_err-object.ensures.step

pub returns-in_err-dac_write-clause-step : goal.returns-in_err-dac_write-clause-step
returns-in_err-dac_write-clause-step c =
    let s = c.args.self.now.state in
    need_goes c.in_ok-object.ensures.step
    (need_stops c.from_residual-in_err-dac_write.result c.from_residual-in_err-dac_write.ensures.1 (c.in_err-dac_write.ensures s c.args.dir.now c.in_ok-object.ensures.object))

pub returns-in_err-created_order-clause-step : goal.returns-in_err-created_order-clause-step
returns-in_err-created_order-clause-step c =
    let s = c.args.self.now.state in
    need_goes c.in_ok-object.ensures.step
    (need_goes (c.in_ok-dac_write.ensures s c.args.dir.now c.in_ok-object.ensures.object)
    (need_stops c.from_residual-in_err-created_order.result c.from_residual-in_err-created_order.ensures.1 (c.in_err-created_order.ensures s c.args.dir.now c.in_ok-object.ensures.object)))

pub returns-clause-step : goal.returns-clause-step
returns-clause-step c =
    let s = c.args.self.now.state in
    need_goes c.in_ok-object.ensures.step
    (need_goes (c.in_ok-dac_write.ensures s c.args.dir.now c.in_ok-object.ensures.object)
    (need_goes (c.in_ok-created_order.ensures s c.args.dir.now c.in_ok-object.ensures.object)
    (equal_refusal c.is_removed.ensures (c.refuse_if.ensures c.created_order.new.checks))))

pub returns-clause-stands : goal.returns-clause-stands
returns-clause-stands c =
    let log = c.created_order.new.checks in
    not_refused_where_ok log log ENOENT (is_removed c.args.self.now.state c.args.dir.now) c.refuse_if.result (equal_refusal c.is_removed.ensures (c.refuse_if.ensures log))
