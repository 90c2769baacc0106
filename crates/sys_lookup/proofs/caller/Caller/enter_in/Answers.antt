use Rattle.kern_model.specs.Create.{write_directory}
use Rattle.kern_model.specs.Entries.{is_removed}
use Rattle.kern_model.specs.declared.calls.Errno.TheVariants.{ENOENT}
use Rattle.chk_rules.proofs.Steps.{item_goes, item_stops, equal_refusal}
use Rattle.sys_lookup.proofs.CheckLemmas.{not_refused_where_ok}
use Rattle.sys_lookup.proofs.caller.Caller.enter_in.Goals as goal

pub returns-in_err-write_directory-clause-step : goal.returns-in_err-write_directory-clause-step
returns-in_err-write_directory-clause-step c =
    item_stops (write_directory c.args.self.now.state c.args.self.now.process c.args.dir.now c.args.place c.args.order.now) c.from_residual.result c.from_residual.ensures.1 c.in_err-write_directory.ensures

pub returns-clause-step : goal.returns-clause-step
returns-clause-step c =
    item_goes (write_directory c.args.self.now.state c.args.self.now.process c.args.dir.now c.args.place c.args.order.now) c.in_ok-write_directory.ensures
    (equal_refusal c.is_removed.ensures (c.refuse_if.ensures c.write_directory.new.checks))

pub returns-clause-stands : goal.returns-clause-stands
returns-clause-stands c =
    let log = c.write_directory.new.checks in
    not_refused_where_ok log log ENOENT (is_removed c.args.self.now.state c.args.dir.now) c.refuse_if.result (equal_refusal c.is_removed.ensures (c.refuse_if.ensures log))
