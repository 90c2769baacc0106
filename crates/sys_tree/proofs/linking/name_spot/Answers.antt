use Rattle.std.proofs.Common.{refl}
use Rattle.kern_model.specs.declared.checks.Place.TheVariants.{Second}
use Rattle.kern_model.specs.Create.{enter_in}
use Rattle.kern_model.specs.Rules.{held_order}
use Rattle.kern_model.specs.TreeRows.{enter_end, new_spot_found}
use Rattle.chk_rules.proofs.Steps.{then_goes, stops_there, item_goes, item_stops, gives}
use Rattle.sys_tree.proofs.EntryLemmas.{equal_directory}
use Rattle.sys_tree.proofs.linking.name_spot.Goals as goal

pub returns-in_err-dir-clause-step : goal.returns-in_err-dir-clause-step
returns-in_err-dir-clause-step c =
    let k = c.args.caller.now in
    then_goes {next = new_spot_found k.state k.process (λ n. Second n) c.args.to.now (held_order k.state c.args.id.now)} c.in_ok-walk.ensures.step
    (stops_there {next = λ e rest. enter_end k.state k.process (λ n. Second n) c.args.to.now (held_order k.state c.args.id.now) e.0 (rest e)} c.from_residual-in_err-dir.result c.from_residual-in_err-dir.ensures.1 (c.in_err-dir.ensures.step c.walk.new.checks))

pub returns-in_err-enter_in-clause-step : goal.returns-in_err-enter_in-clause-step
returns-in_err-enter_in-clause-step c =
    let k = c.args.caller.now in
    then_goes {next = new_spot_found k.state k.process (λ n. Second n) c.args.to.now (held_order k.state c.args.id.now)} c.in_ok-walk.ensures.step
    (then_goes {next = λ e rest. enter_end k.state k.process (λ n. Second n) c.args.to.now (held_order k.state c.args.id.now) e.0 (rest e)} (c.in_ok-dir.ensures.step c.walk.new.checks)
    (item_stops (enter_end k.state k.process (λ n. Second n) c.args.to.now (held_order k.state c.args.id.now) c.in_ok-dir.dir) c.from_residual-in_err-enter_in.result c.from_residual-in_err-enter_in.ensures.1
    (equal_directory (enter_in k.state k.process c.in_ok-dir.dir) k.state c.args.id.now c.in_ok-dir.dir c.dir_place-place.ensures c.held_order.ensures c.in_err-enter_in.ensures.step)))

pub returns-clause-step : goal.returns-clause-step
returns-clause-step c =
    let k = c.args.caller.now in
    then_goes {next = new_spot_found k.state k.process (λ n. Second n) c.args.to.now (held_order k.state c.args.id.now)} c.in_ok-walk.ensures.step
    (then_goes {next = λ e rest. enter_end k.state k.process (λ n. Second n) c.args.to.now (held_order k.state c.args.id.now) e.0 (rest e)} (c.in_ok-dir.ensures.step c.walk.new.checks)
    (item_goes (enter_end k.state k.process (λ n. Second n) c.args.to.now (held_order k.state c.args.id.now) c.in_ok-dir.dir)
    (equal_directory (enter_in k.state k.process c.in_ok-dir.dir) k.state c.args.id.now c.in_ok-dir.dir c.dir_place-place.ensures c.held_order.ensures c.in_ok-enter_in.ensures.step) (gives refl)))

pub returns-clause-entry : goal.returns-clause-entry
returns-clause-entry c = c.in_ok-dir.ensures.entry c.args.caller.now.state _ c.in_ok-walk.ensures.found
