use Rattle.std.proofs.Common.{refl, subst, Ok}
use Rattle.fs_path.specs.Name.{Name}
use Rattle.kern_model.specs.declared.numbers.Oid.{Oid}
use Rattle.kern_model.specs.Create.{make_in}
use Rattle.kern_model.specs.Rules.{created_order}
use Rattle.kern_model.specs.TreeRows.{new_spot_found}
use Rattle.kern_model.specs.Walk.{dir_place}
use Rattle.chk_rules.specs.RowSteps.{GoesOn}
use Rattle.chk_rules.proofs.Steps.{then_goes, stops_there, item_goes, item_stops, gives}
use Rattle.sys_lookup.specs.Walks.{place_in}
use Rattle.sys_lookup.specs.declared.argument.PathArgument.TheVariants.{First}
use Rattle.sys_lookup.proofs.making.new_spot.Goals as goal

pub returns-in_err-dir-clause-step : goal.returns-in_err-dir-clause-step
returns-in_err-dir-clause-step c =
    let s = c.args.caller.now.state in
    let p = c.args.caller.now.process in
    let at = dir_place (place_in First) c.args.path.now in
    then_goes {next = new_spot_found s p (place_in First) c.args.path.now (created_order s p)} c.in_ok-walk.ensures.step
    (stops_there {next = λ (e : Oid × Name) rest. make_in s p e.0 at (rest e)} c.from_residual-in_err-dir.result c.from_residual-in_err-dir.ensures.1 (c.in_err-dir.ensures.step c.walk.new.checks))

pub returns-in_err-make_in-clause-step : goal.returns-in_err-make_in-clause-step
returns-in_err-make_in-clause-step c =
    let s = c.args.caller.now.state in
    let p = c.args.caller.now.process in
    let at = dir_place (place_in First) c.args.path.now in
    let dir = c.in_ok-dir.dir in
    then_goes {next = new_spot_found s p (place_in First) c.args.path.now (created_order s p)} c.in_ok-walk.ensures.step
    (then_goes {next = λ (e : Oid × Name) rest. make_in s p e.0 at (rest e)} (c.in_ok-dir.ensures.step c.walk.new.checks)
    (subst (λ place. GoesOn c.walk.new.checks (λ rest. make_in s p dir place (rest (dir, c.in_ok-dir.name))) c.from_residual-in_err-make_in.result c.make_in.new.checks) c.dir_place.ensures
    (item_stops (make_in s p dir c.dir_place.result) c.from_residual-in_err-make_in.result c.from_residual-in_err-make_in.ensures.1 c.in_err-make_in.ensures.step)))

pub returns-clause-step : goal.returns-clause-step
returns-clause-step c =
    let s = c.args.caller.now.state in
    let p = c.args.caller.now.process in
    let at = dir_place (place_in First) c.args.path.now in
    let dir = c.in_ok-dir.dir in
    let name = c.in_ok-dir.name in
    then_goes {next = new_spot_found s p (place_in First) c.args.path.now (created_order s p)} c.in_ok-walk.ensures.step
    (then_goes {next = λ (e : Oid × Name) rest. make_in s p e.0 at (rest e)} (c.in_ok-dir.ensures.step c.walk.new.checks)
    (subst (λ place. GoesOn {X = Oid × Name} c.walk.new.checks (λ rest. make_in s p dir place (rest (dir, name))) (Ok (dir, name)) c.make_in.new.checks) c.dir_place.ensures
    (item_goes (make_in s p dir c.dir_place.result) c.in_ok-make_in.ensures.step (gives refl))))

pub returns-clause-entry : goal.returns-clause-entry
returns-clause-entry c = c.in_ok-dir.ensures.entry c.args.caller.now.state _ c.in_ok-walk.ensures.found
