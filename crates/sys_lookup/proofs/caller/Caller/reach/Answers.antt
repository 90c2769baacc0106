use Rattle.kern_model.specs.Walk.{last_place, start_of, to_object}
use Rattle.chk_rules.proofs.Steps.{then_goes, stops_there, gives}
use Rattle.sys_lookup.specs.Walks.{place_in}
use Rattle.sys_lookup.proofs.caller.Caller.reach.Goals as goal

pub returns-in_err-id-clause-step : goal.returns-in_err-id-clause-step
returns-in_err-id-clause-step c =
    let place = last_place (place_in c.args.which) c.args.path.now in
    then_goes {next = λ found rest. to_object found (λ id. rest (id, place))} c.in_ok-found.ensures.step
    (stops_there {next = λ id rest. rest (id, place)} c.from_residual-in_err-id.result c.from_residual-in_err-id.ensures.1 (c.in_err-id.ensures.step c.walk.new.checks))

pub returns-clause-step : goal.returns-clause-step
returns-clause-step c =
    let place = last_place (place_in c.args.which) c.args.path.now in
    then_goes {next = λ found rest. to_object found (λ id. rest (id, place))} c.in_ok-found.ensures.step
    (then_goes {next = λ id rest. rest (id, place)} (c.in_ok-id.ensures.step c.walk.new.checks) (gives (λ i. (c.in_ok-id.id, c.last_place.ensures i))))

pub returns-clause-led : goal.returns-clause-led
returns-clause-led c = c.in_ok-id.ensures.led c.args.self.now.state (start_of c.args.self.now.process c.args.path.now) c.in_ok-found.ensures.found
