use Rattle.std.proofs.Common.{subst}
use Rattle.kern_model.specs.Walk.{enter, or_missing}
use Rattle.chk_rules.specs.RowSteps.{GoesOn}
use Rattle.chk_rules.proofs.Steps.{item_goes, item_stops}
use Rattle.sys_lookup.proofs.caller.Caller.pass.Goals as goal

pub returns-in_err-enter : goal.returns-in_err-enter
returns-in_err-enter c = item_stops (enter c.args.self.now.state c.args.self.now.process c.args.dir c.args.place) c.from_residual.result c.from_residual.ensures.1 c.in_err-enter.ensures.step

pub returns : goal.returns
returns c =
    let log = c.enter.new.checks in
    item_goes (enter c.args.self.now.state c.args.self.now.process c.args.dir c.args.place) c.in_ok-enter.ensures.step
    (subst (λ o. GoesOn log (or_missing o) c.present.result log) c.look.ensures (c.present.ensures.step log))
