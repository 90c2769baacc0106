use Rattle.std.proofs.Common.{◌∙◌, ap, sym}
use Rattle.kern_model.specs.State.{look}
use Rattle.kern_model.specs.Walk.{Entry, enter}
use Rattle.chk_rules.proofs.Steps.{item_goes, item_stops, gives}
use Rattle.sys_lookup.specs.Walks.{found_by}
use Rattle.sys_lookup.proofs.WalkLemmas.{walk_stops}
use Rattle.sys_lookup.proofs.caller.Caller.find_name.Goals as goal

pub returns-in_err-enter-clause-step : goal.returns-in_err-enter-clause-step
returns-in_err-enter-clause-step c =
    item_stops (enter c.args.self.now.state c.args.self.now.process c.args.dir c.args.place) (found_by c.from_residual.result) (walk_stops _ c.from_residual.result c.from_residual.ensures.1) c.in_err-enter.ensures.step

pub returns-clause-step : goal.returns-clause-step
returns-clause-step c =
    item_goes (enter c.args.self.now.state c.args.self.now.process c.args.dir c.args.place) c.in_ok-enter.ensures.step
    (gives (λ i. Entry c.args.dir (c.new.ensures i) (c.look-object.ensures i)))

pub returns-clause-found : goal.returns-clause-found
returns-clause-found c = λ start. record { is_dir = c.in_ok-enter.ensures.dir; leads = ap (look c.args.self.now.state c.args.dir) c.new.ensures ∙ sym c.look-object.ensures }
