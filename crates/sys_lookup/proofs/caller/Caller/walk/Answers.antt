use Rattle.std.proofs.Common.{◌∙◌, sym, subst}
use Rattle.kern_model.specs.declared.checks.Place.{Place}
use Rattle.kern_model.specs.Walk.{start_of}
use Rattle.chk_rules.specs.RowSteps.{GoesOn}
use Rattle.sys_lookup.specs.Walks.{find_name, found_by, place_in}
use Rattle.sys_lookup.proofs.WalkLemmas.{walk_stops}
use Rattle.sys_lookup.proofs.PassLemmas.{but_last, goes_to_last, stops_before_last}
use Rattle.sys_lookup.proofs.caller.Caller.walk.Goals as goal

pub returns-in_err-dir-in-len1-up-clause-step : goal.returns-in_err-dir-in-len1-up-clause-step
returns-in_err-dir-in-len1-up-clause-step c =
    stops_before_last c.args.self.now.state c.args.self.now.process (place_in c.args.which) c.start_of-start.result c.args.path.now _ c.last-item.result c.start_of-start.ensures
    (sym c.components.ensures.names ∙ but_last _ _ c.in-len1-up.len_at_least c.last-item.is)
    (found_by c.from_residual.result) (walk_stops _ c.from_residual.result c.from_residual.ensures.1) c.in_err-dir-in-len1-up.ensures

pub returns-in_ok-dir-in-len1-up-clause-step : goal.returns-in_ok-dir-in-len1-up-clause-step
returns-in_ok-dir-in-len1-up-clause-step c =
    goes_to_last c.args.self.now.state c.args.self.now.process (place_in c.args.which) c.start_of-start.result c.args.path.now _ c.last-item.result c.start_of-start.ensures
    (sym c.components.ensures.names ∙ but_last _ _ c.in-len1-up.len_at_least c.last-item.is)
    c.in_ok-dir-in-len1-up.ensures
    (subst (λ (place : Place). GoesOn c.pass_all.new.checks (find_name c.args.self.now.state c.args.self.now.process place c.in_ok-dir-in-len1-up.dir c.last-item.result) (found_by c.find_name.result) c.find_name.new.checks) c.place-place.ensures c.find_name.ensures.step)

pub returns-in_ok-dir-in-len1-up-clause-found : goal.returns-in_ok-dir-in-len1-up-clause-found
returns-in_ok-dir-in-len1-up-clause-found c = c.find_name.ensures.found (start_of c.args.self.now.process c.args.path.now)
