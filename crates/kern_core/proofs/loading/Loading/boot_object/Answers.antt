use Rattle.std.proofs.Common.{◌∙◌, ◌+◌, ap, subst, refl, Some, None, Option}
use Rattle.std.specs.FinMap as map
use Rattle.kern_model.specs.declared.numbers.Oid.{Oid}
use Rattle.kern_model.specs.Keys.{Spot}
use Rattle.kern_model.specs.Kinds.{object_with}
use Rattle.kern_model.specs.State.{last_drawn, next_object, root}
use Rattle.kern_core.specs.Starts.{IsSpotOf, state_loaded, world_object}
use Rattle.kern_core.proofs.BootLemmas.{leads_still, object_booted}
use Rattle.kern_core.proofs.loading.Loading.boot_object.Goals as goal

pub returns-in_ok-set-clause-state : goal.returns-in_ok-set-clause-state
returns-in_ok-set-clause-state c =
    let s = state_loaded c.args.self.now in
    let o = world_object c.args.path.now c.args.label c.args.attr c.args.body in
    let new = object_with o.label o.attr o.body in
    (λ i. record s { object_numbers = (c.in_ok-id.ensures.made i).numbers; objects = (c.in_ok-id.ensures.made i).objects; entries = c.in_ok-set.ensures i })
    ∙ ap (λ (id : Oid). record s { object_numbers = map.insert s.object_numbers o.label (last_drawn s.object_numbers o.label + 1); objects = map.insert s.objects (next_object s o.label) new; entries = map.insert s.entries c.in-Some.spot id }) c.in_ok-id.ensures.id
    ∙ object_booted s o (last_drawn s.object_numbers o.label + 1) refl new refl _ refl _ c.components.ensures.names (Some c.in-Some.spot)
    (subst (λ (spot : Option Spot). IsSpotOf s root c.components.result.now spot) c.in-Some.is c.in_ok-spot.ensures.spot)

pub returns-in_default-clause-state : goal.returns-in_default-clause-state
returns-in_default-clause-state c =
    let s = state_loaded c.args.self.now in
    let o = world_object c.args.path.now c.args.label c.args.attr c.args.body in
    let new = object_with o.label o.attr o.body in
    (λ i. record s { object_numbers = (c.in_ok-id.ensures.made i).numbers; objects = (c.in_ok-id.ensures.made i).objects })
    ∙ object_booted s o (last_drawn s.object_numbers o.label + 1) refl new refl _ refl _ c.components.ensures.names None
    (subst (λ (spot : Option Spot). IsSpotOf s root c.components.result.now spot) c.in_default.is c.in_ok-spot.ensures.spot)

pub returns-in_ok-set-clause-last : goal.returns-in_ok-set-clause-last
returns-in_ok-set-clause-last c =
    leads_still c.args.self.now.spots c.set.new.self c.in-Some.spot c.in_ok-id.id c.leave.new.self c.in_ok-set.ensures c.leave.ensures.apart (c.leave.ensures.leads c.args.self.now.spots c.in_ok-spot.ensures.last)
