use Rattle.std.proofs.Common.{ap, sym, ◌∙◌}
use Rattle.world_text.specs.Placing.{object_fault}
use Rattle.world_text.specs.Tree.{Tree}
use Rattle.world_text.proofs.LineLemmas.{object_mixed, object_refused}
use Rattle.world_text.proofs.expecting.PartialWorld.parse_object.Goals as goal

pub returns-in-Some : goal.returns-in-Some
returns-in-Some c = object_refused c.args.self.now c.args.object c.args.uniform c.in-Some.fault (sym c.in-Some.is ∙ c.object_fault.ensures ∙ ap (λ (t : Tree). object_fault t c.args.object) c.spot_of-spot.ensures.same)

pub returns-in-None : goal.returns-in-None
returns-in-None c = object_mixed c.args.self.now c.args.object c.args.uniform (sym c.in-None.is ∙ c.object_fault.ensures ∙ ap (λ (t : Tree). object_fault t c.args.object) c.spot_of-spot.ensures.same) c.if-not-uniform.true
