use Rattle.std.proofs.Common.{ap}
use Rattle.std.proofs.lemmas.Result.{IfOk-weaker}
use Rattle.std.specs.Prelude.{Some}
use Rattle.lab_engine.specs.Generated.{GeneratedState}
use Rattle.labsys.proofs.DrillLemmas.{drilled, never_ends}
use Rattle.labsys.proofs.WorldLemmas.{is_opened}
use Rattle.labsys.proofs.drilling.drill_generated.Goals as goal

pub drill_world-requires : goal.drill_world-requires
drill_world-requires c = is_opened _ _ _ c.in_ok-opened.ensures.opens c.in-World.opened c.in-World.is

pub unreachable-requires : goal.unreachable-requires
unreachable-requires c =
    let left_is = ap (λ (s : GeneratedState). Some s.left) c.new-source.ensures in
    never_ends _ _ _ c.in_ok-opened.ensures.opens c.args.number left_is c.requires.1 _ c.in-Ended.is

pub returns : goal.returns
returns c =
    let left_is = ap (λ (s : GeneratedState). Some s.left) c.new-source.ensures in
    IfOk-weaker c.drill_world.result _ _ (λ text did. drilled _ _ _ c.in_ok-opened.ensures.opens c.args.number left_is c.in-World.opened c.in-World.is _ text.items did) c.drill_world.ensures
