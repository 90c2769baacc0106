use Rattle.std.proofs.Common.{◌∙◌, ap, length, arith}
use Rattle.std.specs.Prelude.{filter_map}
use Rattle.std.proofs.lemmas.Grind.{common_steps}
use Rattle.std.proofs.lemmas.List.{take_all}
use Rattle.std.proofs.lemmas.List.Elements.{filter_map-append}
use Rattle.sec_utils.specs.Calls.{call_on, calls_of}
use Rattle.sec_utils.proofs.ItemLaws.{one_call_each}
use Rattle.sec_utils.proofs.calls.expand.Goals as goal

pub loop-path-preserved : goal.loop-path-preserved
loop-path-preserved c = grind (arith, common_steps, filter_map-append)

pub returns-clause-each : goal.returns-clause-each
unfolding calls_of
returns-clause-each c = ap length (c.loop-path.invariant ∙ ap (filter_map (call_on c.args.util.now)) (take_all _ _ (omega (arith, c.loop-path-test.false, ap length c.items-path-items.ensures)))) ∙ one_call_each c.args.util.now c.requires
