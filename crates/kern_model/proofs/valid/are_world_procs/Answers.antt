use Rattle.std.proofs.Common.{arith, refl, subst}
use Rattle.std.specs.Prelude.{All}
use Rattle.std.proofs.lemmas.List.{take_all}
use Rattle.std.proofs.lemmas.List.Elements.{All-more}
use Rattle.kern_model.specs.World.{IsWorldProc}
use Rattle.kern_model.proofs.valid.are_world_procs.Goals as goal

pub loop-process-preserved : goal.loop-process-preserved
loop-process-preserved c =
    let right = IsWorldProc c.args.top.now in
    All-more right c.args.procs.now c.loop-process.process-index c.process-item.result (omega arith) c.loop-process.invariant (subst right c.process-item.is (c.is_world_proc.ensures.0 c.if-not-is_world_proc.false))

pub returns : goal.returns
returns c = (λ _. subst (All (IsWorldProc c.args.top.now)) (take_all c.loop-process.process-index c.args.procs.now (omega arith)) c.loop-process.invariant, λ _. refl)
