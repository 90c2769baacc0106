use Rattle.std.proofs.Common.{◌∙◌, ap, arith, subst, sym}
use Rattle.kern_model.specs.World.{procs_at}
use Rattle.world_text.specs.Tree.{Tree}
use Rattle.world_text.specs.declared.builder.Kept.{Kept}
use Rattle.world_text.specs.Indexed.{IsIndexed, count_in}
use Rattle.world_text.proofs.BuilderLemmas.{empty_indexed, process_indexed}
use Rattle.world_text.proofs.PlacingLemmas.{room_without_fault}
use Rattle.world_text.proofs.builder.WorldBuilder.put_process.Goals as goal

pub put_process-requires : goal.put_process-requires
put_process-requires c =
    let label = c.args.process.label in
    let room = room_without_fault c.args.self.now c.args.process c.requires in
    let counts = ap (λ (k : Kept). count_in k.proc_counts label) c.deref_mut.ensures.value ∙ c.self.invariant.procs_are label ∙ ap (λ (t : Tree). procs_at label t.procs) c.self.view_is in
    omega arith

pub invariant_of-self : goal.invariant_of-self
invariant_of-self c =
    process_indexed c.deref_mut.result.now c.put_process.new.self c.args.process (subst (λ (k : Kept). IsIndexed k) (sym c.deref_mut.ensures.value) c.self.invariant) c.in-Ok.ensures

pub invariant_of-self-in-Err : goal.invariant_of-self-in-Err
invariant_of-self-in-Err c = empty_indexed c.new.result c.new.ensures
